-- What an object part means: a list of reports.
use Rattle.std.specs.Prelude.{◌≡◌, ◌≢◌, OnOk, OnErr, ℕ, zero, suc, ◌+◌, ◌≤◌, ◌==◌, List, []}
use Rattle.std.specs.Prelude.{◌∷◌, ◌++◌, length, take, drop, Option, Some, None, Result, Ok, if◌then◌else◌}
use Rattle.gw_model.specs.declared.point.Stamp.{Stamp}
use Rattle.gw_model.specs.declared.point.Stamp.TheVariants.{Untimed, At, Doubtful}
use Rattle.gw_model.specs.declared.point.Report.{Report}
use Rattle.dnp_objects.specs.declared.fault.ObjectFault.{ObjectFault}
use Rattle.dnp_objects.specs.declared.header.Header.{Header}
use Rattle.dnp_objects.specs.declared.object.Size.{Size}
use Rattle.dnp_objects.specs.declared.object.Size.TheVariants.{Octets, Bits}
use Rattle.dnp_objects.specs.Library.{Role, Point, CommonTime, Echo, SteppedOver, Variation, object_of, size_of}
use Rattle.gw_model.specs.Outcome.{◌>>=◌}
use Rattle.dnp_objects.specs.Headers.{number, octets_after, headers_of, IsPart}
use Rattle.dnp_points.specs.declared.objects.Objects.{Objects}
use Rattle.dnp_points.specs.Values.{IsClock, bits_of}
use Rattle.dnp_points.specs.Objects.{AreWhole, ArePacked, whole_from, packed_from}

-- the octets of a header's objects: those from their first one on
abbrev pub octets_of_objects : List ℕ → Variation → Header → List ℕ
octets_of_objects part v h = take (octets_after v h) (drop h.start part)

-- ---- the common time

-- a common time of occurrence: variation 1 is of a synchronized clock, 2 of one that isn't
abbrev pub time_by : ℕ → ℕ → Stamp
time_by variation milliseconds = if variation == 1 then At milliseconds else Doubtful milliseconds

-- the times that so many octets after each other give, six octets each
abbrev pub times_from : ℕ → ℕ → List ℕ → List Stamp
times_from variation zero octets = []
times_from variation (suc n) octets =
    time_by variation (number (take 6 octets)) ∷ times_from variation n (drop 6 octets)

-- the times that the objects of a header give: none unless they are common times
abbrev pub times_by_role : Role → Header → List ℕ → List Stamp
times_by_role CommonTime h body = times_from h.variation h.count body
times_by_role (Point kind) h body = []
times_by_role Echo h body = []
times_by_role SteppedOver h body = []

abbrev pub times_of : List ℕ → Option Variation → Header → List Stamp
times_of part None h = []
times_of part (Some v) h = times_by_role v.role h (octets_of_objects part v h)

-- all times that headers of a part give, in order
abbrev pub all_times : List ℕ → List Header → List Stamp
all_times part [] = []
all_times part (h ∷ hs) = times_of part (object_of h.group h.variation) h ++ all_times part hs

-- the last of a list, or another where it is empty
abbrev pub last_or : Stamp → List Stamp → Stamp
last_or other [] = other
last_or other (stamp ∷ stamps) = last_or stamp stamps

-- the common time of an object: the last one that the headers before it in its part give, or none
abbrev pub common_time : List ℕ → List Header → Stamp
common_time part before = last_or Untimed (all_times part before)

-- ---- reports of a part

-- the objects of a header of a part, and their reports, where this is the common time before them
abbrev pub AreSized : Size → Variation → ℕ → Stamp → Header → List ℕ → List Report → Type 0
AreSized (Octets long) v outstation common h body rs =
    AreWhole v long outstation common h.prefix h.first h.count body rs
AreSized (Bits width) v outstation common h body rs = ArePacked v width outstation h.first h.count (bits_of body) rs

abbrev pub AreObjects : List ℕ → Option Variation → ℕ → Stamp → Header → List Report → Type 0
AreObjects part None outstation common h rs = rs ≡ []
AreObjects part (Some v) outstation common h rs =
    AreSized (size_of v) v outstation common h (octets_of_objects part v h) rs

-- the objects of headers of a part, where other headers stand before them, report this
abbrev pub AreReports : ℕ → List ℕ → List Header → List Header → List Report → Type 0
AreReports outstation part before [] rs = rs ≡ []
AreReports outstation part before (h ∷ hs) rs = (one : List Report) × (others : List Report)
    × AreObjects part (object_of h.group h.variation) outstation (common_time part before) h one
    × (rs ≡ one ++ others) × AreReports outstation part (before ++ h ∷ []) hs others

-- an object part means these reports: it is at most 512 headers, each followed by its objects, which report this
-- in order
pub record Means (outstation : ℕ) (part : List ℕ) (rs : List Report) : Type 0 where
  pub headers : List Header
  pub read : IsPart part headers
  pub reports : AreReports outstation part [] headers rs

-- ---- by reading

abbrev pub sized_reports : Size → Variation → ℕ → Stamp → Header → List ℕ → List Report
sized_reports (Octets long) v outstation common h body =
    whole_from v long outstation common h.prefix h.first h.count body
sized_reports (Bits width) v outstation common h body = packed_from v width outstation h.first h.count (bits_of body)

-- the reports of a header of a part
abbrev pub header_reports : List ℕ → Option Variation → ℕ → Stamp → Header → List Report
header_reports part None outstation common h = []
header_reports part (Some v) outstation common h =
    sized_reports (size_of v) v outstation common h (octets_of_objects part v h)

-- the reports of headers of a part from left to right, after a common time
abbrev pub reports_from : ℕ → List ℕ → Stamp → List Header → List Report
reports_from outstation part common [] = []
reports_from outstation part common (h ∷ hs) =
    let known = object_of h.group h.variation in
    header_reports part known outstation common h
    ++ reports_from outstation part (last_or common (times_of part known h)) hs

-- the reports of a part with these headers
abbrev pub reports_of : ℕ → List ℕ → List Header → List Report
reports_of outstation part hs = reports_from outstation part Untimed hs

-- the reports of a part, or its first fault
abbrev pub meaning_of : ℕ → List ℕ → Result (List Report) ObjectFault
meaning_of outstation part = headers_of part >>= λ hs. Ok (reports_of outstation part hs)

-- ---- what the functions of the crate know of a header

-- a header of a part as its reader finds it: a known variation, whose objects stand within the part
pub record IsWithin (part : List ℕ) (h : Header) : Type 0 where
  pub variation : Variation
  pub known : object_of h.group h.variation ≡ Some variation
  pub inside : h.start + octets_after variation h ≤ length part

-- its indexes have 16 bits, and stand in at most two octets
pub record IsIndexed (h : Header) : Type 0 where
  pub prefix : h.prefix ≤ 2
  pub ends : h.first + h.count ≤ 65536

-- the objects of a header, as its reader finds them; the common time before them is one of a clock
pub record AreFound (o : Objects) : Type 0 where
  pub within : IsWithin o.part.now o.header.now
  pub indexed : IsIndexed o.header.now
  pub clock : IsClock o.common

-- what they report
abbrev pub reports_of_objects : Objects → List Report
reports_of_objects o =
    let h = o.header.now in
    header_reports o.part.now (object_of h.group h.variation) o.outstation o.common h

-- what becomes of a list to which they add what they report: all of it is added, unless memory runs out, and that
-- only where there is something to add
pub record Adds {X E : Type 0} (o : Objects) (before after : List Report) (result : Result X E) : Type 0 where
  pub told : OnOk result (after ≡ before ++ reports_of_objects o)
  pub memory : OnErr result (reports_of_objects o ≢ [])
