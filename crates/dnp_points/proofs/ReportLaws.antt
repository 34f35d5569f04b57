-- The two laws of reports: what is read, the part means, and what it means is read.
use Rattle.std.proofs.Common.{◌≡◌, ℕ, ◌+◌, ◌*◌, ◌/◌, ◌≤◌, List, [], ◌∷◌, ◌++◌, length, drop}
use Rattle.std.proofs.Common.{Option, Some, None, Result, Ok, Err, refl, sym, ap, subst, ◌∙◌, append_assoc, arith}
use Rattle.std.specs.Prelude.{IfOk}
use Rattle.std.specs.Global.{Vec}
use Rattle.std.specs.List.{AllByRecursion}
use Rattle.std.proofs.lemmas.List.{length-take, length-drop}
use Rattle.gw_model.specs.declared.memory.Memory.{Memory}
use Rattle.gw_model.specs.declared.point.Stamp.{Stamp}
use Rattle.gw_model.specs.declared.point.Stamp.TheVariants.{Untimed}
use Rattle.gw_model.specs.declared.point.Report.{Report}
use Rattle.dnp_objects.specs.declared.fault.ObjectFault.{ObjectFault}
use Rattle.dnp_objects.specs.declared.header.Header.{Header}
use Rattle.dnp_objects.specs.declared.object.Size.{Size}
use Rattle.dnp_objects.specs.declared.object.Size.TheVariants.{Octets, Bits}
use Rattle.dnp_objects.specs.Library.{Variation, object_of, size_of}
use Rattle.dnp_objects.specs.Headers.{headers_of, body_length, octets_after}
use Rattle.dnp_objects.proofs.Results.{bind_ok}
use Rattle.dnp_objects.proofs.HeaderLaws.{IsPart-found, IsPart-again}
use Rattle.dnp_points.specs.Values.{bits_of}
use Rattle.dnp_points.specs.Meaning.{IsWithin, octets_of_objects, times_of, all_times, last_or}
use Rattle.dnp_points.specs.Meaning.{common_time, AreSized, AreObjects, AreReports, Means, sized_reports}
use Rattle.dnp_points.specs.Meaning.{header_reports, reports_from, reports_of, meaning_of}
use Rattle.dnp_points.proofs.Bits.{length-bits_of}
use Rattle.dnp_points.proofs.Texts.{whole_found, whole_only, packed_found, packed_only}
use Rattle.dnp_points.proofs.Within.{part_within}

-- ---- the objects of a header

-- so many bits are filled up to octets
filled : (bits octets : ℕ) → octets ≡ (bits + 7) / 8 → bits ≤ 8 * octets
filled bits octets e = omega arith

sized_found : (size : Size) (v : Variation) (outstation : ℕ) (common : Stamp) (h : Header) (body : List ℕ)
    → size_of v ≡ size → length body ≡ body_length size h.count h.prefix
    → AreSized size v outstation common h body (sized_reports size v outstation common h body)
sized_found (Octets long) v outstation common h body is e =
    whole_found v long outstation common h.prefix h.first h.count body is e
sized_found (Bits width) v outstation common h body is e =
    packed_found v width outstation h.first h.count (bits_of body)
    (omega (arith, filled (h.count * width) (length body) e, length-bits_of body))

sized_only : (size : Size) (v : Variation) (outstation : ℕ) (common : Stamp) (h : Header) (body : List ℕ)
    (rs : List Report)
    → AreSized size v outstation common h body rs → rs ≡ sized_reports size v outstation common h body
sized_only (Octets long) v outstation common h body rs are =
    whole_only v long outstation common h.prefix h.first h.count body rs are
sized_only (Bits width) v outstation common h body rs are =
    packed_only v width outstation h.first h.count (bits_of body) rs are

objects_found : (part : List ℕ) (h : Header) (outstation : ℕ) (common : Stamp) → IsWithin part h
    → AreObjects part (object_of h.group h.variation) outstation common h
    (header_reports part (object_of h.group h.variation) outstation common h)
objects_found part h outstation common w =
    let v : Variation = w.variation in
    let long : length (octets_of_objects part v h) ≡ octets_after v h =
    omega (arith, w.inside, length-take (octets_after v h) (drop h.start part), length-drop h.start part) in
    subst (λ (o : Option Variation). AreObjects part o outstation common h (header_reports part o outstation common h))
    (sym w.known)
    (sized_found (size_of v) v outstation common h (octets_of_objects part v h) refl long)

known_only : (part : List ℕ) (o : Option Variation) (outstation : ℕ) (common : Stamp) (h : Header) (rs : List Report)
    → AreObjects part o outstation common h rs → rs ≡ header_reports part o outstation common h
known_only part None outstation common h rs are = are
known_only part (Some v) outstation common h rs are =
    sized_only (size_of v) v outstation common h (octets_of_objects part v h) rs are

-- ---- the common time

last-append : (other : Stamp) (xs ys : List Stamp) → last_or other (xs ++ ys) ≡ last_or (last_or other xs) ys
last-append other [] ys = refl
last-append other (x ∷ xs) ys = last-append x xs ys

last-append_nil : (xs : List Stamp) → xs ++ [] ≡ xs
last-append_nil [] = refl
last-append_nil (x ∷ xs) = ap (λ (t : List Stamp). x ∷ t) (last-append_nil xs)

times-append : (part : List ℕ) (before : List Header) (h : Header)
    → all_times part (before ++ h ∷ []) ≡ all_times part before ++ times_of part (object_of h.group h.variation) h
times-append part [] h = last-append_nil (times_of part (object_of h.group h.variation) h)
times-append part (x ∷ before) h =
    ap (λ (t : List Stamp). times_of part (object_of x.group x.variation) x ++ t) (times-append part before h)
    ∙ sym (append_assoc (times_of part (object_of x.group x.variation) x) (all_times part before)
    (times_of part (object_of h.group h.variation) h))

-- the common time behind one more header
one_more : (part : List ℕ) (before : List Header) (h : Header) → common_time part (before ++ h ∷ [])
    ≡ last_or (common_time part before) (times_of part (object_of h.group h.variation) h)
one_more part before h =
    ap (last_or Untimed) (times-append part before h)
    ∙ last-append Untimed (all_times part before) (times_of part (object_of h.group h.variation) h)

-- ---- headers

reports_found : (outstation : ℕ) (part : List ℕ) (before hs : List Header) → AllByRecursion (IsWithin part) hs
    → AreReports outstation part before hs (reports_from outstation part (common_time part before) hs)
reports_found outstation part before [] within = refl
reports_found outstation part before (h ∷ hs) within =
    let common : Stamp = common_time part before in
    let others = reports_found outstation part (before ++ h ∷ []) hs within.1 in (
      header_reports part (object_of h.group h.variation) outstation common h,
      reports_from outstation part (common_time part (before ++ h ∷ [])) hs,
      objects_found part h outstation common within.0,
      ap (λ (t : Stamp). header_reports part (object_of h.group h.variation) outstation common h
          ++ reports_from outstation part t hs) (sym (one_more part before h)),
      others,
    )

reports_only : (outstation : ℕ) (part : List ℕ) (before hs : List Header) (rs : List Report)
    → AreReports outstation part before hs rs
    → rs ≡ reports_from outstation part (common_time part before) hs
reports_only outstation part before [] rs are = are
reports_only outstation part before (h ∷ hs) rs are =
    let common : Stamp = common_time part before in
    let one = known_only part (object_of h.group h.variation) outstation common h are.0 are.2 in
    let others = reports_only outstation part (before ++ h ∷ []) hs are.1 are.4 in
    are.3 ∙ (ap (λ (x : List Report). x ++ are.1) one
    ∙ (ap (λ (x : List Report). header_reports part (object_of h.group h.variation) outstation common h ++ x) others
    ∙ ap (λ (t : Stamp). header_reports part (object_of h.group h.variation) outstation common h
    ++ reports_from outstation part t hs) (one_more part before h)))

-- ---- whole parts

-- what is read, the part means
pub Means-found : (outstation : ℕ) (part : List ℕ) (hs : List Header) → headers_of part ≡ Ok hs
    → Means outstation part (reports_of outstation part hs)
Means-found outstation part hs e =
    let is = IsPart-found part hs e in
    record { headers = hs; read = is; reports = reports_found outstation part [] hs (part_within part hs is) }

abbrev done : {A : Type 0} → A → Result A ObjectFault
done x = Ok x

ok_is : {A : Type 0} (x y : A) → done x ≡ done y → x ≡ y
ok_is x y e = cc

-- what the part means is read
pub Means-only : (outstation : ℕ) (part : List ℕ) (hs : List Header) (rs : List Report) → headers_of part ≡ Ok hs
    → Means outstation part rs → reports_of outstation part hs ≡ rs
Means-only outstation part hs rs e means =
    let same = IsPart-again part means.headers means.read in
    ap (reports_of outstation part) (ok_is hs means.headers (sym e ∙ same))
    ∙ sym (reports_only outstation part [] means.headers rs means.reports)

-- ---- of what a function returned

pub found : (outstation : ℕ) (part : List ℕ) (hs : List Header) (r : Result (Vec Report) Memory)
    → headers_of part ≡ Ok hs
    → IfOk r (λ v. v.items ≡ reports_of outstation part hs) → IfOk r (λ v. Means outstation part v.items)
found outstation part hs (Ok v) e exact = subst (Means outstation part) (sym exact) (Means-found outstation part hs e)
found outstation part hs (Err m) e exact = tt

pub only : (outstation : ℕ) (part : List ℕ) (hs : List Header) (r : Result (Vec Report) Memory)
    → headers_of part ≡ Ok hs
    → IfOk r (λ v. v.items ≡ reports_of outstation part hs) → (rs : List Report) → Means outstation part rs
    → IfOk r (λ v. v.items ≡ rs)
only outstation part hs (Ok v) e exact rs means = exact ∙ Means-only outstation part hs rs e means
only outstation part hs (Err m) e exact rs means = tt

-- ---- reading and meaning are one

pub meaning-again : (outstation : ℕ) (part : List ℕ) (rs : List Report) → Means outstation part rs
    → meaning_of outstation part ≡ Ok rs
meaning-again outstation part rs means =
    let read = IsPart-again part means.headers means.read in
    rw read (ap (λ (x : List Report). done x) (sym (reports_only outstation part [] means.headers rs means.reports)))

pub meaning-found : (outstation : ℕ) (part : List ℕ) (rs : List Report) → meaning_of outstation part ≡ Ok rs
    → Means outstation part rs
meaning-found outstation part rs e =
    let one = bind_ok (headers_of part) (λ hs. Ok (reports_of outstation part hs)) rs e in
    subst (Means outstation part) (ok_is (reports_of outstation part one.0) rs one.2)
    (Means-found outstation part one.0 one.1)
