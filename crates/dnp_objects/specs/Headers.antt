-- Object headers (IEEE Std 1815, 4.2.2.7): how one is spelled, and reading them from left to right with the
-- first fault that is met.
use Rattle.std.specs.Prelude.{◌≡◌, ℕ, zero, suc, ◌+◌, ◌-◌, ◌*◌, ◌/◌, ◌<◌, ◌≤◌, Bool}
use Rattle.std.specs.Prelude.{true, false, ◌||◌, ◌==◌, List, [], ◌∷◌, ◌++◌, length, take, drop}
use Rattle.std.specs.Prelude.{Option, Some, None, Result, Ok, Err, IsOk, nat_lt, if◌then◌else◌}
use Rattle.gw_model.specs.Outcome.{◌>>=◌}
use Rattle.dnp_objects.specs.declared.fault.ObjectFault.{ObjectFault}
use Rattle.dnp_objects.specs.declared.fault.HeaderFault.{HeaderFault}
use Rattle.dnp_objects.specs.declared.fault.HeaderFault.TheVariants.{UnknownObject, UnknownQualifier, ShortRange}
use Rattle.dnp_objects.specs.declared.fault.HeaderFault.TheVariants.{StopBeforeStart, ShortData, TooMany, Memory}
use Rattle.dnp_objects.specs.declared.header.Header.{Header}
use Rattle.dnp_objects.specs.declared.object.Size.{Size}
use Rattle.dnp_objects.specs.declared.object.Size.TheVariants.{Octets, Bits}
use Rattle.dnp_objects.specs.declared.object.Access.{Access}
use Rattle.dnp_objects.specs.declared.object.Access.TheVariants.{Ranges, Counts, Indexes, RangesAndIndexes}
use Rattle.dnp_objects.specs.declared.range.Width.{Width}
use Rattle.dnp_objects.specs.declared.range.Width.TheVariants.{One, Two}
use Rattle.dnp_objects.specs.declared.range.Range.{Range}
use Rattle.dnp_objects.specs.declared.range.Range.TheVariants.{StartStop, Count}
use Rattle.dnp_objects.specs.declared.range.RangeField.{RangeField}
use Rattle.dnp_objects.specs.Library.{Variation, object_of, size_of, form_of}

-- ---- qualifiers and range fields

-- a number of some octets, low octet first
abbrev pub number : List ℕ → ℕ
number [] = 0
number (octet ∷ octets) = octet + 256 * number octets

abbrev pub octets_of : Width → ℕ
octets_of One = 1
octets_of Two = 2

-- the qualifier codes that are read: a first and a last index; a count; a count, and an index of one octet, or
-- of two, before each object
abbrev pub qualifiers : List (ℕ × Range)
qualifiers =
    (0x00, StartStop One) ∷ (0x01, StartStop Two)
    ∷ (0x07, Count One 0) ∷ (0x08, Count Two 0)
    ∷ (0x17, Count One 1) ∷ (0x18, Count Two 1)
    ∷ (0x27, Count One 2) ∷ (0x28, Count Two 2) ∷ []

-- the codes that objects may stand under
abbrev pub codes_of : Access → List ℕ
codes_of Ranges = 0x00 ∷ 0x01 ∷ []
codes_of Counts = 0x07 ∷ 0x08 ∷ []
codes_of Indexes = 0x17 ∷ 0x18 ∷ 0x27 ∷ 0x28 ∷ []
codes_of RangesAndIndexes = 0x00 ∷ 0x01 ∷ 0x17 ∷ 0x18 ∷ 0x27 ∷ 0x28 ∷ []

-- one of the numbers is this one
abbrev pub is_among : ℕ → List ℕ → Bool
is_among n [] = false
is_among n (m ∷ ms) = (n == m) || is_among n ms

-- what a list of qualifiers has for a code
abbrev pub range_of : List (ℕ × Range) → ℕ → Option Range
range_of [] code = None
range_of (q ∷ qs) code = if code == q.0 then Some q.1 else range_of qs code

-- how many octets so many objects have, each after its index; bits are filled up to whole octets
abbrev pub body_length : Size → ℕ → ℕ → ℕ
body_length (Octets octets) count prefix = count * (prefix + octets)
body_length (Bits bits) count prefix = (count * bits + 7) / 8

-- how many octets the objects of a header have
abbrev pub octets_after : Variation → Header → ℕ
octets_after v h = body_length (size_of v) h.count h.prefix

-- ---- how a header is spelled

-- octets of a range field that give the header's range
abbrev pub IsRange : Range → Header → List ℕ → Type 0
IsRange (StartStop width) h field =
    (start : List ℕ) × (stop : List ℕ) × (field ≡ start ++ stop)
    × (length start ≡ octets_of width) × (length stop ≡ octets_of width)
    × (number start ≤ number stop) × (h.first ≡ number start) × (h.count ≡ number stop - number start + 1)
    × (h.prefix ≡ 0)
IsRange (Count width prefix) h field =
    (length field ≡ octets_of width) × (h.count ≡ number field) × (h.first ≡ 0) × (h.prefix ≡ prefix)

-- the text of a header: group, variation, a qualifier code that the variation may stand under, and the range field
pub record IsHeaderText (h : Header) (v : Variation) (text : List ℕ) : Type 0 where
  pub code : ℕ
  pub range : Range
  pub field : List ℕ
  pub octets : text ≡ h.group ∷ h.variation ∷ code ∷ field
  pub known : object_of h.group h.variation ≡ Some v
  pub allowed : is_among code (codes_of v.access) ≡ true
  pub qualified : range_of qualifiers code ≡ Some range
  pub ranged : IsRange range h field

-- at this place of a part stands the header h with its objects, and then the rest
pub record StandsAt (place : ℕ) (octets : List ℕ) (h : Header) (rest : List ℕ) : Type 0 where
  pub variation : Variation
  pub text : List ℕ
  pub body : List ℕ
  pub parts : octets ≡ text ++ (body ++ rest)
  pub spelled : IsHeaderText h variation text
  pub at : h.place ≡ place
  pub starts : h.start ≡ place + length text
  pub sized : length body ≡ octets_after variation h

-- the octets from this place of a part on are these headers, each followed by its objects
abbrev pub AreHeaders : ℕ → List ℕ → List Header → Type 0
AreHeaders place octets [] = octets ≡ []
AreHeaders place octets (h ∷ hs) =
    (rest : List ℕ) × (front : StandsAt place octets h rest)
    × AreHeaders (h.start + octets_after front.variation h) rest hs

-- a part is at most 512 headers, each followed by its objects
abbrev pub IsPart : List ℕ → List Header → Type 0
IsPart part hs = AreHeaders 0 part hs × (length hs ≤ 512)

-- ---- reading from left to right

-- a fault of the header at this place
abbrev pub fault_at : {A : Type 0} → ℕ → HeaderFault → Result A ObjectFault
fault_at place why = Err (record { why = why; place = place })

-- what is looked up, or a fault of the header at this place
abbrev pub some_or : {A : Type 0} → ℕ → HeaderFault → Option A → Result A ObjectFault
some_or place why None = fault_at place why
some_or place why (Some x) = Ok x

-- how a qualifier code gives the range, where objects may stand under it
abbrev pub range_for : Access → ℕ → Option Range
range_for access code = if is_among code (codes_of access) then range_of qualifiers code else None

-- the range from a first to a last index
abbrev pub start_stop : ℕ → ℕ → ℕ → ℕ → Result RangeField ObjectFault
start_stop place octets first last =
    if nat_lt last first then fault_at place StopBeforeStart
    else Ok (record { octets = octets; first = first; count = last - first + 1; prefix = 0 })

-- the range that the field at the front of octets gives
abbrev pub range_at : ℕ → Range → List ℕ → Result RangeField ObjectFault
range_at place (StartStop width) front =
    let octets = octets_of width in
    if nat_lt (length front) (octets + octets) then fault_at place ShortRange
    else start_stop place (octets + octets) (number (take octets front)) (number (take octets (drop octets front)))
range_at place (Count width prefix) front =
    let octets = octets_of width in
    if nat_lt (length front) octets then fault_at place ShortRange
    else Ok (record { octets = octets; first = 0; count = number (take octets front); prefix = prefix })

-- a header with these fields
abbrev pub header_with : ℕ → ℕ → ℕ → ℕ → ℕ → ℕ → ℕ → Header
header_with group variation first count prefix place start =
    record {
      group = group;
      variation = variation;
      first = first;
      count = count;
      prefix = prefix;
      place = place;
      start = start;
    }

-- the header with a range that was read, where its objects stand at the front of octets, and the octets after them
abbrev pub header_and_rest : ℕ → ℕ → ℕ → Size → RangeField → List ℕ → Result (Header × List ℕ) ObjectFault
header_and_rest place group variation size r objects =
    let body = body_length size r.count r.prefix in
    if nat_lt (length objects) body then fault_at place ShortData
    else Ok (header_with group variation r.first r.count r.prefix place (place + (3 + r.octets)), drop body objects)

-- the header at the front of octets, and the octets after its objects
abbrev pub header_at : ℕ → List ℕ → Result (Header × List ℕ) ObjectFault
header_at place (group ∷ variation ∷ code ∷ field) = do
  form ← some_or place UnknownObject (form_of group variation)
  range ← some_or place UnknownQualifier (range_for form.access code)
  r ← range_at place range field
  header_and_rest place group variation form.size r (drop r.octets field)
header_at place _ = fault_at place ShortRange

-- the headers of the octets that end a part of this length; at most so many more may come
unfoldable pub headers_from : ℕ → ℕ → List ℕ → Result (List Header) ObjectFault
headers_from length_of_part more [] = Ok []
headers_from length_of_part zero (b ∷ bs) = fault_at (length_of_part - length (b ∷ bs)) TooMany
headers_from length_of_part (suc more) (b ∷ bs) = do
  h ← header_at (length_of_part - length (b ∷ bs)) (b ∷ bs)
  hs ← headers_from length_of_part more h.1
  Ok (h.0 ∷ hs)

-- the headers of a part: at most 512
abbrev pub headers_of : List ℕ → Result (List Header) ObjectFault
headers_of part = headers_from (length part) 512 part

-- a header is stored for this place of a part: fewer than 512 stand before it, and it is read
pub record IsStoredAt (part : List ℕ) (place : ℕ) : Type 0 where
  pub before : List Header
  pub are : AreHeaders 0 (take place part) before
  pub fewer : length before < 512
  pub here : IsOk (header_at place (drop place part))

-- ---- what a function returned

-- the reason is that memory ran out
abbrev pub is_memory_reason : HeaderFault → Bool
is_memory_reason Memory = true
is_memory_reason UnknownObject = false
is_memory_reason UnknownQualifier = false
is_memory_reason ShortRange = false
is_memory_reason StopBeforeStart = false
is_memory_reason ShortData = false
is_memory_reason TooMany = false

-- the fault is that memory ran out
abbrev pub is_memory : ObjectFault → Bool
is_memory fault = is_memory_reason fault.why
