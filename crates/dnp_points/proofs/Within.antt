-- Headers that were read of a part stand within it.
use Rattle.std.proofs.Common.{◌≡◌, ℕ, suc, ◌+◌, ◌<◌, ◌≤◌, Bool, true, false, cond, eqb, ltb, ◌&&◌}
use Rattle.std.proofs.Common.{List, [], ◌∷◌, ◌++◌, length, get_or, All, Option, Some, Ok, refl, subst, arith}
use Rattle.std.specs.List.{AllByRecursion}
use Rattle.std.proofs.lemmas.Bool.{and_parts, ltb-true}
use Rattle.std.proofs.lemmas.List.Elements.{All-from_recursion}
use Rattle.dnp_objects.specs.declared.header.Header.{Header}
use Rattle.dnp_objects.specs.declared.range.Width.{Width}
use Rattle.dnp_objects.specs.declared.range.Width.TheVariants.{One, Two}
use Rattle.dnp_objects.specs.declared.range.Range.{Range}
use Rattle.dnp_objects.specs.declared.range.Range.TheVariants.{StartStop, Count}
use Rattle.dnp_objects.specs.Headers.{number, octets_of, qualifiers, range_of, headers_of}
use Rattle.dnp_objects.specs.Headers.{octets_after, IsRange, StandsAt, AreHeaders, IsPart}
use Rattle.dnp_objects.proofs.HeaderLaws.{parts_length, IsPart-found}
use Rattle.dnp_points.specs.Meaning.{IsWithin, IsIndexed}

-- ---- numbers of two octets

abbrev IsOctet : ℕ → Type 0
IsOctet n = n < 256

abbrev AreOctets : List ℕ → Type 0
AreOctets octets = AllByRecursion IsOctet octets

are_octets : (octets : List ℕ) → ((i : ℕ) → get_or octets i 0 < 256) → AreOctets octets
are_octets [] small = tt
are_octets (o ∷ octets) small = (small 0, are_octets octets (λ i. small (suc i)))

AreOctets-front : (xs ys : List ℕ) → AreOctets (xs ++ ys) → AreOctets xs
AreOctets-front [] ys are = tt
AreOctets-front (x ∷ xs) ys are = (are.0, AreOctets-front xs ys are.1)

AreOctets-back : (xs ys : List ℕ) → AreOctets (xs ++ ys) → AreOctets ys
AreOctets-back [] ys are = are
AreOctets-back (x ∷ xs) ys are = AreOctets-back xs ys are.1

number_small : (width : Width) (octets : List ℕ) → AreOctets octets → length octets ≡ octets_of width
    → number octets < 65536
number_small One [] are e = absurd (omega arith)
number_small One (a ∷ []) are e = omega (arith, are.0)
number_small One (a ∷ b ∷ octets) are e = absurd (omega arith)
number_small Two [] are e = absurd (omega arith)
number_small Two (a ∷ []) are e = absurd (omega arith)
number_small Two (a ∷ b ∷ []) are e = omega (arith, are.0, are.1.0)
number_small Two (a ∷ b ∷ c ∷ octets) are e = absurd (omega arith)

-- ---- ranges

-- at most two octets of index stand before an object
abbrev few_octets : Range → Bool
few_octets (StartStop width) = true
few_octets (Count width prefix) = ltb prefix 3

abbrev all_few : List (ℕ × Range) → Bool
all_few [] = true
all_few (q ∷ qs) = few_octets q.1 && all_few qs

range_here : (range r : Range) (rest : Option Range) (b : Bool) → few_octets r ≡ true
    → (rest ≡ Some range → few_octets range ≡ true) → cond b (Some r) rest ≡ Some range
    → few_octets range ≡ true
range_here range r rest true few others e =
    let same : r ≡ range = cc in
    subst (λ (x : Range). few_octets x ≡ true) same few
range_here range r rest false few others e = others e

range_few : (qs : List (ℕ × Range)) (code : ℕ) (range : Range) → all_few qs ≡ true → range_of qs code ≡ Some range
    → few_octets range ≡ true
range_few [] code range all e = absurd cc
range_few (q ∷ qs) code range all e =
    let parts = and_parts (few_octets q.1) (all_few qs) all in
    range_here range q.1 (range_of qs code) (eqb code q.0) parts.0 (range_few qs code range parts.1) e

ranged : (range : Range) (h : Header) (field : List ℕ) → AreOctets field → few_octets range ≡ true
    → IsRange range h field → (h.prefix ≤ 2) × (h.first + h.count ≤ 65536)
ranged (StartStop width) h field are few is =
    let stop = number_small width is.1 (AreOctets-back is.0 is.1 (subst AreOctets is.2 are)) is.4 in
    (omega (arith, is.8), omega (arith, is.5, is.6, is.7, stop))
ranged (Count width prefix) h field are few is =
    let count = number_small width field are is.0 in
    (omega (arith, is.3, ltb-true prefix 3 few), omega (arith, is.1, is.2, count))

-- ---- headers

header_within : (place : ℕ) (part octets : List ℕ) (h : Header) (rest : List ℕ) → place + length octets ≡ length part
    → StandsAt place octets h rest → IsWithin part h
header_within place part octets h rest at s =
    let lens = parts_length place octets h rest s in
    record { variation = s.variation; known = s.spelled.known; inside = omega (arith, lens.0, s.starts) }

pub all_within : (place : ℕ) (part octets : List ℕ) (hs : List Header) → place + length octets ≡ length part
    → AreHeaders place octets hs → AllByRecursion (IsWithin part) hs
all_within place part octets [] at are = tt
all_within place part octets (h ∷ hs) at are =
    let rest = are.0 in
    let front = are.1 in
    let lens = parts_length place octets h rest front in (
      header_within place part octets h rest at front,
      all_within (h.start + octets_after front.variation h) part rest hs (omega (arith, lens.0, front.starts)) are.2,
    )

pub part_within : (part : List ℕ) (hs : List Header) → IsPart part hs → AllByRecursion (IsWithin part) hs
part_within part hs is = all_within 0 part part hs (omega arith) is.0

pub headers_within : (part : List ℕ) (hs : List Header) → headers_of part ≡ Ok hs → All (IsWithin part) hs
headers_within part hs e = All-from_recursion (IsWithin part) hs (part_within part hs (IsPart-found part hs e))

header_indexed : (place : ℕ) (octets : List ℕ) (h : Header) (rest : List ℕ) → AreOctets octets
    → StandsAt place octets h rest → IsIndexed h
header_indexed place octets h rest are s =
    let t = s.spelled in
    let text : AreOctets (h.group ∷ h.variation ∷ t.code ∷ t.field) =
    subst AreOctets t.octets (AreOctets-front s.text (s.body ++ rest) (subst AreOctets s.parts are)) in
    let r = ranged t.range h t.field text.1.1.1 (range_few qualifiers t.code t.range refl t.qualified) t.ranged in
    record { prefix = r.0; ends = r.1 }

all_indexed : (place : ℕ) (octets : List ℕ) (hs : List Header) → AreOctets octets → AreHeaders place octets hs
    → AllByRecursion IsIndexed hs
all_indexed place octets [] small are = tt
all_indexed place octets (h ∷ hs) small are =
    let front = are.1 in
    let behind = AreOctets-back front.body are.0
    (AreOctets-back front.text (front.body ++ are.0) (subst AreOctets front.parts small)) in (
      header_indexed place octets h are.0 small front,
      all_indexed (h.start + octets_after front.variation h) are.0 hs behind are.2,
    )

pub headers_indexed : (part : List ℕ) (hs : List Header) → ((i : ℕ) → get_or part i 0 < 256) → headers_of part ≡ Ok hs
    → All IsIndexed hs
headers_indexed part hs small e =
    All-from_recursion IsIndexed hs (all_indexed 0 part hs (are_octets part small) (IsPart-found part hs e).0)
