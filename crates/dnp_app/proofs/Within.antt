-- The objects of a part's headers stand within the part.
use Rattle.std.proofs.Common.{◌≡◌, ℕ, ◌+◌, ◌*◌, ◌<◌, ◌≤◌, Bool, true, false, cond, ◌&&◌}
use Rattle.std.proofs.Common.{List, [], ◌∷◌, ◌++◌, length, get_or, Option, Some, refl, ap, ◌∙◌, arith}
use Rattle.std.specs.Prelude.{nat_le, IfSome, ◌==◌}
use Rattle.std.specs.List.{AllByRecursion}
use Rattle.std.proofs.lemmas.List.Elements.{All-get_or, All-from_recursion}
use Rattle.std.proofs.lemmas.Bool.{leb-true, and_parts}
use Rattle.std.proofs.lemmas.List.{length-append}
use Rattle.dnp_objects.specs.declared.header.Header.{Header}
use Rattle.dnp_objects.specs.declared.object.Size.{Size}
use Rattle.dnp_objects.specs.declared.object.Size.TheVariants.{Octets, Bits}
use Rattle.dnp_objects.specs.declared.range.Range.{Range}
use Rattle.dnp_objects.specs.declared.range.Range.TheVariants.{StartStop, Count}
use Rattle.dnp_objects.specs.Library.{Role, Point, CommonTime, Echo, SteppedOver, size_of}
use Rattle.dnp_objects.specs.Headers.{body_length, octets_after, range_of, qualifiers, IsRange, StandsAt, AreHeaders, IsPart}
use Rattle.dnp_app.specs.Echo.{command_octets, HasCommandsWithin}

-- an index of two octets at most
abbrev is_short : Range → Bool
is_short (StartStop width) = true
is_short (Count width prefix) = nat_le prefix 2

abbrev are_short : List (ℕ × Range) → Bool
are_short [] = true
are_short (q ∷ qs) = is_short q.1 && are_short qs

chosen_short : (b : Bool) (x : Range) (o : Option Range) (r : Range) → is_short x ≡ true
    → (o ≡ Some r → is_short r ≡ true) → cond b (Some x) o ≡ Some r → is_short r ≡ true
chosen_short true x o r one others e = grind arith
chosen_short false x o r one others e = others e

range_of-short : (qs : List (ℕ × Range)) (code : ℕ) (r : Range) → are_short qs ≡ true → range_of qs code ≡ Some r
    → is_short r ≡ true
range_of-short [] code r all e = absurd cc
range_of-short (q ∷ qs) code r all e =
    let both = and_parts (is_short q.1) (are_short qs) all in
    chosen_short (code == q.0) q.1 (range_of qs code) r both.0 (range_of-short qs code r both.1) e

prefix_short : (r : Range) (h : Header) (field : List ℕ) → is_short r ≡ true → IsRange r h field → h.prefix ≤ 2
prefix_short (StartStop width) h field short (start, stop, is, one, two, le, first, count, prefix) = omega arith
prefix_short (Count width prefix) h field short given = omega (arith, leb-true _ _ short, given.3)

-- the octets of commands are those of their header
commands_within : (role : Role) (size : Size) (start count prefix total : ℕ)
    → start + body_length size count prefix ≤ total
    → IfSome (command_octets role size) (λ octets. start + count * (prefix + octets) ≤ total)
commands_within Echo (Octets octets) start count prefix total le = le
commands_within Echo (Bits bits) start count prefix total le = tt
commands_within (Point kind) size start count prefix total le = tt
commands_within CommonTime size start count prefix total le = tt
commands_within SteppedOver size start count prefix total le = tt

one_within : (part : List ℕ) (place : ℕ) (octets : List ℕ) (h : Header) (rest : List ℕ) → StandsAt place octets h rest
    → place + length octets ≤ length part → HasCommandsWithin part h
one_within part place octets h rest s le =
    let v = s.variation in
    let lens : length octets ≡ length s.text + (length s.body + length rest) = ap length s.parts
    ∙ (length-append s.text (s.body ++ rest) ∙ ap (λ (n : ℕ). length s.text + n) (length-append s.body rest)) in
    let within : h.start + octets_after v h ≤ length part = omega (arith, lens, s.starts, s.sized) in
    record {
      prefix = prefix_short s.spelled.range h s.spelled.field
          (range_of-short qualifiers s.spelled.code s.spelled.range refl s.spelled.qualified) s.spelled.ranged;
      inside = rw s.spelled.known (commands_within v.role (size_of v) h.start h.count h.prefix (length part) within);
    }

headers_within : (part : List ℕ) (place : ℕ) (octets : List ℕ) (hs : List Header) → AreHeaders place octets hs
    → place + length octets ≤ length part → AllByRecursion (HasCommandsWithin part) hs
headers_within part place octets [] are le = tt
headers_within part place octets (h ∷ hs) are le =
    let s = are.1 in
    let rest = are.0 in
    let lens : length octets ≡ length s.text + (length s.body + length rest) = ap length s.parts
    ∙ (length-append s.text (s.body ++ rest) ∙ ap (λ (n : ℕ). length s.text + n) (length-append s.body rest)) in (
      one_within part place octets h rest s le,
      headers_within part (h.start + octets_after s.variation h) rest hs are.2 (omega (arith, lens, s.starts, s.sized)),
    )

pub all_within : (part : List ℕ) (hs : List Header) → IsPart part hs → AllByRecursion (HasCommandsWithin part) hs
all_within part hs is = headers_within part 0 part hs is.0 (omega arith)

pub within : (part : List ℕ) (hs : List Header) (i : ℕ) (d : Header) → IsPart part hs → i < length hs
    → HasCommandsWithin part (get_or hs i d)
within part hs i d is lt = All-get_or (HasCommandsWithin part) hs i d lt
    (All-from_recursion (HasCommandsWithin part) hs (all_within part hs is))
