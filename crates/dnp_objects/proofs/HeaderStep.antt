-- One header as the code reads it: by places in the octets from it on.
use Rattle.std.proofs.Common.{◌≡◌, ℕ, ◌+◌, ◌-◌, ◌<◌, ◌≤◌, ltb, true, false, List, [], ◌∷◌}
use Rattle.std.proofs.Common.{length, take, drop, get_or, Some, Ok, refl, sym, ap, subst, ◌∙◌, arith}
use Rattle.std.proofs.lemmas.Bool.{le-ltb, lt-ltb}
use Rattle.std.proofs.lemmas.List.{length-drop, drop-drop}
use Rattle.std.proofs.Math.Seq.{take-length}
use Rattle.dnp_objects.specs.declared.fault.HeaderFault.TheVariants.{ShortData}
use Rattle.dnp_objects.specs.declared.object.Form.{Form}
use Rattle.dnp_objects.specs.declared.range.Range.{Range}
use Rattle.dnp_objects.specs.declared.range.RangeField.{RangeField}
use Rattle.dnp_objects.specs.Library.{form_of}
use Rattle.dnp_objects.specs.Headers.{range_for, range_at, body_length, header_at, fault_at}

-- all octets from a place on
pub all_from : (n : ℕ) (octets : List ℕ) → take (length octets - n) (drop n octets) ≡ drop n octets
all_from n octets = rw (← length-drop n octets) (take-length (drop n octets))

-- a header whose parts were all found
pub header_read : (place : ℕ) (front : List ℕ) (form : Form) (range : Range) (r : RangeField) (body : ℕ)
    → 3 ≤ length front
    → form_of (get_or front 0 0) (get_or front 1 0) ≡ Some form
    → range_for form.access (get_or front 2 0) ≡ Some range
    → range_at place range (take (length front - 3) (drop 3 front)) ≡ Ok r
    → body ≡ body_length form.size r.count r.prefix
    → 3 + r.octets + body ≤ length front
    → header_at place front ≡ Ok (
      record {
        group = get_or front 0 0;
        variation = get_or front 1 0;
        first = r.first;
        count = r.count;
        prefix = r.prefix;
        place = place;
        start = place + (3 + r.octets);
      },
      take (length front - (3 + r.octets + body)) (drop (3 + r.octets + body) front),
    )
header_read place [] form range r body le known may ranged is long = absurd (omega arith)
header_read place (a ∷ []) form range r body le known may ranged is long = absurd (omega arith)
header_read place (a ∷ b ∷ []) form range r body le known may ranged is long = absurd (omega arith)
header_read place (a ∷ b ∷ c ∷ field) form range r body le known may ranged is long =
    let front : List ℕ = a ∷ b ∷ c ∷ field in
    let given : range_at place range field ≡ Ok r =
    subst (λ (f : List ℕ). range_at place range f ≡ Ok r) (all_from 3 front) ranged in
    let enough : ltb (length (drop r.octets field)) (body_length form.size r.count r.prefix) ≡ false =
    le-ltb _ _ (omega (arith, length-drop r.octets field, is)) in
    let together : 3 + (r.octets + body) ≡ 3 + r.octets + body = omega arith in
    let after : drop body (drop r.octets field)
    ≡ take (length front - (3 + r.octets + body)) (drop (3 + r.octets + body) front) =
    drop-drop body r.octets field ∙ (drop-drop (r.octets + body) 3 front
    ∙ (ap (λ (n : ℕ). drop n front) together ∙ sym (all_from (3 + r.octets + body) front))) in
    rw (known, may, given, enough, ← is, after) refl

-- a header whose objects are cut short
pub header_short : (place : ℕ) (front : List ℕ) (form : Form) (range : Range) (r : RangeField) (body : ℕ)
    → 3 ≤ length front
    → form_of (get_or front 0 0) (get_or front 1 0) ≡ Some form
    → range_for form.access (get_or front 2 0) ≡ Some range
    → range_at place range (take (length front - 3) (drop 3 front)) ≡ Ok r
    → body ≡ body_length form.size r.count r.prefix
    → length front - (3 + r.octets) < body
    → header_at place front ≡ fault_at place ShortData
header_short place [] form range r body le known may ranged is short = absurd (omega arith)
header_short place (a ∷ []) form range r body le known may ranged is short = absurd (omega arith)
header_short place (a ∷ b ∷ []) form range r body le known may ranged is short = absurd (omega arith)
header_short place (a ∷ b ∷ c ∷ field) form range r body le known may ranged is short =
    let front : List ℕ = a ∷ b ∷ c ∷ field in
    let given : range_at place range field ≡ Ok r =
    subst (λ (f : List ℕ). range_at place range f ≡ Ok r) (all_from 3 front) ranged in
    let cut : ltb (length (drop r.octets field)) (body_length form.size r.count r.prefix) ≡ true =
    lt-ltb _ _ (omega (arith, length-drop r.octets field, is)) in
    rw (known, may, given, cut) refl
