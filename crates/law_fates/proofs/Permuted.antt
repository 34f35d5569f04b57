-- Two lists of orders, of which as many pass each test, are the same in another order.
use Rattle.std.specs.Prelude.{◌≤◌, ◌==◌, IsPermutation}
use Rattle.std.proofs.Common.{◌≡◌, ℕ, Bool, true, ◌&&◌, List, [], ◌∷◌, ◌++◌}
use Rattle.std.proofs.Common.{refl, sym, ap, subst, ◌∙◌, arith, inl, inr}
use Rattle.std.proofs.lemmas.Bool.{and_from, and_parts, cases_Bool, eq-eqb, eqb-true}
use Rattle.std.proofs.lemmas.List.Sorted.{IsPermutation-cons, IsPermutation-middle}
use Rattle.std.proofs.lemmas.List.Sorted.{IsPermutation-refl, IsPermutation-sym, IsPermutation-trans}
use Rattle.gw_control.specs.Moves.{one_if}
use Rattle.law_fates.specs.Fates.{Named}
use Rattle.law_fates.proofs.Counts.{times, times_append}

-- ---- one order

abbrev named : ℕ → ℕ → ℕ → Named
named number outstation client = record { number = number; outstation = outstation; client = client }

abbrev is_same : Named → Named → Bool
is_same x y = (x.number == y.number) && ((x.outstation == y.outstation) && (x.client == y.client))

same_is : (x y : Named) → is_same x y ≡ true → x ≡ y
same_is x y e =
    let first = and_parts (x.number == y.number) ((x.outstation == y.outstation) && (x.client == y.client)) e in
    let rest = and_parts (x.outstation == y.outstation) (x.client == y.client) first.1 in
    ap (λ (n : ℕ). named n x.outstation x.client) (eqb-true x.number y.number first.0)
    ∙ (ap (λ (o : ℕ). named y.number o x.client) (eqb-true x.outstation y.outstation rest.0)
    ∙ ap (λ (c : ℕ). named y.number y.outstation c) (eqb-true x.client y.client rest.1))

is_itself : (x : Named) → is_same x x ≡ true
is_itself x =
    and_from (x.number == x.number) ((x.outstation == x.outstation) && (x.client == x.client))
    (eq-eqb x.number x.number refl)
    (and_from (x.outstation == x.outstation) (x.client == x.client) (eq-eqb x.outstation x.outstation refl)
    (eq-eqb x.client x.client refl))

-- ---- where it stands

record Found (x : Named) (ys : List Named) : Type 0 where
  before : List Named
  behind : List Named
  is : ys ≡ before ++ x ∷ behind

find : (x : Named) (ys : List Named) → 1 ≤ times (is_same x) ys → Found x ys
find x [] some = absurd (omega (arith, some))
find x (y ∷ ys) some = elim (cases_Bool (is_same x y)) [
  | inl same ↦ record { before = []; behind = ys; is = ap (λ (z : Named). z ∷ ys) (sym (same_is x y same)) }
  | inr other ↦
      let rest : Found x ys = find x ys (omega (arith, some, ap one_if other)) in
      record { before = y ∷ rest.before; behind = rest.behind; is = ap (λ (zs : List Named). y ∷ zs) rest.is }
]

-- ---- all of them

none_there : (ys : List Named) → times (λ _. true) ys ≡ 0 → ys ≡ []
none_there [] none = refl
none_there (y ∷ ys) none = absurd (omega (arith, none))

pub permuted : (xs ys : List Named) → ((p : Named → Bool) → times p xs ≡ times p ys) → IsPermutation xs ys
permuted [] ys same =
    subst (IsPermutation []) (sym (none_there ys (sym (same (λ _. true))))) (IsPermutation-refl [])
permuted (x ∷ xs) ys same =
    let found : Found x ys = find x ys (omega (arith, same (is_same x), ap one_if (is_itself x))) in
    let rest : IsPermutation xs (found.before ++ found.behind) =
    permuted xs (found.before ++ found.behind)
    (λ p. omega (
      arith,
      same p,
      ap (times p) found.is,
      times_append p found.before (x ∷ found.behind),
      times_append p found.before found.behind,
    )) in
    subst (IsPermutation (x ∷ xs)) (sym found.is)
    (IsPermutation-trans (x ∷ xs) (x ∷ (found.before ++ found.behind)) (found.before ++ x ∷ found.behind)
    (IsPermutation-cons x xs (found.before ++ found.behind) rest)
    (IsPermutation-sym (found.before ++ x ∷ found.behind) (x ∷ (found.before ++ found.behind))
    (IsPermutation-middle found.before x found.behind)))
