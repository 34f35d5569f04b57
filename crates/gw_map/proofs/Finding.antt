-- Looking up rows and controls by an index.
use Rattle.std.proofs.Common.{◌≡◌, ℕ, zero, suc, ◌+◌, ◌<◌, ◌≤◌, ◌==◌, add-zero, List}
use Rattle.std.proofs.Common.{[], ◌∷◌, ◌++◌, length, map, get_or, slice_get, Some, None}
use Rattle.std.proofs.Common.{Bool, true, false, cond, refl, ap, sym, ◌∙◌, inl, inr, arith}
use Rattle.std.specs.List.{position_from, list_any}
use Rattle.std.proofs.lemmas.Bool.{cases_Bool, true≢false}
use Rattle.std.proofs.lemmas.Option.{same_Some}
use Rattle.gw_map.specs.Settings.{first_from}
use Rattle.std.proofs.lemmas.Bool.Decides.{nat_tests}
use Rattle.gw_model.specs.declared.point.Kind.{Kind}
use Rattle.gw_model.specs.declared.point.Kind.TheVariants.{Binary, Output, Double, Counter, Analog}
use Rattle.gw_model.specs.declared.point.PointKey.{PointKey}
use Rattle.gw_model.specs.Keys.{same_key}
use Rattle.gw_map.proofs.Repeats.{key_of}

no_some : {A : Type 0} (x : A) → Some x ≡ None → ⊥
no_some x e = cc

position_from-le : {K : Type 0} (p : K → Bool) (n i : ℕ) (xs : List K) → position_from p n xs ≡ Some i → n ≤ i
position_from-le p n i [] h = absurd cc
position_from-le p n i (x ∷ xs) h = elim (cases_Bool (p x)) [
  | inl hit ↦ let e : n ≡ i = same_Some _ _ (rw hit at h) in omega arith
  | inr miss ↦ let e : n + 1 ≤ i = position_from-le p (n + 1) i xs (rw miss at h) in omega arith
]

module _ {A K : Type 0} (p : K → Bool) (t : A → Bool) (f : A → K) (same : (x : A) → p (f x) ≡ t x) where
  -- none of them
  pub finds_none : (n m : ℕ) (xs : List A) → position_from p n (map f xs) ≡ None
      → first_from t m xs ≡ None
  finds_none n m [] h = refl
  finds_none n m (x ∷ xs) h = elim (cases_Bool (t x)) [
    | inl hit ↦ absurd (no_some n (rw (same x, hit) at h))
    | inr miss ↦ rw miss (finds_none (n + 1) (m + 1) xs (rw (same x, miss) at h))
  ]

  -- one of them
  pub finds_one : (n m i j : ℕ) (xs : List A) (y : A) → position_from p n (map f xs) ≡ Some i
      → slice_get xs j ≡ Some y → i ≡ n + j
      → first_from t m xs ≡ Some (m + j, y)
  finds_one n m i j [] y h g e = absurd cc
  finds_one n m i zero (x ∷ xs) y h g e = elim (cases_Bool (t x)) [
    | inl hit ↦ rw (hit, same_Some _ _ g, add-zero)
    | inr miss ↦ let le = position_from-le p (n + 1) i (map f xs) (rw (same x, miss) at h) in
        absurd (omega arith)
  ]
  finds_one n m i (suc j) (x ∷ xs) y h g e = elim (cases_Bool (t x)) [
    | inl hit ↦ let at_n : n ≡ i = same_Some _ _ (rw (same x, hit) at h) in absurd (omega arith)
    | inr miss ↦ let shift : (m + 1) + j ≡ m + suc j = omega arith in
        rw miss (finds_one (n + 1) (m + 1) i j xs y (rw (same x, miss) at h) g (omega arith)
        ∙ ap (λ k. Some (k, y)) shift)
  ]

  -- none, where the place is behind them all
  pub finds_past : (n m i j : ℕ) (xs : List A) → position_from p n (map f xs) ≡ Some i
      → slice_get xs j ≡ None → i ≡ n + j
      → first_from t m xs ≡ None
  finds_past n m i j [] h g e = refl
  finds_past n m i zero (x ∷ xs) h g e = absurd (no_some x g)
  finds_past n m i (suc j) (x ∷ xs) h g e = elim (cases_Bool (t x)) [
    | inl hit ↦ let at_n : n ≡ i = same_Some _ _ (rw (same x, hit) at h) in absurd (omega arith)
    | inr miss ↦ rw miss (finds_past (n + 1) (m + 1) i j xs (rw (same x, miss) at h) g (omega arith))
  ]

-- ---- what stands twice

pub any_more : {K : Type 0} (p : K → Bool) (b : K) (xs : List K) → list_any p xs ≡ true
    → list_any p (xs ++ b ∷ []) ≡ true
any_more p b [] h = absurd (true≢false (sym h))
any_more p b (x ∷ xs) h = elim (cases_Bool (p x)) [
  | inl hit ↦ rw hit
  | inr miss ↦ rw miss (any_more p b xs (rw miss at h))
]

pub fresh_head : (again : Bool) (n : ℕ) (more : List ℕ) → cond again (n ∷ []) [] ++ more ≡ []
    → (again ≡ false) × (more ≡ [])
fresh_head true n more h = absurd cc
fresh_head false n more h = (refl, h)

-- ---- in terms of positions

pub finds_at : {A K : Type 0} (p : K → Bool) (t : A → Bool) (f : A → K) (same : (x : A) → p (f x) ≡ t x) (i : ℕ)
    (xs : List A) (y : A) → position_from p 0 (map f xs) ≡ Some i → slice_get xs i ≡ Some y → first_from t 0 xs ≡ Some (i, y)
finds_at p t f same i xs y h g =
    let e : 0 + i ≡ i = omega arith in
    finds_one p t f same 0 0 i i xs y h g (omega arith) ∙ ap (λ k. Some (k, y)) e

-- points by their source
pub eq_comm : (a b : ℕ) → (a == b) ≡ (b == a)
eq_comm a b = grind (arith, nat_tests)

key_sym_by : (o i p j : ℕ) (k l : Kind)
    → same_key (key_of o k i) (key_of p l j) ≡ same_key (key_of p l j) (key_of o k i)
key_sym_by o i p j Binary Binary = rw (eq_comm o p, eq_comm i j)
key_sym_by o i p j Output Output = rw (eq_comm o p, eq_comm i j)
key_sym_by o i p j Double Double = rw (eq_comm o p, eq_comm i j)
key_sym_by o i p j Counter Counter = rw (eq_comm o p, eq_comm i j)
key_sym_by o i p j Analog Analog = rw (eq_comm o p, eq_comm i j)
key_sym_by o i p j _ _ = rw (eq_comm o p, eq_comm i j)

pub key_sym : (a b : PointKey) → same_key a b ≡ same_key b a
key_sym a b = key_sym_by a.outstation a.index b.outstation b.index a.kind b.kind

pub slice_get-from_get_or : {A : Type 0} (xs : List A) (i : ℕ) (x : A) → i < length xs → x ≡ get_or xs i x
    → slice_get xs i ≡ Some x
slice_get-from_get_or [] i x h e = absurd (omega arith)
slice_get-from_get_or (y ∷ xs) zero x h e = ap Some (sym e)
slice_get-from_get_or (y ∷ xs) (suc i) x h e = slice_get-from_get_or xs i x (omega arith) e
