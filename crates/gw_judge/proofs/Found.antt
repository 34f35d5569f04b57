-- Look-ups by an object: what is found is of it, and where none stands twice, whatever is of it is found.
use Rattle.std.proofs.Common.{◌≡◌, ℕ, zero, suc, ◌+◌, ◌<◌, true, ◌⊎◌, inl, inr, List, [], ◌∷◌}
use Rattle.std.proofs.Common.{◌++◌, map, length, slice_get, add-zero, Some, refl, sym, ap, subst, ◌∙◌, arith}
use Rattle.std.specs.Prelude.{Any, slice_index_or}
use Rattle.std.specs.List.{list_any}
use Rattle.std.proofs.lemmas.Bool.{cases_Bool, true≢false}
use Rattle.std.proofs.lemmas.Option.{same_Some}
use Rattle.gw_model.specs.declared.point.ObjectKey.{ObjectKey}
use Rattle.gw_model.specs.Keys.{same_object}
use Rattle.gw_model.proofs.Same.{same_object-true, eq-same_object}
use Rattle.gw_map.specs.Sections.{repeated}
use Rattle.gw_map.specs.Settings.{first_from}
use Rattle.gw_map.proofs.Finding.{any_more, fresh_head}

-- ---- some element

pub any_here : {A : Type 0} (P : A → Type 0) (x : A) (xs : List A) → P x → Any P (x ∷ xs)
any_here P x xs p = (0, x, omega arith, refl, p)

pub any_there : {A : Type 0} (P : A → Type 0) (x : A) (xs : List A) → Any P xs → Any P (x ∷ xs)
any_there P x xs any = let below : any.0 < length xs = any.2 in (suc any.0, any.1, omega arith, any.3, any.4)

any_at : {A : Type 0} (P : A → Type 0) (x : A) (xs : List A) (k : ℕ) (y : A) → k < length (x ∷ xs)
    → slice_index_or (x ∷ xs) k y ≡ y → P y → P x ⊎ Any P xs
any_at P x xs zero y below there p = inl (subst P (sym there) p)
any_at P x xs (suc k) y below there p = inr (k, y, omega arith, there, p)

pub any_cases : {A : Type 0} (P : A → Type 0) (x : A) (xs : List A) → Any P (x ∷ xs) → P x ⊎ Any P xs
any_cases P x xs any = any_at P x xs any.0 any.1 any.2 any.3 any.4

pub any_none : {A : Type 0} (P : A → Type 0) → Any P [] → ⊥
any_none P any = let below : any.0 < 0 = any.2 in omega arith

-- ---- objects that stand twice

any_last : (a b : ObjectKey) (xs : List ObjectKey) → a ≡ b → list_any (same_object a) (xs ++ b ∷ []) ≡ true
any_last a b [] e = rw (eq-same_object a b e)
any_last a b (x ∷ xs) e = elim (cases_Bool (same_object a x)) [
  | inl hit ↦ rw hit
  | inr miss ↦ rw miss (any_last a b xs e)
]

-- ---- the first of an object

module _ {A : Type 0} (f : A → ObjectKey) (P : A → Type 0) where
  -- what is found
  pub any-first : (a : ObjectKey) (m : ℕ) (xs : List A) (found : ℕ × A) → first_from (λ x. same_object a (f x)) m xs ≡ Some found → P found.1
      → Any (λ x. (f x ≡ a) × P x) xs
  any-first a m [] found e p = absurd cc
  any-first a m (x ∷ xs) found e p = elim (cases_Bool (same_object a (f x))) [
    | inl hit ↦
        let it : x ≡ found.1 = ap (λ (q : ℕ × A). q.1) (same_Some _ _ (rw hit at e)) in
        any_here (λ x. (f x ≡ a) × P x) x xs (sym (same_object-true a (f x) hit), subst P (sym it) p)
    | inr miss ↦ any_there (λ x. (f x ≡ a) × P x) x xs (any-first a (m + 1) xs found (rw miss at e) p)
  ]

  -- no element is of an object that stood before
  none_again : (a : ObjectKey) (n : ℕ) (old : List ObjectKey) (xs : List A) (more : List ObjectKey) → list_any (same_object a) old ≡ true
      → repeated same_object n old (map f xs ++ more) ≡ [] → Any (λ x. (f x ≡ a) × P x) xs → ⊥
  unfolding repeated
  none_again a n old [] more there single any = any_none (λ x. (f x ≡ a) × P x) any
  none_again a n old (x ∷ xs) more there single any =
      let behind_it = repeated same_object (n + 1) (old ++ f x ∷ []) (map f xs ++ more) in
      let (fresh, behind) = fresh_head (list_any (same_object (f x)) old) n behind_it single in
      elim (any_cases (λ x. (f x ≡ a) × P x) x xs any) [
        | inl here ↦ true≢false (sym there ∙ ap (λ (b : ObjectKey). list_any (same_object b) old) (sym here.0) ∙ fresh)
        | inr later ↦
            none_again a (n + 1) (old ++ f x ∷ []) xs more (any_more (same_object a) (f x) old there) behind later
      ]

  -- whatever is of the object, where none stands twice
  pub first-any : (a : ObjectKey) (n m : ℕ) (old : List ObjectKey) (xs : List A) (more : List ObjectKey)
      → repeated same_object n old (map f xs ++ more) ≡ [] → Any (λ x. (f x ≡ a) × P x) xs
      → (found : ℕ × A) × (first_from (λ x. same_object a (f x)) m xs ≡ Some found) × P found.1
  unfolding repeated
  first-any a n m old [] more single any = absurd (any_none (λ x. (f x ≡ a) × P x) any)
  first-any a n m old (x ∷ xs) more single any =
      let behind_it = repeated same_object (n + 1) (old ++ f x ∷ []) (map f xs ++ more) in
      let (fresh, behind) = fresh_head (list_any (same_object (f x)) old) n behind_it single in
      elim (any_cases (λ x. (f x ≡ a) × P x) x xs any) [
        | inl here ↦ ((m, x), rw (eq-same_object a (f x) (sym here.0)), here.1)
        | inr later ↦ elim (cases_Bool (same_object a (f x))) [
          | inl hit ↦
              let there = any_last a (f x) old (same_object-true a (f x) hit) in
              absurd (none_again a (n + 1) (old ++ f x ∷ []) xs more there behind later)
          | inr miss ↦
              let r = first-any a (n + 1) (m + 1) (old ++ f x ∷ []) xs more behind later in
              (r.0, rw miss r.1, r.2)
        ]
      ]

  -- where it stands
  pub first-at : (a : ObjectKey) (m : ℕ) (xs : List A) (found : ℕ × A) → first_from (λ x. same_object a (f x)) m xs ≡ Some found
      → (k : ℕ) × (found.0 ≡ m + k) × (slice_get xs k ≡ Some found.1) × (f found.1 ≡ a)
  first-at a m [] found e = absurd cc
  first-at a m (x ∷ xs) found e = elim (cases_Bool (same_object a (f x))) [
    | inl hit ↦
        let it : (m, x) ≡ found = same_Some _ _ (rw hit at e) in
        let here : m ≡ found.0 = ap (λ (q : ℕ × A). q.0) it in
        let is : x ≡ found.1 = ap (λ (q : ℕ × A). q.1) it in
        (0, omega arith, ap (λ (y : A). Some y) is, ap f (sym is) ∙ sym (same_object-true a (f x) hit))
    | inr miss ↦
        let r = first-at a (m + 1) xs found (rw miss at e) in
        (suc r.0, omega (arith, r.1), r.2, r.3)
  ]

  -- what stands at a place and is of the object is found there, where none stands twice
  any_of_place : (a : ObjectKey) (k : ℕ) (xs : List A) (y : A) → slice_get xs k ≡ Some y → f y ≡ a → P y
      → Any (λ x. (f x ≡ a) × P x) xs
  any_of_place a k [] y e is p = absurd cc
  any_of_place a zero (x ∷ xs) y e is p =
      let same : x ≡ y = same_Some _ _ e in
      any_here (λ x. (f x ≡ a) × P x) x xs (ap f same ∙ is, subst P (sym same) p)
  any_of_place a (suc k) (x ∷ xs) y e is p =
      any_there (λ x. (f x ≡ a) × P x) x xs (any_of_place a k xs y e is p)

  pub place-first : (a : ObjectKey) (n m k : ℕ) (old : List ObjectKey) (xs : List A) (more : List ObjectKey) (y : A)
      → repeated same_object n old (map f xs ++ more) ≡ [] → slice_get xs k ≡ Some y → f y ≡ a → P y
      → first_from (λ x. same_object a (f x)) m xs ≡ Some (m + k, y)
  unfolding repeated
  place-first a n m k old [] more y single e is p = absurd cc
  place-first a n m zero old (x ∷ xs) more y single e is p =
      let same : x ≡ y = same_Some _ _ e in
      rw (eq-same_object a (f x) (sym (ap f same ∙ is)), same, add-zero)
  place-first a n m (suc k) old (x ∷ xs) more y single e is p =
      let behind_it = repeated same_object (n + 1) (old ++ f x ∷ []) (map f xs ++ more) in
      let (fresh, behind) = fresh_head (list_any (same_object (f x)) old) n behind_it single in
      elim (cases_Bool (same_object a (f x))) [
        | inl hit ↦
            let there = any_last a (f x) old (same_object-true a (f x) hit) in
            absurd (none_again a (n + 1) (old ++ f x ∷ []) xs more there behind (any_of_place a k xs y e is p))
        | inr miss ↦
            let shift : (m + 1) + k ≡ m + suc k = omega arith in
            rw miss (place-first a (n + 1) (m + 1) k (old ++ f x ∷ []) xs more y behind e is p
            ∙ ap (λ (j : ℕ). Some (j, y)) shift)
      ]
