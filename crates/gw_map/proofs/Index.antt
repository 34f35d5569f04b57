-- Positions by keys: an index of some keys, with one more, and what it finds.
use Rattle.std.proofs.Common.{◌≡◌, ℕ, ◌+◌, ◌<◌, ◌≤◌, List, [], ◌∷◌, ◌++◌, length}
use Rattle.std.proofs.Common.{map, take, get_or, slice_get, subst, Some, None, Bool, true}
use Rattle.std.proofs.Common.{false, cond, is_some, refl, ap, sym, ◌∙◌, inl, inr, arith}
use Rattle.std.specs.List.{position_from, list_any}
use Rattle.std.specs.Map.{lookup}
use Rattle.std.proofs.lemmas.Bool.{cases_Bool, true≢false}
use Rattle.std.proofs.lemmas.List.{length-map, length-take-le, take_all}
use Rattle.gw_model.specs.declared.point.ObjectKey.{ObjectKey}
use Rattle.gw_model.specs.Keys.{same_object}
use Rattle.gw_map.specs.Settings.{first_from, IsIndex}
use Rattle.gw_map.proofs.Finding.{finds_none, finds_past, finds_at, eq_comm}
use Rattle.gw_map.proofs.Loops.{map_take-more}

-- ---- positions

is_some-position : {K : Type 0} (p : K → Bool) (n : ℕ) (xs : List K) → is_some (position_from p n xs) ≡ list_any p xs
is_some-position p n [] = refl
is_some-position p n (x ∷ xs) = elim (cases_Bool (p x)) [
  | inl hit ↦ rw hit
  | inr miss ↦ rw miss (is_some-position p (n + 1) xs)
]

none-position : {K : Type 0} (p : K → Bool) (n : ℕ) (xs : List K) → list_any p xs ≡ false → position_from p n xs ≡ None
none-position p n [] h = refl
none-position p n (x ∷ xs) h = elim (cases_Bool (p x)) [
  | inl hit ↦ absurd (true≢false (rw hit at h))
  | inr miss ↦ rw miss (none-position p (n + 1) xs (rw miss at h))
]

-- one more, which is found where none of the others was
last-position : {K : Type 0} (p : K → Bool) (n : ℕ) (xs : List K) (y : K) → list_any p xs ≡ false
    → position_from p n (xs ++ y ∷ []) ≡ cond (p y) (Some (n + length xs)) None
last-position p n [] y h = let e : n ≡ n + 0 = omega arith in rw (← e)
last-position p n (x ∷ xs) y h = elim (cases_Bool (p x)) [
  | inl hit ↦ absurd (true≢false (rw hit at h))
  | inr miss ↦ let e : (n + 1) + length xs ≡ n + length (x ∷ xs) = omega arith in
      rw miss (last-position p (n + 1) xs y (rw miss at h) ∙ ap (λ i. cond (p y) (Some i) None) e)
]

last-place : {K : Type 0} (p : K → Bool) (xs : List K) (y : K) → list_any p xs ≡ false
    → position_from p 0 (xs ++ y ∷ []) ≡ cond (p y) (Some (length xs)) None
last-place p xs y h =
    let e : 0 + length xs ≡ length xs = omega arith in
    last-position p 0 xs y h ∙ ap (λ i. cond (p y) (Some i) None) e

front-position : {K : Type 0} (p : K → Bool) (n : ℕ) (xs : List K) (y : K) → list_any p xs ≡ true
    → position_from p n (xs ++ y ∷ []) ≡ position_from p n xs
front-position p n [] y h = absurd (true≢false (sym h))
front-position p n (x ∷ xs) y h = elim (cases_Bool (p x)) [
  | inl hit ↦ rw hit
  | inr miss ↦ rw miss (front-position p (n + 1) xs y (rw miss at h))
]

-- ---- an index, key by key

-- whether it has a key
pub index-has : {K : Type 0} (same : K → K → Bool) (entries : List (K × ℕ)) (keys : List K) (key : K)
    → IsIndex same entries keys → is_some (lookup (same key) entries) ≡ list_any (same key) keys
index-has same entries keys key index = ap is_some (index key) ∙ is_some-position (same key) 0 keys

module _ {K : Type 0} (same : K → K → Bool) (turned : (a b : K) → same a b ≡ same b a)
    (decides : (a b : K) → same a b ≡ true → a ≡ b) where
  index-more : (old new : List (K × ℕ)) (keys : List K) (key : K) → IsIndex same old keys
      → list_any (same key) keys ≡ false
      → ((other : K) → lookup (same other) new ≡ cond (same key other) (Some (length keys)) (lookup (same other) old))
      → IsIndex same new (keys ++ key ∷ [])
  index-more old new keys key index fresh put = λ other. elim (cases_Bool (same key other)) [
    | inl hit ↦
        let is : key ≡ other = decides key other hit in
        let none : list_any (same other) keys ≡ false = ap (λ k. list_any (same k) keys) (sym is) ∙ fresh in
        put other ∙ rw hit (sym (last-place (same other) keys key none ∙ rw (turned other key ∙ hit) refl))
    | inr miss ↦ put other ∙ rw miss (index other ∙ elim (cases_Bool (list_any (same other) keys)) [
      | inl there ↦ sym (front-position (same other) 0 keys key there)
      | inr absent ↦ none-position (same other) 0 keys absent
          ∙ sym (last-place (same other) keys key absent ∙ rw (turned other key ∙ miss) refl)
    ])
  ]

  -- an index of the front of some, with the next one at its position
  pub index-next : {X : Type 0} (f : X → K) (all : List X) (i : ℕ) (d : X) (old new : List (K × ℕ)) (key : K)
      → i < length all → key ≡ f (get_or all i d) → IsIndex same old (map f (take i all))
      → list_any (same key) (map f (take i all)) ≡ false
      → ((other : K) → lookup (same other) new ≡ cond (same key other) (Some i) (lookup (same other) old))
      → IsIndex same new (map f (take (i + 1) all))
  index-next f all i d old new key within is index fresh put =
      let place : i ≡ length (map f (take i all)) = sym (length-map (take i all) f ∙ length-take-le i all (omega arith)) in
      subst (λ keys. IsIndex same new keys) (map_take-more f all i d (map f (take i all)) key within refl is)
      (index-more old new (map f (take i all)) key index fresh
      (λ other. put other ∙ ap (λ n. cond (same key other) (Some n) (lookup (same other) old)) place))

-- an index of the front that is all
pub index-end : {X K : Type 0} (same : K → K → Bool) (f : X → K) (all : List X) (i : ℕ) (entries : List (K × ℕ))
    → length all ≤ i → IsIndex same entries (map f (take i all)) → IsIndex same entries (map f all)
index-end same f all i entries h index = subst (λ xs. IsIndex same entries (map f xs)) (take_all i all h) index

-- ---- information objects

pub object_sym : (a b : ObjectKey) → same_object a b ≡ same_object b a
object_sym a b = rw (eq_comm a.common_address b.common_address, eq_comm a.address b.address)

-- ---- what is found

module _ {A K : Type 0} (same : K → K → Bool) (f : A → K) (key : K) (entries : List (K × ℕ)) (xs : List A)
    (index : IsIndex same entries (map f xs)) where
  pub finds-none : (t : A → Bool) → ((x : A) → same key (f x) ≡ t x) → lookup (same key) entries ≡ None
      → first_from t 0 xs ≡ None
  finds-none t is e = finds_none (same key) t f is 0 0 xs (sym (index key) ∙ e)

  pub finds-nothing : (t : A → Bool) → ((x : A) → same key (f x) ≡ t x) → (i : ℕ)
      → lookup (same key) entries ≡ Some i → slice_get xs i ≡ None
      → first_from t 0 xs ≡ None
  finds-nothing t is i e out = finds_past (same key) t f is 0 0 i i xs (sym (index key) ∙ e) out (omega arith)

  pub finds : (t : A → Bool) → ((x : A) → same key (f x) ≡ t x) → (i : ℕ) (x : A)
      → lookup (same key) entries ≡ Some i → slice_get xs i ≡ Some x
      → first_from t 0 xs ≡ Some (i, x)
  finds t is i x e there = finds_at (same key) t f is i xs x (sym (index key) ∙ e) there
