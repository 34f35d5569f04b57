-- Elements that stand twice.
use Rattle.std.proofs.Common.{◌≡◌, ℕ, ◌+◌, ◌-◌, nat_lt, codes, ◌<◌, ◌≤◌, List, [], ◌∷◌}
use Rattle.std.proofs.Common.{◌++◌, length, map, drop, take, get_or, Some, Bool, true, false, ◌&&◌}
use Rattle.std.proofs.Common.{◌==◌, add-zero, if◌then◌else◌, refl, ◌∙◌, inl, inr, arith, append_assoc}
use Rattle.std.specs.List.{list_any}
use Rattle.std.proofs.lemmas.Bool.{cases_Bool}
use Rattle.std.proofs.lemmas.List.{drop_all, drop_more, take_more, map-append, append-nil}
use Rattle.gw_model.specs.declared.point.Kind.{Kind}
use Rattle.gw_model.specs.declared.point.Kind.TheVariants.{Binary, Output, Double, Counter, Analog}
use Rattle.gw_model.specs.declared.point.PointKey.{PointKey}
use Rattle.gw_model.specs.contracts.point.PointKeyPartialEq.TheImpl.{eq-value}
use Rattle.gw_model.specs.declared.point.ObjectKey.{ObjectKey}
use Rattle.gw_model.specs.Keys.{same_key, same_object}
use Rattle.gw_entries.specs.Answers.{first}
use Rattle.gw_entries.specs.declared.fault.Fault.TheVariants.{DoubleAddress}
use Rattle.gw_entries.specs.declared.fault.Section.TheVariants as of
use Rattle.gw_map.specs.Sections.{repeated, double_address, double_addresses}
use Rattle.gw_entries.specs.Complaints.{complaint}
use Rattle.std.proofs.lemmas.Bool.Decides.{nat_tests}

-- ---- the comparison of points

abbrev pub key_of : ℕ → Kind → ℕ → PointKey
key_of outstation kind index = record { outstation = outstation; kind = kind; index = index }

mid_true : (a b : Bool) → (a && b) ≡ ((a && true) && b)
mid_true true b = refl
mid_true false b = refl

mid_false : (a b : Bool) → (a && false) ≡ ((a && false) && b)
mid_false true b = refl
mid_false false b = refl

key_eq_by : (o i p j : ℕ) (k l : Kind)
    → eq-value.it (key_of o k i) (key_of p l j) ≡ same_key (key_of o k i) (key_of p l j)
key_eq_by o i p j Binary Binary = mid_true (o == p) (i == j)
key_eq_by o i p j Output Output = mid_true (o == p) (i == j)
key_eq_by o i p j Double Double = mid_true (o == p) (i == j)
key_eq_by o i p j Counter Counter = mid_true (o == p) (i == j)
key_eq_by o i p j Analog Analog = mid_true (o == p) (i == j)
key_eq_by o i p j _ _ = mid_false (o == p) (i == j)

pub key_eq : (a b : PointKey) → eq-value.it a b ≡ same_key a b
key_eq a b = key_eq_by a.outstation a.index b.outstation b.index a.kind b.kind

-- ---- one after another

module _ {X A : Type 0} (same : A → A → Bool) (f : X → A) (old : List A) where
  rep-step : (all : List X) (i : ℕ) (d : X) → i < length all
      → repeated same i (old ++ map f (take i all)) (map f (drop i all))
      ≡ (if list_any (same (f (get_or all i d))) (old ++ map f (take i all)) then i ∷ [] else [])
      ++ repeated same (i + 1) (old ++ map f (take (i + 1) all)) (map f (drop (i + 1) all))
  unfolding repeated
  rep-step all i d h = rw (
    drop_more all i d h,
    take_more all i d h,
    map-append f (take i all) (get_or all i d ∷ []),
    ← append_assoc old (map f (take i all)) (f (get_or all i d) ∷ []),
  )

  pub rep-more : (all : List X) (i : ℕ) (d : X) → i < length all
      → repeated same 0 old (map f all) ≡ repeated same i (old ++ map f (take i all)) (map f (drop i all))
      → list_any (same (f (get_or all i d))) (old ++ map f (take i all)) ≡ false
      → repeated same 0 old (map f all)
      ≡ repeated same (i + 1) (old ++ map f (take (i + 1) all)) (map f (drop (i + 1) all))
  rep-more all i d h so none = so ∙ rep-step all i d h ∙ rw none

  pub rep-found : (all : List X) (i : ℕ) (d : X) → i < length all
      → repeated same 0 old (map f all) ≡ repeated same i (old ++ map f (take i all)) (map f (drop i all))
      → list_any (same (f (get_or all i d))) (old ++ map f (take i all)) ≡ true
      → first (repeated same 0 old (map f all)) ≡ Some i
  unfolding first
  rep-found all i d h so found = rw (so, rep-step all i d h, found)

  pub rep-end : (all : List X) (i : ℕ) → length all ≤ i
      → repeated same 0 old (map f all) ≡ repeated same i (old ++ map f (take i all)) (map f (drop i all))
      → repeated same 0 old (map f all) ≡ []
  unfolding repeated
  rep-end all i h so = so ∙ rw (drop_all i all h)

-- lists that are gone over in turn
pub repeated-append : {A : Type 0} (same : A → A → Bool) (n : ℕ) (old xs ys : List A)
    → repeated same n old (xs ++ ys) ≡ repeated same n old xs ++ repeated same (n + length xs) (old ++ xs) ys
unfolding repeated
repeated-append same n old [] ys = rw (add-zero, append-nil)
repeated-append same n old (x ∷ xs) ys =
    let e : (n + 1) + length xs ≡ n + length (x ∷ xs) = omega arith in
    rw (repeated-append same (n + 1) (old ++ x ∷ []) xs ys, append_assoc old (x ∷ []) xs, e) (simp append_assoc)

-- ---- addresses of points and of controls

points_part : (points k : ℕ) (old xs : List ObjectKey) → k + length xs ≤ points
    → map (double_address points) (repeated same_object k old xs)
    ≡ map (λ n. complaint of.Point n (DoubleAddress, codes "address")) (repeated same_object k old xs)
unfolding repeated
points_part points k old [] h = refl
points_part points k old (x ∷ xs) h =
    let below : nat_lt k points ≡ true = grind (arith, nat_tests) in
    let more = points_part points (k + 1) (old ++ x ∷ []) xs (omega arith) in
    elim (cases_Bool (list_any (same_object x) old)) [
      | inl again ↦ rw (again, below, more)
      | inr fresh ↦ rw (fresh, more)
    ]

controls_part : (points k m : ℕ) (old xs : List ObjectKey) → m ≡ points + k
    → map (double_address points) (repeated same_object m old xs)
    ≡ map (λ n. complaint of.Control n (DoubleAddress, codes "address")) (repeated same_object k old xs)
unfolding repeated
controls_part points k m old [] e = refl
controls_part points k m old (x ∷ xs) e =
    let above : nat_lt m points ≡ false = grind (arith, nat_tests) in
    let place : m - points ≡ k = omega arith in
    let more = controls_part points (k + 1) (m + 1) (old ++ x ∷ []) xs (omega arith) in
    elim (cases_Bool (list_any (same_object x) old)) [
      | inl again ↦ rw (again, above, place, more)
      | inr fresh ↦ rw (fresh, more)
    ]

pub double_split : (points controls : List ObjectKey) → double_addresses points controls
    ≡ map (λ n. complaint of.Point n (DoubleAddress, codes "address")) (repeated same_object 0 [] points)
    ++ map (λ n. complaint of.Control n (DoubleAddress, codes "address")) (repeated same_object 0 points controls)
double_split points controls =
    rw (
      repeated-append same_object 0 [] points controls,
      map-append (double_address (length points)) (repeated same_object 0 [] points)
          (repeated same_object (0 + length points) points controls),
      points_part (length points) 0 [] points (omega arith),
      controls_part (length points) 0 (0 + length points) points controls (omega arith),
    )

pub map-nothing : {A B : Type 0} (f : A → B) (xs : List A) → map f xs ≡ [] → xs ≡ []
map-nothing f [] h = refl
map-nothing f (x ∷ xs) h = absurd cc

-- nothing in two parts
pub nil_parts : {A : Type 0} (xs ys : List A) → xs ++ ys ≡ [] → (xs ≡ []) × (ys ≡ [])
nil_parts [] ys e = (refl, e)
nil_parts (x ∷ xs) ys e = absurd cc
