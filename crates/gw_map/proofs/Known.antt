-- The known common addresses.
use Rattle.std.proofs.Common.{◌≡◌, IsTrue, ℕ, zero, suc, ◌+◌, ◌≤◌, arith, ◌<◌, List, [], ◌∷◌, ◌++◌, length}
use Rattle.std.proofs.Common.{map, take, filter, get_or, true, false, not, ◌==◌, cond, refl, ap, sym, ◌∙◌, inl, inr}
use Rattle.std.specs.List.{AllByRecursion}
use Rattle.std.proofs.lemmas.Bool.{cases_Bool, eq-eqb, eqb-true}
use Rattle.std.proofs.lemmas.List.{append-nil, take_more, map-append}
use Rattle.toml.specs.Data.{Members}
use Rattle.gw_entries.specs.declared.row.Row.{Row}
use Rattle.gw_entries.specs.declared.control.Control.{Control}
use Rattle.gw_entries.specs.Fields.{row_fields, control_fields}
use Rattle.gw_entries.specs.Setup.{StationSetup, OutstationSetup, RowFields, ControlFields, common_at}
use Rattle.gw_entries.specs.Tables.{point_keys, control_keys}
use Rattle.gw_entries.specs.Values.{number_in, row_of, control_of}
use Rattle.gw_map.specs.Settings.{Setup, distinct, is_among, known_in, known_addresses}
use Rattle.gw_map.proofs.Finding.{eq_comm}

abbrev pub without : ℕ → List ℕ → List ℕ
without n xs = filter (λ m. not (m == n)) xs

without-append : (n : ℕ) (xs ys : List ℕ) → without n (xs ++ ys) ≡ without n xs ++ without n ys
without-append n [] ys = refl
without-append n (x ∷ xs) ys = elim (cases_Bool (x == n)) [
  | inl same ↦ rw same (without-append n xs ys)
  | inr other ↦ rw other (ap (λ zs. x ∷ zs) (without-append n xs ys))
]

-- another number is still there
among-without : (n k : ℕ) (xs : List ℕ) → (k == n) ≡ false → is_among (without k xs) n ≡ is_among xs n
among-without n k [] other = refl
among-without n k (x ∷ xs) other = elim (cases_Bool (x == k)) [
  | inl same ↦ let differs : (x == n) ≡ false = ap (λ m. m == n) (eqb-true x k same) ∙ other in
      rw (same, differs) (among-without n k xs other)
  | inr kept ↦ elim (cases_Bool (x == n)) [
    | inl here ↦ rw (kept, here)
    | inr there ↦ rw (kept, there) (among-without n k xs other)
  ]
]

-- one number more
abbrev pub with : ℕ → List ℕ → List ℕ
with n xs = cond (is_among xs n) xs (xs ++ n ∷ [])

without-with : (k n : ℕ) (xs : List ℕ) → k ∷ without k (with n xs) ≡ with n (k ∷ without k xs)
without-with k n xs = elim (cases_Bool (k == n)) [
  | inl same ↦ let back : (n == k) ≡ true = eq_comm n k ∙ same in elim (cases_Bool (is_among xs n)) [
    | inl there ↦ rw (same, there)
    | inr missing ↦ rw (same, missing) (ap (λ zs. k ∷ zs) (without-append k xs (n ∷ []) ∙ rw back (append-nil _)))
  ]
  | inr other ↦ let back : (n == k) ≡ false = eq_comm n k ∙ other in elim (cases_Bool (is_among xs n)) [
    | inl there ↦ rw (other, among-without n k xs other, there)
    | inr missing ↦ rw (other, among-without n k xs other, missing)
        (ap (λ zs. k ∷ zs) (without-append k xs (n ∷ []) ∙ rw back))
  ]
]

pub distinct-append : (xs : List ℕ) (n : ℕ) → distinct (xs ++ n ∷ []) ≡ with n (distinct xs)
distinct-append [] n = refl
distinct-append (x ∷ xs) n = ap (λ ys. x ∷ without x ys) (distinct-append xs n) ∙ without-with x n (distinct xs)

abbrev pub common_of : OutstationSetup → ℕ
common_of outstation = outstation.common_address

-- one outstation more
pub distinct-more : (outstations : List OutstationSetup) (i : ℕ) (outstation : OutstationSetup)
    → i < length outstations → outstation ≡ get_or outstations i outstation
    → distinct (map common_of (take (i + 1) outstations))
    ≡ with outstation.common_address (distinct (map common_of (take i outstations)))
distinct-more outstations i outstation h is =
    rw (take_more outstations i outstation h, map-append common_of (take i outstations) (get_or outstations i outstation ∷ []), ← is)
    (distinct-append (map common_of (take i outstations)) outstation.common_address)

pub known-none : (station : StationSetup) (outstations : List OutstationSetup) (known : List ℕ)
    → known ≡ distinct (map common_of outstations) → known ≡ [] → station.common_address ∷ [] ≡ known_in station outstations
known-none station [] known e none = refl
known-none station (outstation ∷ more) known e none = absurd (no_first (sym e ∙ none))
  where
    no_first : {ns : List ℕ} → outstation.common_address ∷ ns ≡ [] → ⊥
    no_first h = cc

pub known-some : (station : StationSetup) (outstations : List OutstationSetup) (known : List ℕ)
    → known ≡ distinct (map common_of outstations) → (known ≡ [] → ⊥) → known ≡ known_in station outstations
known-some station [] known e some = absurd (some e)
known-some station (outstation ∷ more) known e some = e

pub among-distinct : (n : ℕ) (xs : List ℕ) → is_among (distinct xs) n ≡ is_among xs n
among-distinct n [] = refl
among-distinct n (x ∷ xs) = elim (cases_Bool (x == n)) [
  | inl here ↦ rw here
  | inr there ↦ rw there (among-without n x (distinct xs) there ∙ among-distinct n xs)
]

among-common_at : (n position : ℕ) (outstations : List OutstationSetup) → 1 ≤ n → n ≡ common_at position outstations
    → is_among (map common_of outstations) n ≡ true
among-common_at n position [] some is = absurd (omega (arith, is))
among-common_at n zero (outstation ∷ more) some is = rw (eq-eqb outstation.common_address n (sym is))
among-common_at n (suc position) (outstation ∷ more) some is = elim (cases_Bool (outstation.common_address == n)) [
  | inl here ↦ rw here
  | inr there ↦ rw there (among-common_at n position more some is)
]

-- a common address of an outstation is known
known-at : (station : StationSetup) (outstations : List OutstationSetup) (n position : ℕ) → 1 ≤ n
    → n ≡ common_at position outstations → is_among (known_in station outstations) n ≡ true
known-at station [] n position some is = absurd (omega (arith, is))
known-at station (outstation ∷ more) n position some is =
    among-distinct n (map common_of (outstation ∷ more)) ∙ among-common_at n position (outstation ∷ more) some is

first_same : {A : Type 0} (a b : A) (xs ys : List A) → a ∷ xs ≡ b ∷ ys → a ≡ b
first_same a b xs ys e = cc

rest_same : {A : Type 0} (a b : A) (xs ys : List A) → a ∷ xs ≡ b ∷ ys → xs ≡ ys
rest_same a b xs ys e = cc

module _ (station : StationSetup) (outstations : List OutstationSetup) where
  pub rows_known : (rows : List Row) (ts : List Members) → map row_fields rows ≡ map (row_of outstations) ts
      → AllByRecursion (λ (row : Row). IsTrue (is_among (known_in station outstations) row.common_address)) rows
  unfolding row_of
  rows_known [] ts e = tt
  rows_known (row ∷ rows) [] e = absurd cc
  rows_known (row ∷ rows) (t ∷ ts) e = (
    known-at station outstations row.common_address (number_in point_keys "outstation" t) row.common_from
        (ap (λ (fields : RowFields). fields.common_address) (first_same _ _ _ _ e)),
    rows_known rows ts (rest_same _ _ _ _ e),
  )

  pub controls_known : (controls : List Control) (ts : List Members)
      → map control_fields controls ≡ map (control_of outstations) ts
      → AllByRecursion (λ (control : Control). IsTrue (is_among (known_in station outstations) control.common_address))
      controls
  unfolding control_of
  controls_known [] ts e = tt
  controls_known (control ∷ controls) [] e = absurd cc
  controls_known (control ∷ controls) (t ∷ ts) e = (
    known-at station outstations control.common_address (number_in control_keys "outstation" t) control.common_from
        (ap (λ (fields : ControlFields). fields.common_address) (first_same _ _ _ _ e)),
    controls_known controls ts (rest_same _ _ _ _ e),
  )

pub all-more : (P : ℕ → Type 0) (xs : List ℕ) (n : ℕ) → AllByRecursion P xs → P n → AllByRecursion P (xs ++ n ∷ [])
all-more P [] n all p = (p, tt)
all-more P (x ∷ xs) n all p = (all.0, all-more P xs n all.1 p)

-- some address is known
pub some_known : (setup : Setup) → known_addresses setup ≡ [] → ⊥
some_known setup none = some_of setup.station setup.outstations none
  where
    some_of : (station : StationSetup) (outstations : List OutstationSetup) → known_in station outstations ≡ [] → ⊥
    some_of station [] e = cc
    some_of station (outstation ∷ more) e = cc
