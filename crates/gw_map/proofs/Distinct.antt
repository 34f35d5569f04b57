-- No known common address stands twice.
use Rattle.std.proofs.Common.{◌≡◌, ℕ, ◌==◌, Bool, false, not, List, [], ◌∷◌, map, filter, refl, inl, inr}
use Rattle.std.proofs.lemmas.Bool.{cases_Bool, true≢false}
use Rattle.gw_entries.specs.Setup.{OutstationSetup, StationSetup}
use Rattle.gw_map.specs.Settings.{Setup, distinct, is_among, known_in, known_addresses, AreDistinct}
use Rattle.gw_map.proofs.Known.{without, common_of}

-- what is left out isn't there
none_left : (n : ℕ) (xs : List ℕ) → is_among (without n xs) n ≡ false
none_left n [] = refl
none_left n (x ∷ xs) = elim (cases_Bool (x == n)) [
  | inl same ↦ rw same (none_left n xs)
  | inr other ↦ rw (other, other) (none_left n xs)
]

-- what isn't there isn't there once some are left out
still_none : (n : ℕ) (p : ℕ → Bool) (xs : List ℕ) → is_among xs n ≡ false → is_among (filter p xs) n ≡ false
still_none n p [] none = refl
still_none n p (x ∷ xs) none = elim (cases_Bool (x == n)) [
  | inl same ↦ absurd (true≢false (rw same at none))
  | inr other ↦ elim (cases_Bool (p x)) [
    | inl kept ↦ rw (kept, other) (still_none n p xs (rw other at none))
    | inr gone ↦ rw gone (still_none n p xs (rw other at none))
  ]
]

filter_distinct : (p : ℕ → Bool) (xs : List ℕ) → AreDistinct xs → AreDistinct (filter p xs)
filter_distinct p [] are = tt
filter_distinct p (x ∷ xs) are = elim (cases_Bool (p x)) [
  | inl kept ↦ rw kept (still_none x p xs are.0, filter_distinct p xs are.1)
  | inr gone ↦ rw gone (filter_distinct p xs are.1)
]

distinct_are : (xs : List ℕ) → AreDistinct (distinct xs)
distinct_are [] = tt
distinct_are (x ∷ xs) =
    (none_left x (distinct xs), filter_distinct (λ m. not (m == x)) (distinct xs) (distinct_are xs))

known_are : (station : StationSetup) (outstations : List OutstationSetup) → AreDistinct (known_in station outstations)
known_are station [] = (refl, tt)
known_are station (o ∷ more) = distinct_are (map common_of (o ∷ more))

pub known_distinct : (setup : Setup) → AreDistinct (known_addresses setup)
known_distinct setup = known_are setup.station setup.outstations
