-- A common address is known exactly where some outstation has it, or it is that of a station without outstations.
use Rattle.std.proofs.Common.{◌≡◌, ℕ, ◌==◌, true, ◌⊎◌, inl, inr, List, [], ◌∷◌, map, refl, sym, ◌∙◌}
use Rattle.std.specs.Prelude.{Any}
use Rattle.std.proofs.lemmas.Bool.{cases_Bool, true≢false, eqb-true, eq-eqb}
use Rattle.gw_entries.specs.Setup.{OutstationSetup, StationSetup}
use Rattle.gw_map.specs.Settings.{Setup, is_among, known_in, is_known}
use Rattle.gw_map.proofs.Known.{common_of, among-distinct}
use Rattle.gw_judge.specs.Acceptable.{HasAddress}
use Rattle.gw_judge.proofs.Found.{any_here, any_there, any_cases, any_none}

some_has : (n : ℕ) (outstations : List OutstationSetup) → is_among (map common_of outstations) n ≡ true
    → Any (λ outstation. outstation.common_address ≡ n) outstations
some_has n [] h = absurd (true≢false (sym h))
some_has n (o ∷ more) h = elim (cases_Bool (o.common_address == n)) [
  | inl hit ↦ any_here (λ x. x.common_address ≡ n) o more (eqb-true o.common_address n hit)
  | inr miss ↦ any_there (λ x. x.common_address ≡ n) o more (some_has n more (rw miss at h))
]

has_some : (n : ℕ) (outstations : List OutstationSetup) → Any (λ outstation. outstation.common_address ≡ n) outstations
    → is_among (map common_of outstations) n ≡ true
has_some n [] any = absurd (any_none (λ x. x.common_address ≡ n) any)
has_some n (o ∷ more) any = elim (cases_Bool (o.common_address == n)) [
  | inl hit ↦ rw hit
  | inr miss ↦ rw miss (elim (any_cases (λ x. x.common_address ≡ n) o more any) [
    | inl here ↦ absurd (true≢false (sym (eq-eqb o.common_address n here) ∙ miss))
    | inr later ↦ has_some n more later
  ])
]

module _ (station : StationSetup) where
  abbrev HasOne : List OutstationSetup → ℕ → Type 0
  HasOne outstations n =
      Any (λ outstation. outstation.common_address ≡ n) outstations
      ⊎ ((outstations ≡ []) × (n ≡ station.common_address))

  known_has : (outstations : List OutstationSetup) (n : ℕ) → is_among (known_in station outstations) n ≡ true
      → HasOne outstations n
  known_has [] n h = elim (cases_Bool (station.common_address == n)) [
    | inl hit ↦ inr (refl, sym (eqb-true station.common_address n hit))
    | inr miss ↦ absurd (true≢false (sym (rw miss at h)))
  ]
  known_has (o ∷ more) n h =
      inl (some_has n (o ∷ more) (sym (among-distinct n (map common_of (o ∷ more))) ∙ h))

  has_known : (outstations : List OutstationSetup) (n : ℕ) → HasOne outstations n
      → is_among (known_in station outstations) n ≡ true
  has_known [] n h = elim h [
    | inl any ↦ absurd (any_none (λ x. x.common_address ≡ n) any)
    | inr alone ↦ rw (eq-eqb station.common_address n (sym alone.1))
  ]
  has_known (o ∷ more) n h = elim h [
    | inl any ↦ among-distinct n (map common_of (o ∷ more)) ∙ has_some n (o ∷ more) any
    | inr alone ↦ absurd (no_cons alone.0)
  ]
    where
      no_cons : o ∷ more ≡ [] → ⊥
      no_cons e = cc

pub address_there : (setup : Setup) (common : ℕ) → is_known setup common ≡ true → HasAddress setup common
address_there setup common h = known_has setup.station setup.outstations common h

pub address_known : (setup : Setup) (common : ℕ) → HasAddress setup common → is_known setup common ≡ true
address_known setup common h = has_known setup.station setup.outstations common h
