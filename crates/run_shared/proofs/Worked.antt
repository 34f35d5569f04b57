-- When a run of pumps may go on, and a tape of two actors' calls.
use Rattle.std.proofs.Common.{◌≡◌, ℕ, zero, suc, ◌+◌, ◌<◌, ◌≤◌, ◌∙◌, inl, inr}
use Rattle.std.proofs.Common.{false, List, [], ◌∷◌, ◌++◌, Ok, Some, ap, refl, sym, arith}
use Rattle.std.proofs.lemmas.Bool.{ne_eqb}
use Rattle.gw_steps.specs.Runs.{Entry}
use Rattle.gw_steps.specs.State.{Hub}
use Rattle.gw_steps.specs.declared.step.Step.TheVariants as steps
use Rattle.gw_steps.specs.declared.step.Reply.TheVariants as replies
use Rattle.run_shared.specs.Example.{on_tape}
use Rattle.run_shared.specs.Reached.{Deed, entry}
use Rattle.run_shared.specs.Taped.{CountsEach, HasNewest}
use Rattle.run_shared.proofs.Taping.{length_then}
use Rattle.run_shared.specs.Pumping.{MayGoOn}
use Rattle.run_shared.specs.Turn.{Pass}
use Rattle.run_shared.specs.declared.pumped.Pumped.TheVariants.{More}

-- not where no call was made, and nothing lies in the batch
pub gets_on : (p : Pass) → MayGoOn p p [] More → ⊥
gets_on p may = elim may as (λ _. ⊥) [
  | inl full ↦ omega (arith, full)
  | inr made ↦ omega (arith, made)
]

abbrev newer : Entry
newer = entry (steps.Tick 5) (Ok (replies.Ticked 0))

abbrev older : Entry
older = entry (steps.Tick 2) (Ok (replies.Ticked 0))

abbrev ticks : List Deed
ticks = (0, newer) ∷ (1, older) ∷ []

pub taped_newest : (hub : Hub) → HasNewest (Some (on_tape hub 0)) ticks
taped_newest hub = ((1, older) ∷ [], refl)

pub taped_other : (hub : Hub) → HasNewest (Some (on_tape hub 1)) ticks → ⊥
taped_other hub newest = absurd (apart newest.0 newest.1)
  where
    front_is : (a b : Deed) (x y : List Deed) → a ∷ x ≡ b ∷ y → a ≡ b
    front_is a b x y is = cc is

    apart : (before : List Deed) → ticks ≡ (1, newer) ∷ before → ⊥
    apart before is =
        let same : 0 ≡ 1 = ap (λ (d : Deed). d.0) (front_is _ _ _ _ is) in
        absurd (cc same)

pub counted_each : CountsEach (1 ∷ 1 ∷ []) ticks
counted_each zero = refl
counted_each (suc zero) = refl
counted_each (suc (suc actor)) =
    sym (length_then (suc (suc actor)) 0 newer ((1, older) ∷ []) false (ne_eqb (suc (suc actor)) 0 (λ is. absurd (omega (arith, is))))
    ∙ length_then (suc (suc actor)) 1 older [] false (ne_eqb (suc (suc actor)) 1 (λ is. absurd (omega (arith, is)))))

pub miscounted : CountsEach (2 ∷ 0 ∷ []) ticks → ⊥
miscounted counted = absurd (cc (counted 0))
