-- What a step without a fault tells: its actor is there, and up or down as it has to be, and the reply is so.
use Rattle.std.proofs.Common.{◌≡◌, Bool, true, false, Option, Some, None, Ok, refl}
use Rattle.std.specs.Prelude.{option_map}
use Rattle.gw_steps.specs.declared.step.Reply.{Reply}
use Rattle.gw_steps.specs.declared.step.StepFault.{StepFault}
use Rattle.gw_steps.specs.Steps.{answer, fault_unless_up, fault_unless_down}

-- there is no fault, the counts can rise, and the reply is this
pub answered : (fault : Option StepFault) (rises : Bool) (reply r : Reply) → answer fault rises reply ≡ Ok r
    → (fault ≡ None) × (rises ≡ true) × (reply ≡ r)
answered (Some fault) rises reply r e = absurd cc
answered None true reply r e = (refl, refl, cc)
answered None false reply r e = absurd cc

-- who has to be up is there, and up
pub who_is_up : {A : Type 0} (up : A → Bool) (absent : StepFault) (found : Option A)
    → fault_unless_up absent (option_map up found) ≡ None → (x : A) × (found ≡ Some x) × (up x ≡ true)
who_is_up up absent None e = absurd cc
who_is_up up absent (Some x) e = (x, refl, go (up x) e)
  where
    go : (b : Bool) → fault_unless_up absent (Some b) ≡ None → b ≡ true
    go true e = refl
    go false e = absurd cc

-- who has to be down is there, and down
pub who_is_down : {A : Type 0} (up : A → Bool) (absent : StepFault) (found : Option A)
    → fault_unless_down absent (option_map up found) ≡ None → (x : A) × (found ≡ Some x) × (up x ≡ false)
who_is_down up absent None e = absurd cc
who_is_down up absent (Some x) e = (x, refl, go (up x) e)
  where
    go : (b : Bool) → fault_unless_down absent (Some b) ≡ None → b ≡ false
    go true e = absurd cc
    go false e = refl
