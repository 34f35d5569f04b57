-- Whether a step was made.
use Rattle.std.specs.Prelude.{◌≡◌, ℕ, Bool, is_ok, Result}
use Rattle.gw_map.specs.Settings.{Setup}
use Rattle.gw_steps.specs.declared.step.Step.{Step}
use Rattle.gw_steps.specs.declared.step.Reply.{Reply}
use Rattle.gw_steps.specs.declared.step.StepFault.{StepFault}
use Rattle.run_shared.specs.Turn.{Answers, Pass}

-- a call for a step was answered, without a fault where this is told
abbrev pub IsTried : Setup → Pass → Pass → Step → Bool → Type 0
IsTried setup mine after step made =
    (number : ℕ) × ((reply : Result Reply StepFault)
    × (Answers setup mine after step (number, reply) × (made ≡ is_ok reply)))
