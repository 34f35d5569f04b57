-- What is written of steps that were answered.
use Rattle.std.specs.Prelude.{ℕ, Bool, true, false, List, [], ◌∷◌, ◌++◌, codes, Result, Err, if◌then◌else◌}
use Rattle.gw_steps.specs.declared.step.Reply.{Reply}
use Rattle.gw_steps.specs.declared.step.StepFault.{StepFault}
use Rattle.gw_steps.specs.declared.step.StepFault.TheVariants.{Memory}
use Rattle.cmd_text.specs.Hex.{spaced_digits}

-- a step was not made for want of memory
abbrev pub is_refused : Result Reply StepFault → Bool
is_refused (Err Memory) = true
is_refused _ = false

-- a text of a step, unless that was not made for want of memory
abbrev pub unless_refused : Result Reply StepFault → List ℕ → List ℕ
unless_refused reply text = if is_refused reply then [] else text

-- the line that tells an APDU
abbrev pub apdu_line : List ℕ → List ℕ
apdu_line octets = codes "apdu" ++ spaced_digits octets ++ 10 ∷ []
