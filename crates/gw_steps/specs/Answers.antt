-- Which answers are APDUs.
use Rattle.std.specs.Prelude.{Bool, true, false, Result, Ok}
use Rattle.gw_steps.specs.declared.step.Reply.{Reply}
use Rattle.gw_steps.specs.declared.step.Reply.TheVariants.{Apdu}
use Rattle.gw_steps.specs.declared.step.StepFault.{StepFault}

abbrev pub is_apdu : Result Reply StepFault → Bool
is_apdu (Ok (Apdu apdu)) = true
is_apdu _ = false
