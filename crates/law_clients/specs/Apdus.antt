-- Apdus: what a pump puts out reads as one APDU.
use Rattle.std.specs.Prelude.{List, [], ◌∷◌, Result, Ok, IsSome}
use Rattle.gw_map.specs.Settings.{Setup, station_clocks}
use Rattle.gw_steps.specs.declared.step.Step.{Step}
use Rattle.gw_steps.specs.declared.step.Step.TheVariants as steps
use Rattle.gw_steps.specs.declared.step.Reply.{Reply}
use Rattle.gw_steps.specs.declared.step.Reply.TheVariants as replies
use Rattle.gw_steps.specs.declared.step.StepFault.{StepFault}
use Rattle.gw_steps.specs.Runs.{Entry}
use Rattle.gw_steps.specs.Said.{said}

abbrev pub ReadsAsOne : Setup → Step → Result Reply StepFault → Type 0
ReadsAsOne setup (steps.Pump c moment) (Ok (replies.Apdu apdu)) = IsSome (said (station_clocks setup.station) apdu)
ReadsAsOne setup _ _ = Unit {0}

abbrev pub Apdus : Setup → List Entry → Type 0
Apdus setup [] = Unit {0}
Apdus setup (e ∷ past) = ReadsAsOne setup e.step e.reply
