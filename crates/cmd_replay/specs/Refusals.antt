-- The lines of octets that make no step.
use Rattle.std.specs.Prelude.{ℕ, List, [], ◌∷◌, ◌++◌, codes}
use Rattle.iec_apci.specs.declared.fault.ApciFault.{ApciFault}
use Rattle.iec_apci.specs.declared.fault.ApciFault.TheVariants.{Start, Length, Control}
use Rattle.cmd_replay.specs.FragmentText.{refusal_text}
use Rattle.cmd_replay.specs.declared.refusal.StepRefusal.{StepRefusal}
use Rattle.cmd_replay.specs.declared.refusal.StepRefusal.TheVariants.{Fragment, Frame, Partial}

-- octets that don't begin with an APDU
abbrev pub apci_line : ApciFault → List ℕ
apci_line Start = codes "refused apci 1 Start" ++ 10 ∷ []
apci_line Length = codes "refused apci 2 Length" ++ 10 ∷ []
apci_line Control = codes "refused apci 3 Control" ++ 10 ∷ []

-- octets that make no step: those of a fragment, or of a frame
abbrev pub refused_line : StepRefusal → List ℕ
refused_line (Fragment fault) = refusal_text fault
refused_line (Frame fault) = apci_line fault
refused_line Partial = codes "refused apci 0 Partial" ++ 10 ∷ []
