-- Calls that were made under the lock one after another, and what of their answers came into a batch.
use Rattle.std.specs.Prelude.{◌≡◌, ℕ, List, [], ◌∷◌, ◌++◌, Result, Ok}
use Rattle.gw_steps.specs.declared.step.Step.{Step}
use Rattle.gw_steps.specs.declared.step.Reply.{Reply}
use Rattle.gw_steps.specs.declared.step.Reply.TheVariants.{Apdu}
use Rattle.gw_steps.specs.declared.step.StepFault.{StepFault}
use Rattle.iec_apci.specs.Joined.{octets_in}
use Rattle.gw_map.specs.Settings.{Setup}
use Rattle.run_shared.specs.Turn.{Core, Pass, Steps}

-- what a call is answered: its number, and the reply
abbrev pub Answer : Type 0
Answer = ℕ × Result Reply StepFault

-- calls for one step, one after another, lead from a core and a pass to others, and are answered so
abbrev pub AreMade : Setup → Step → Core → Core → Pass → Pass → List Answer → Type 0
AreMade setup step old new mine after [] = (new ≡ old) × (after ≡ mine)
AreMade setup step old new mine after (answer ∷ answers) =
    (mid : Core) × ((between : Pass)
    × (Steps setup old mid mine between step answer × AreMade setup step mid new between after answers))

-- the octets of an answer that is an APDU; of another none
abbrev pub octets_given : Answer → List ℕ
octets_given (number, Ok (Apdu apdu)) = octets_in apdu
octets_given (number, _) = []

-- those of answers, one after another
abbrev pub octets_of : List Answer → List ℕ
octets_of [] = []
octets_of (answer ∷ answers) = octets_given answer ++ octets_of answers

-- calls for one step were made, and of their answers just the APDUs came behind other octets, in their order
pub record IsMadeInto (setup : Setup) (step : Step) (old new : Core) (mine after : Pass) (before octets : List ℕ) : Type 0 where
  pub answers : List Answer
  pub made : AreMade setup step old new mine after answers
  pub into : octets ≡ before ++ octets_of answers
