-- What pumps for a client are answered with.
use Rattle.std.specs.Prelude.{◌≡◌, ◌⊎◌, ℕ, ◌+◌, ◌≤◌, ◌<◌, false, List, []}
use Rattle.std.specs.Prelude.{◌∷◌, ◌++◌, length, Option, Some, None, Result, Ok, Err}
use Rattle.iec_apci.specs.declared.buffer.ApduBuf.{ApduBuf}
use Rattle.gw_map.specs.Settings.{Setup}
use Rattle.gw_steps.specs.declared.step.Step.TheVariants.{Pump}
use Rattle.gw_steps.specs.declared.step.Reply.{Reply}
use Rattle.gw_steps.specs.declared.step.Reply.TheVariants.{Apdu}
use Rattle.gw_steps.specs.declared.step.StepFault.{StepFault}
use Rattle.gw_steps.specs.declared.step.StepFault.TheVariants.{Spent}
use Rattle.gw_steps.specs.State.{State}
use Rattle.gw_steps.specs.Steps.{Allowed}
use Rattle.gw_steps.specs.Sound.{IsSoundState}
use Rattle.iec_apci.specs.Joined.{joined, octets_in}
use Rattle.gw_steps.specs.Answers.{is_apdu}
use Rattle.run_shared.specs.declared.pumped.Pumped.{Pumped}
use Rattle.run_shared.specs.declared.pumped.Pumped.TheVariants.{Ended, More}
use Rattle.run_shared.specs.Turn.{Answers, Pass}

-- in some sound state a pump of the client is answered so
pub record IsPumped (client : ℕ) (reply : Result Reply StepFault) : Type 0 where
  pub setup : Setup
  pub state : State
  pub sound : IsSoundState setup state
  pub moment : ℕ
  pub next : State
  pub allowed : Allowed setup state (Pump client moment) reply next

-- what a pump of the client gives: an answer, or that no further call can be counted
abbrev pub IsGivenTo : ℕ → Result Reply StepFault → Type 0
IsGivenTo client reply = IsPumped client reply ⊎ (reply ≡ Err Spent)

-- a call that pumps for the client at some moment was answered so, with some number
abbrev pub PumpsOnce : Setup → ℕ → Pass → Pass → Result Reply StepFault → Type 0
PumpsOnce setup client mine after reply =
    (moment : ℕ) × ((number : ℕ) × Answers setup mine after (Pump client moment) (number, reply))

-- calls that pump for the client, one after another, were answered with these APDUs
abbrev pub PumpsAll : Setup → ℕ → Pass → List ApduBuf → Pass → Type 0
PumpsAll setup client mine [] after = mine ≡ after
PumpsAll setup client mine (apdu ∷ more) after =
    (mid : Pass) × (PumpsOnce setup client mine mid (Ok (Apdu apdu)) × PumpsAll setup client mid more after)

-- APDUs, the answers to such calls, came behind other octets
pub record ArePumped (setup : Setup) (client : ℕ) (mine after : Pass) (before octets : List ℕ) : Type 0 where
  pub apdus : List ApduBuf
  pub pumped : PumpsAll setup client mine apdus after
  pub octets_are : octets ≡ before ++ joined apdus

-- and behind them, where the run ended, an answer that is none
abbrev pub IsPumpedRun : Setup → ℕ → Pass → Pass → List ℕ → List ℕ → Pumped → Type 0
IsPumpedRun setup client mine after before octets (Ended last) =
    (mid : Pass) × (ArePumped setup client mine mid before octets × (PumpsOnce setup client mid after last
    × (is_apdu last ≡ false)))
IsPumpedRun setup client mine after before octets More = ArePumped setup client mine after before octets

-- where nothing ended the run, one APDU came
abbrev pub IsPumpedNext : Setup → ℕ → Pass → Pass → List ℕ → List ℕ → Option Pumped → Type 0
IsPumpedNext setup client mine after before octets (Some pumped) =
    IsPumpedRun setup client mine after before octets pumped
IsPumpedNext setup client mine after before octets None =
    (apdu : ApduBuf) × (PumpsOnce setup client mine after (Ok (Apdu apdu)) × (octets ≡ before ++ octets_in apdu))

-- there may be more only where the longest APDU finds no room behind these octets, or 64 calls were made on the pass
abbrev pub MayGoOn : Pass → Pass → List ℕ → Pumped → Type 0
MayGoOn mine after octets (Ended last) = Unit {0}
MayGoOn mine after octets More = (4096 < length octets + 255) ⊎ (mine.made + 64 ≤ after.made)

-- where nothing ended the run, one call was made on the pass
abbrev pub GoesOn : Pass → Pass → List ℕ → Option Pumped → Type 0
GoesOn mine after octets (Some pumped) = MayGoOn mine after octets pumped
GoesOn mine after octets None = after.made ≡ mine.made + 1
