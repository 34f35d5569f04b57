-- Histories, and runs of the step relation. Histories are newest first.
use Rattle.std.specs.Prelude.{List, [], ◌∷◌, Result, Ok, Err}
use Rattle.gw_map.specs.Settings.{Setup}
use Rattle.gw_steps.specs.declared.step.Step.{Step}
use Rattle.gw_steps.specs.declared.step.Reply.{Reply}
use Rattle.gw_steps.specs.declared.step.StepFault.{StepFault}
use Rattle.gw_steps.specs.State.{State, at_first}
use Rattle.gw_steps.specs.Steps.{Allowed, after}

-- a step, and what it was answered
pub record Entry : Type 0 where
  pub step : Step
  pub reply : Result Reply StepFault

-- the steps of a run with their replies, before them a past
abbrev pub history : List Entry → List Step → List (Result Reply StepFault) → List Entry
history past [] rs = past
history past (s ∷ ss) [] = past
history past (s ∷ ss) (r ∷ rs) = history (record { step = s; reply = r } ∷ past) ss rs

-- what an answer without a fault tells; where there was a fault, what nothing tells
abbrev pub unless_fault : {A : Type 0} → A → (Reply → A) → Result Reply StepFault → A
unless_fault nothing f (Ok reply) = f reply
unless_fault nothing f (Err fault) = nothing

-- the state after a history
abbrev pub state_after : Setup → List Entry → State
state_after setup [] = at_first setup
state_after setup (e ∷ past) =
    let s = state_after setup past in unless_fault s (λ reply. after setup s e.step) e.reply

-- each entry was allowed after those before it, and led to the state after it
abbrev pub IsRun : Setup → List Entry → Type 0
IsRun setup [] = Unit {0}
IsRun setup (e ∷ past) =
    Allowed setup (state_after setup past) e.step e.reply (state_after setup (e ∷ past)) × IsRun setup past

-- at each point of a history
abbrev pub AtEach : (List Entry → Type 0) → List Entry → Type 0
AtEach P [] = P []
AtEach P (e ∷ past) = P (e ∷ past) × AtEach P past

-- at each point of the run that steps with these replies are, from the first state
abbrev pub KeepsAtEach : (List Entry → Type 0) → List Step → List (Result Reply StepFault) → Type 0
KeepsAtEach P steps replies = AtEach P (history [] steps replies)
