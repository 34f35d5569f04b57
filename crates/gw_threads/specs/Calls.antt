-- Calls that were made with a pass, and what they gave.
use Rattle.std.specs.Prelude.{◌≡◌, ℕ, Bool, cond, List, [], ◌∷◌, ◌++◌, Result}
use Rattle.gw_map.specs.Settings.{Setup}
use Rattle.gw_steps.specs.declared.step.Step.{Step}
use Rattle.gw_steps.specs.declared.step.Reply.{Reply}
use Rattle.gw_steps.specs.declared.step.StepFault.{StepFault}
use Rattle.gw_steps.specs.Runs.{Entry}
use Rattle.run_shared.specs.Turn.{Answers, Pass}

-- a call that was made with a pass: its step, its number, and what it was answered
pub record Call : Type 0 where
  pub step : Step
  pub number : ℕ
  pub reply : Result Reply StepFault

-- calls, one after another, led from a pass to another: each has its place in the one history, behind those before it
abbrev pub AreCalls : Setup → Pass → List Call → Pass → Type 0
AreCalls setup mine [] after = mine ≡ after
AreCalls setup mine (c ∷ calls) after =
    (mid : Pass) × (Answers setup mine mid c.step (c.number, c.reply) × AreCalls setup mid calls after)

-- what calls gave, in their order, by what each gives
abbrev pub given_by : {X : Type 0} → (Step → Result Reply StepFault → List X) → List Call → List X
given_by gives [] = []
given_by gives (c ∷ calls) = gives c.step c.reply ++ given_by gives calls

-- what those calls of a history gave that are of one kind, whoever made them, the oldest first; the history has the newest
-- first
abbrev pub all_given : {X : Type 0} → (Step → Bool) → (Step → Result Reply StepFault → List X) → List Entry → List X
all_given is_kind gives [] = []
all_given is_kind gives (e ∷ past) = all_given is_kind gives past ++ cond (is_kind e.step) (gives e.step e.reply) []
