-- The numbers of calls, and the one history.
use Rattle.std.proofs.Common.{◌≡◌, ℕ, ◌+◌, inl, inr, List, [], ◌∷◌, length}
use Rattle.std.proofs.Common.{take, Result, Ok, refl, sym, ap, ◌∙◌, arith}
use Rattle.gw_map.specs.Settings.{Setup}
use Rattle.gw_steps.specs.declared.step.Reply.{Reply}
use Rattle.gw_steps.specs.declared.step.Step.{Step}
use Rattle.gw_steps.specs.declared.step.StepFault.{StepFault}
use Rattle.gw_steps.specs.Runs.{Entry}
use Rattle.run_shared.specs.Reached.{Deed, entries_of, entry}
use Rattle.run_shared.specs.Turn.{Answers, Pass}

-- a call more is counted
one_more : (newest : Deed) (past : List Deed) → length past + 1 ≡ length (newest ∷ past)
one_more newest past = omega arith

pub number_counts : (setup : Setup) (mine after : Pass) (step : Step) (number : ℕ) (reply : Result Reply StepFault)
    → Answers setup mine after step (number, reply) → number ≡ length after.seen
number_counts setup mine after step number reply answers = elim answers as (λ _. number ≡ length after.seen) [
  | inl told ↦
      told.number_is
      ∙ (one_more (mine.actor, entry step reply) told.before ∙ ap (λ (p : Pass). length p.seen) (sym told.pass))
  | inr refused ↦
      refused.number_is ∙ (sym refused.count ∙ ap (λ (p : Pass). length p.seen) (sym refused.pass))
]

pub newest_is : (setup : Setup) (mine after : Pass) (step : Step) (number : ℕ) (reply : Reply)
    → Answers setup mine after step (number, Ok reply) → take 1 (entries_of after.seen) ≡ entry step (Ok reply) ∷ []
newest_is setup mine after step number reply answers =
    elim answers as (λ _. take 1 (entries_of after.seen) ≡ entry step (Ok reply) ∷ []) [
      | inl told ↦ ap (λ (p : Pass). take 1 (entries_of p.seen)) told.pass
      | inr refused ↦ absurd (cc refused.refused)
    ]
