-- What a call on the core tells whoever takes the lock.
use Rattle.std.proofs.Common.{◌≡◌, ◌⊎◌, inl, inr, ℕ, suc, ◌+◌, ◌<◌, ◌≤◌}
use Rattle.std.proofs.Common.{List, length, Result, ap, subst, sym, ◌∙◌, arith}
use Rattle.gw_steps.specs.declared.step.Step.{Step}
use Rattle.gw_steps.specs.declared.step.Reply.{Reply}
use Rattle.gw_steps.specs.declared.step.StepFault.{StepFault}
use Rattle.gw_map.specs.Settings.{Setup}
use Rattle.run_shared.specs.Reached.{Deed, IsCourse, entries_of}
use Rattle.run_shared.specs.Turn.{Answers, Core, Pass, Steps, last_call, pass_behind}

-- a core answers so
pub answered : (setup : Setup) (old new : Core) (mine after : Pass) (step : Step) (answer : ℕ × Result Reply StepFault)
    → Steps setup old new mine after step answer → old.made ≤ last_call → Answers setup mine after step answer
answered setup old new mine after step answer steps counted =
    elim (lt-or-eq old.made last_call counted) as (λ _. Answers setup mine after step answer) [
      | inl less ↦ let turn = steps.0 less in inl (record {
        before = old.past;
        follows = turn.follows;
        course = subst (λ (l : List Deed). IsCourse setup (entries_of l)) turn.past turn.reached.course;
        number_is =
            turn.number_is ∙ (sym turn.reached.count ∙ (ap (λ (l : List Deed). length l) turn.past ∙ one_more old.past));
        above = turn.above;
        pass = turn.pass ∙ ap (pass_behind mine) turn.past;
      })
      | inr last ↦ let refused = steps.1 last in
          inr (record {
            whole = old.past;
            follows = refused.follows;
            course = refused.reached.course;
            count = refused.reached.count ∙ last;
            pass = refused.pass;
            number_is = refused.number_is;
            refused = refused.refused;
          })
    ]
  where
    one_more : (past : List Deed) → suc (length past) ≡ length past + 1
    one_more past = omega arith

    lt-or-eq : (n m : ℕ) → n ≤ m → (n < m) ⊎ (n ≡ m)
    lt-or-eq n m le = grind arith
