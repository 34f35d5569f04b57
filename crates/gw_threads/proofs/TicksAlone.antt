-- What the worker that ticks steps, one after another.
use Rattle.std.proofs.Common.{ℕ, [], ◌∷◌, ◌++◌, Result, refl}
use Rattle.gw_map.specs.Settings.{Setup}
use Rattle.gw_steps.specs.declared.step.Step.TheVariants as steps
use Rattle.gw_steps.specs.declared.step.Reply.{Reply}
use Rattle.gw_steps.specs.declared.step.StepFault.{StepFault}
use Rattle.run_shared.specs.Turn.{Answers, Pass}
use Rattle.gw_threads.specs.Calls.{Call}
use Rattle.gw_threads.specs.Ticking.{IsTick, Ticks}
use Rattle.gw_threads.proofs.Calling.{all-append, calls_then}

pub ticks_none : (setup : Setup) (mine : Pass) → Ticks setup mine mine
ticks_none setup mine = record { calls = []; made = refl; own = tt }

pub ticks_one : (setup : Setup) (mine after : Pass) (moment number : ℕ) (reply : Result Reply StepFault)
    → Answers setup mine after (steps.Tick moment) (number, reply) → Ticks setup mine after
ticks_one setup mine after moment number reply answers = record {
  calls = record { step = steps.Tick moment; number = number; reply = reply } ∷ [];
  made = (after, (answers, refl));
  own = (tt, tt);
}

pub ticks_then : (setup : Setup) (mine mid after : Pass) → Ticks setup mine mid → Ticks setup mid after
    → Ticks setup mine after
ticks_then setup mine mid after first more = record {
  calls = first.calls ++ more.calls;
  made = calls_then setup mine mid after first.calls more.calls first.made more.made;
  own = all-append (λ (c : Call). IsTick c.step) first.calls more.calls first.own more.own;
}
