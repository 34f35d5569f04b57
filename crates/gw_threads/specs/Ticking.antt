-- What the worker that ticks steps.
use Rattle.std.specs.Prelude.{List}
use Rattle.std.specs.List.{AllByRecursion}
use Rattle.gw_map.specs.Settings.{Setup}
use Rattle.gw_steps.specs.declared.step.Step.{Step}
use Rattle.gw_steps.specs.declared.step.Step.TheVariants as steps
use Rattle.run_shared.specs.Turn.{Pass}
use Rattle.gw_threads.specs.Calls.{AreCalls, Call}

-- a step is a tick
abbrev pub IsTick : Step → Type 0
IsTick (steps.Tick moment) = Unit {0}
IsTick _ = ⊥

-- all calls of the pass in that time were ticks
pub record Ticks (setup : Setup) (mine after : Pass) : Type 0 where
  pub calls : List Call
  pub made : AreCalls setup mine calls after
  pub own : AllByRecursion (λ (c : Call). IsTick c.step) calls
