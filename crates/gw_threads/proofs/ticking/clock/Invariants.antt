-- All calls so far were ticks, with the pass that was given.
use Rattle.std.proofs.Common.{◌≡◌}
use Rattle.gw_threads.specs.Ticking.{Ticks}
use Rattle.gw_threads.proofs.ticking.clock.Given as goal

abbrev pub invariant-ticks : goal.invariant-ticks
invariant-ticks g l = record {
  own : l.worker.pass.actor ≡ l.fn.pass.actor;
  made : Ticks g.L.Course.setup l.fn.pass l.worker.pass;
}
