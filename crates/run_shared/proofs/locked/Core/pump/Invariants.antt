-- The APDUs so far are answers to pumps.
use Rattle.std.proofs.Common.{◌≡◌, ◌+◌}
use Rattle.gw_steps.specs.declared.step.Step.TheVariants as steps
use Rattle.run_shared.specs.Made.{IsMadeInto}
use Rattle.run_shared.specs.Pumping.{ArePumped}
use Rattle.run_shared.proofs.locked.Core.pump.Given as goal

abbrev pub invariant-pumps : goal.invariant-pumps
invariant-pumps g l = record {
  made : IsMadeInto g.L.Course.setup (steps.Pump l.client l.moment) l.initial.self l.self l.initial.pass l.pass l.initial.batch l.batch;
  pumped : ArePumped g.L.Course.setup l.client l.initial.pass l.pass l.initial.batch l.batch;
  counted : l.pass.made ≡ l.initial.pass.made + l._made;
  own : l.pass.actor ≡ l.initial.pass.actor;
}
