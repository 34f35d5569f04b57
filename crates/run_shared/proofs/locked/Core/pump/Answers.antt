use Rattle.std.proofs.Common.{◌∙◌, arith}
use Rattle.run_shared.proofs.Making.{made_then}
use Rattle.run_shared.proofs.Pumping.{may_go_on, pumped_one, run_then}
use Rattle.run_shared.proofs.locked.Core.pump.Goals as goal

pub returns-in-Some-clause-made : goal.returns-in-Some-clause-made
returns-in-Some-clause-made g c = made_then _ _ _ _ _ _ _ _ _ _ _ c.pumps.invariant.made c.pump_next.ensures.made

pub returns-in-Some-clause-run : goal.returns-in-Some-clause-run
returns-in-Some-clause-run g c = run_then _ _ _ _ _ _ _ _ c.in-Some.ended c.pumps.invariant.pumped c.in-Some.ensures.run

pub returns-in-Some-clause-more : goal.returns-in-Some-clause-more
returns-in-Some-clause-more g c =
    may_go_on c.args.pass.now c.pumps.pass c.pump_next.new.pass _ c.in-Some.ended
    (omega (arith, c.pumps.invariant.counted))
    c.in-Some.ensures.more

pub pumps-preserved : goal.pumps-preserved
pumps-preserved g c =
    let next = c.in_default.ensures.run in
    record {
      made = made_then _ _ _ _ _ _ _ _ _ _ _ c.pumps.invariant.made c.pump_next.ensures.made;
      pumped = pumped_one _ _ _ _ _ _ _ _ next.0 c.pumps.invariant.pumped next.1.0 next.1.1;
      counted = omega (arith, c.in_default.ensures.more, c.pumps.invariant.counted);
      own = c.pump_next.ensures.own ∙ c.pumps.invariant.own;
    }
