use Rattle.law_orders.specs.Bonds.{HasShortIndex}
use Rattle.gw_hub.proofs.Each.{all_more, all_taken}
use Rattle.gw_hub.proofs.hub.attest_indices.Goals as goal

pub loop-control-preserved : goal.loop-control-preserved
loop-control-preserved c =
    all_more HasShortIndex c.args.controls.now c.loop-control.control-index c.control-item.result
    c.loop-control-test.true c.control-item.is c.attest_index.ensures c.loop-control.invariant

pub returns : goal.returns
returns c =
    all_taken HasShortIndex c.args.controls.now c.loop-control.control-index c.loop-control-test.false
    c.loop-control.invariant
