use Rattle.std.proofs.Common.{arith}
use Rattle.gw_control.specs.Orders.{outgoing_after_end}
use Rattle.gw_control.proofs.Places.{next_changed}
use Rattle.gw_control.proofs.controls.end_session.Goals as goal

pub loop-position-preserved : goal.loop-position-preserved
loop-position-preserved c =
    next_changed c.loop-position.position (outgoing_after_end c.args.client) c.args.outgoing.now
    c.loop-position.outgoing c.index-outgoing-position.result c.end_session.new.self
    (omega (arith, c.loop-position.auto, c.loop-position-test.true)) c.loop-position.invariant c.end_session.ensures
