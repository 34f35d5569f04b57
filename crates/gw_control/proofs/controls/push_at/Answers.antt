use Rattle.std.proofs.Common.{arith}
use Rattle.gw_control.specs.Orders.{outgoing_with}
use Rattle.gw_control.proofs.Places.{changed_at, changed_past}
use Rattle.gw_control.proofs.controls.push_at.Goals as goal

pub returns-then-position-outgoing : goal.returns-then-position-outgoing
returns-then-position-outgoing c =
    changed_at c.args.outstation c.from-position.result (outgoing_with c.args.accepted) c.args.outgoing.now
    c.index-outgoing-position.result c.push.new.self c.from-position.ensures
    (omega (arith, c.if-position-outgoing.true)) c.push.ensures

pub returns-else-position-outgoing : goal.returns-else-position-outgoing
returns-else-position-outgoing c =
    changed_past c.args.outstation (outgoing_with c.args.accepted) c.args.outgoing.now
    (omega (arith, c.from-position.ensures, c.if-position-outgoing.false))
