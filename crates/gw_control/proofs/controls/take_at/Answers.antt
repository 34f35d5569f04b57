use Rattle.std.proofs.Common.{sym, ap, arith}
use Rattle.gw_control.specs.Orders.{outgoing_after_taking}
use Rattle.gw_control.specs.Controls.{order_at}
use Rattle.gw_control.proofs.Places.{changed_at, changed_past, none_past}
use Rattle.gw_control.proofs.controls.take_at.Goals as goal

pub returns-then-position-outgoing-clause-after : goal.returns-then-position-outgoing-clause-after
returns-then-position-outgoing-clause-after c =
    changed_at c.args.outstation c.from-position.result outgoing_after_taking c.args.outgoing.now
    c.index-outgoing-position.result c.take.new.self c.from-position.ensures
    (omega (arith, c.if-position-outgoing.true)) c.take.ensures.after

pub returns-else-position-outgoing-clause-order : goal.returns-else-position-outgoing-clause-order
returns-else-position-outgoing-clause-order c =
    sym (ap order_at (none_past c.args.outstation c.args.outgoing.now
    (omega (arith, c.from-position.ensures, c.if-position-outgoing.false))))

pub returns-else-position-outgoing-clause-after : goal.returns-else-position-outgoing-clause-after
returns-else-position-outgoing-clause-after c =
    changed_past c.args.outstation outgoing_after_taking c.args.outgoing.now
    (omega (arith, c.from-position.ensures, c.if-position-outgoing.false))
