use Rattle.std.proofs.Common.{refl, sym, ap, arith}
use Rattle.gw_control.specs.Orders.{outgoing_after_ended}
use Rattle.gw_control.specs.Controls.{outcome_ended_at}
use Rattle.gw_control.proofs.Places.{changed_at, changed_past, none_past}
use Rattle.gw_control.proofs.controls.end_at.Goals as goal

pub returns-then-position-outgoing-clause-after : goal.returns-then-position-outgoing-clause-after
returns-then-position-outgoing-clause-after c =
    changed_at c.args.position c.args.position (outgoing_after_ended c.args.ended) c.args.outgoing.now
    c.index-outgoing-position.result c.end_order.new.self refl
    (omega (arith, c.if-position-outgoing.true)) c.end_order.ensures.after

pub returns-else-position-outgoing-clause-outcome : goal.returns-else-position-outgoing-clause-outcome
returns-else-position-outgoing-clause-outcome c =
    sym (ap (outcome_ended_at c.args.ended) (none_past c.args.position c.args.outgoing.now
    (omega (arith, c.if-position-outgoing.false))))

pub returns-else-position-outgoing-clause-after : goal.returns-else-position-outgoing-clause-after
returns-else-position-outgoing-clause-after c =
    changed_past c.args.position (outgoing_after_ended c.args.ended) c.args.outgoing.now
    (omega (arith, c.if-position-outgoing.false))
