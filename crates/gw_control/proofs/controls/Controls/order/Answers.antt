use Rattle.std.proofs.Common.{◌+◌, ap, arith}
use Rattle.gw_control.specs.declared.accepted.Accepted.{Accepted}
use Rattle.gw_control.specs.Orders.{IsInOrder}
use Rattle.gw_control.proofs.Keeps.{ordering_keeps}
use Rattle.gw_control.proofs.Places.{all_written}
use Rattle.gw_control.proofs.controls.Controls.order.Goals as goal

pub invariant_of-self : goal.invariant_of-self
invariant_of-self c =
    all_written (IsInOrder (c.self.inside.ordered + 1)) c.self.inside.outgoing.len c.push_at.new.outgoing
    c.self.inside.outgoing.items
    (omega (arith, c.push_at.auto.outgoing, c.deref_mut.ensures.len))
    (rw c.push_at.ensures (ordering_keeps c.self.inside.ordered c.args.control.now.outstation
    c.accepted_by-accepted.result c.deref_mut.result.now
    (ap (λ (x : Accepted). x.order.number) c.accepted_by-accepted.ensures)
    (rw c.deref_mut.ensures.value (rw (← c.self.view_is) at c.requires.place))
    (rw c.deref_mut.ensures.value c.self.invariant)))
