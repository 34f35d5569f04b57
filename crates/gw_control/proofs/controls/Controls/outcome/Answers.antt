use Rattle.std.proofs.Common.{arith}
use Rattle.gw_control.specs.Orders.{IsInOrder}
use Rattle.gw_control.proofs.Keeps.{ended_keeps}
use Rattle.gw_control.proofs.Places.{all_written}
use Rattle.gw_control.proofs.controls.Controls.outcome.Goals as goal

pub invariant_of-self : goal.invariant_of-self
invariant_of-self c =
    all_written (IsInOrder c.self.inside.ordered) c.self.inside.outgoing.len c.end_at.new.outgoing
    c.self.inside.outgoing.items
    (omega (arith, c.end_at.auto.outgoing, c.deref_mut.ensures.len))
    (rw c.end_at.ensures.after (ended_keeps c.self.inside.ordered c.args.position c.args.ended c.deref_mut.result.now
    (rw c.deref_mut.ensures.value c.self.invariant)))
