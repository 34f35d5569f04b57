use Rattle.std.proofs.Common.{sym, ◌∙◌}
use Rattle.gw_control.proofs.Keeps.{accepted}
use Rattle.gw_control.proofs.controls.Controls.answer.Goals as goal

pub order-requires-clause-place : goal.order-requires-clause-place
order-requires-clause-place c =
    rw c.unselect-2.ensures
    (accepted c.args.asked.now c.args.control.now c.args.standing.now c.args.self.now c.in-Some.act
    (sym c.act_accepted-act.ensures ∙ c.in-Some.is)).place
