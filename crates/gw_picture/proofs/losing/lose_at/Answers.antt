use Rattle.std.proofs.Common.{rules, sym, ◌∙◌}
use Rattle.gw_picture.proofs.Lists.{set-change}
use Rattle.gw_picture.proofs.Losses.{loss_none, loss_some}
use Rattle.gw_picture.proofs.losing.lose_at.Goals as goal

pub returns-in_err-after-clause-shown : goal.returns-in_err-after-clause-shown
returns-in_err-after-clause-shown c = sym (loss_none c.args.outstation c.args.rows.now c.args.shown.now.items
    c.args.position (search (rules, c.in_err-after.ensures.loss)))

pub returns-clause-shown : goal.returns-clause-shown
returns-clause-shown c =
    set-change c.args.position c.in_ok-after.after c.args.shown.now.items
    ∙ sym (loss_some c.args.outstation c.args.rows.now c.args.shown.now.items c.args.position c.in_ok-after.after
    (search (rules, c.in_ok-after.ensures.loss)))
