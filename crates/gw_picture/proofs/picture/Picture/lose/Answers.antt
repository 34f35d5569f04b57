use Rattle.gw_picture.proofs.Shows.{losing_shown, loss_fit}
use Rattle.gw_picture.proofs.picture.Picture.lose.Goals as goal

pub invariant_of-self : goal.invariant_of-self
invariant_of-self c = losing_shown _ _ _ _ _ c.lose_at.ensures.shown c.self.invariant

pub returns-clause-fit : goal.returns-clause-fit
returns-clause-fit c =
    loss_fit c.args.outstation c.rows.result.now c.self.inside.shown.items c.args.position c.lose_at.result
    c.lose_at.ensures.news c.self.invariant
