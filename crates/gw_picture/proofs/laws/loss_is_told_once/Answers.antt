use Rattle.gw_picture.proofs.Losses.{loss_tells, loss_leaves, loss_again}
use Rattle.gw_picture.proofs.laws.loss_is_told_once.Goals as goal

pub returns-clause-tells : goal.returns-clause-tells
returns-clause-tells c = loss_tells

pub returns-clause-others : goal.returns-clause-others
returns-clause-others c = loss_leaves

pub returns-clause-again : goal.returns-clause-again
returns-clause-again c = loss_again
