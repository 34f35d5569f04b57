use Rattle.gw_picture.proofs.Losses.{loss_in_log}
use Rattle.gw_picture.proofs.laws.loss_in_log.Goals as goal

pub returns : goal.returns
returns c = loss_in_log
