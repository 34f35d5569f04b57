use Rattle.gw_picture.proofs.Logs.{reports_in_log}
use Rattle.gw_picture.proofs.laws.picture_of_the_log.Goals as goal

pub returns : goal.returns
returns c = reports_in_log
