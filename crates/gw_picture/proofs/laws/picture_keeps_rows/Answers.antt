use Rattle.gw_picture.proofs.Losses.{loss_keeps_picture}
use Rattle.gw_picture.proofs.Rows.{opening_is_picture, keeps_picture, reports_keep_picture}
use Rattle.gw_picture.proofs.laws.picture_keeps_rows.Goals as goal

pub returns-clause-opening : goal.returns-clause-opening
returns-clause-opening c = opening_is_picture

pub returns-clause-report : goal.returns-clause-report
returns-clause-report c = keeps_picture

pub returns-clause-reports : goal.returns-clause-reports
returns-clause-reports c = reports_keep_picture

pub returns-clause-loss : goal.returns-clause-loss
returns-clause-loss c = loss_keeps_picture
