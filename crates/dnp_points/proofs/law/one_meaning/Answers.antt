use Rattle.dnp_points.proofs.ReportLaws.{meaning-again, meaning-found}
use Rattle.dnp_points.proofs.law.one_meaning.Goals as goal

pub returns : goal.returns
returns c = λ outstation part rs. (meaning-found outstation part rs, meaning-again outstation part rs)
