use Rattle.dnp_app.proofs.Operated.{taken_as_sent}
use Rattle.dnp_app.proofs.law.taken_as_sent.Goals as goal

pub returns : goal.returns
returns c = taken_as_sent
