use Rattle.gw_judge.proofs.Refusals.{malformed}
use Rattle.gw_judge.proofs.laws.malformed_asdus.Goals as goal

pub returns : goal.returns
returns c = malformed
