use Rattle.gw_hub.proofs.Due.{pumped}
use Rattle.gw_hub.proofs.laws.pumps_are_due.Goals as goal

pub returns : goal.returns
returns c = pumped
