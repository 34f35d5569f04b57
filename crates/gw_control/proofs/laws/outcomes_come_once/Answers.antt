use Rattle.gw_control.proofs.Once.{outcomes_once}
use Rattle.gw_control.proofs.laws.outcomes_come_once.Goals as goal

pub returns : goal.returns
returns c = outcomes_once
