use Rattle.gw_hub.proofs.Due.{polled}
use Rattle.gw_hub.proofs.laws.polls_are_due.Goals as goal

pub returns : goal.returns
returns c = polled
