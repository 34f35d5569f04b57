use Rattle.gw_control.proofs.Held.{losses_end}
use Rattle.gw_control.proofs.laws.losses_end.Goals as goal

pub returns : goal.returns
returns c = losses_end
