use Rattle.gw_control.proofs.Keeps.{accepted}
use Rattle.gw_control.proofs.laws.accepted_executes.Goals as goal

pub returns : goal.returns
returns c = accepted
