use Rattle.gw_judge.proofs.Accepted.{accepted_exactly}
use Rattle.gw_judge.proofs.laws.acceptable_commands.Goals as goal

pub returns : goal.returns
returns c = accepted_exactly
