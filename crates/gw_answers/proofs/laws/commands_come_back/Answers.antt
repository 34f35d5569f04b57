use Rattle.gw_answers.proofs.Meant.{command_back}
use Rattle.gw_answers.proofs.laws.commands_come_back.Goals as goal

pub returns : goal.returns
returns c = command_back
