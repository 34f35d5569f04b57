use Rattle.iec_command.proofs.Again.{command_of-spelling}
use Rattle.iec_command.proofs.laws.written_is_read.Goals as goal

pub returns : goal.returns
returns c = command_of-spelling
