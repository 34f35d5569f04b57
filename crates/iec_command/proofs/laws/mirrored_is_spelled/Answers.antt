use Rattle.iec_command.proofs.Again.{mirrored-spelling}
use Rattle.iec_command.proofs.laws.mirrored_is_spelled.Goals as goal

pub returns : goal.returns
returns c = mirrored-spelling
