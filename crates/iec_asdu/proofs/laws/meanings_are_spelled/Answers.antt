use Rattle.iec_asdu.proofs.Spelled.{meaning_is_spelled}
use Rattle.iec_asdu.proofs.laws.meanings_are_spelled.Goals as goal

pub returns : goal.returns
returns c = meaning_is_spelled
