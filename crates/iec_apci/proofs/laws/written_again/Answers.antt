use Rattle.iec_apci.proofs.Split.{splits}
use Rattle.iec_apci.proofs.laws.written_again.Goals as goal

pub returns : goal.returns
returns c = splits
