use Rattle.iec_apci.proofs.Round.{reading-apdu}
use Rattle.iec_apci.proofs.laws.written_is_read.Goals as goal

pub returns : goal.returns
returns c = reading-apdu
