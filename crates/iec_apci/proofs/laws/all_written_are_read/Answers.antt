use Rattle.iec_apci.proofs.Split.{reading-apdus}
use Rattle.iec_apci.proofs.laws.all_written_are_read.Goals as goal

pub returns : goal.returns
returns c = reading-apdus
