use Rattle.iec_apci.proofs.Streams.{reading-append}
use Rattle.iec_apci.proofs.laws.cut_anywhere.Goals as goal

pub returns : goal.returns
returns c = reading-append
