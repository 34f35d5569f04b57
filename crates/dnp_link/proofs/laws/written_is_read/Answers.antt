use Rattle.dnp_link.proofs.Round.{reading-frame}
use Rattle.dnp_link.proofs.laws.written_is_read.Goals as goal

pub returns : goal.returns
returns c = reading-frame
