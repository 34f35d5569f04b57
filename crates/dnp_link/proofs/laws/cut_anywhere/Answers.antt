use Rattle.dnp_link.proofs.Streams.{reading-append}
use Rattle.dnp_link.proofs.laws.cut_anywhere.Goals as goal

pub returns : goal.returns
returns c = reading-append
