use Rattle.dnp_link.proofs.Streams.{reading_is}
use Rattle.dnp_link.proofs.laws.event_by_event.Goals as goal

pub returns : goal.returns
returns c = reading_is
