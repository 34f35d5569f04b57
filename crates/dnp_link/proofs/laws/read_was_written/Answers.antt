use Rattle.dnp_link.proofs.Only.{begins, begins_shows}
use Rattle.dnp_link.proofs.laws.read_was_written.Goals as goal

pub returns : goal.returns
returns c octets x o = (begins octets x o, begins_shows octets x)
