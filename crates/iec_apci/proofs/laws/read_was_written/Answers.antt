use Rattle.iec_apci.proofs.Only.{begins, begins_shows}
use Rattle.iec_apci.proofs.laws.read_was_written.Goals as goal

pub returns : goal.returns
returns c octets x o = (begins octets x o, begins_shows octets x)
