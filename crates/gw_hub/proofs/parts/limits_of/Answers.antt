use Rattle.std.proofs.Common.{ap}
use Rattle.gw_station.specs.Client.{limits_of}
use Rattle.gw_hub.proofs.parts.limits_of.Goals as goal

pub returns : goal.returns
returns c = rw (c.from.ensures, c.from-2.ensures, c.from-3.ensures) (ap limits_of c.station.view_is)
