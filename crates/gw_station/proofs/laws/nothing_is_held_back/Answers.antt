use Rattle.gw_station.proofs.Moves.{quiet}
use Rattle.gw_station.proofs.laws.nothing_is_held_back.Goals as goal

pub returns : goal.returns
returns c = quiet
