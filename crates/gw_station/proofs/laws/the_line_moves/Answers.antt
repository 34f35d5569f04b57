use Rattle.gw_station.proofs.Moves.{moves}
use Rattle.gw_station.proofs.laws.the_line_moves.Goals as goal

pub returns : goal.returns
returns c = moves
