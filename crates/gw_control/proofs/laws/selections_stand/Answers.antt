use Rattle.gw_control.proofs.Stays.{selection_stands}
use Rattle.gw_control.proofs.laws.selections_stand.Goals as goal

pub returns : goal.returns
returns c = selection_stands
