use Rattle.gw_control.proofs.Held.{command_holds, end_frees_own, end_keeps_others, ended_frees, lost_frees, none_held, taking_holds}
use Rattle.gw_control.proofs.laws.places_are_held.Goals as goal

pub returns : goal.returns
returns c = record {
  first = none_held;
  command = command_holds;
  taking = taking_holds;
  ended = ended_frees;
  lost = lost_frees;
  end = end_frees_own;
  others = end_keeps_others;
}
