use Rattle.gw_control.proofs.Whole.{ended_whole, lost_whole, none_whole, stays_whole}
use Rattle.gw_control.proofs.laws.commands_stay_whole.Goals as goal

pub returns : goal.returns
returns c = record { first = none_whole; kept = stays_whole; ended = ended_whole; lost = lost_whole }
