use Rattle.gw_time.proofs.Century.{window_is_century, has_tag_is_in_window}
use Rattle.gw_time.proofs.laws.window_of_fit_observations.Goals as goal

pub returns-clause-instants : goal.returns-clause-instants
returns-clause-instants c = window_is_century

pub returns-clause-stamps : goal.returns-clause-stamps
returns-clause-stamps c = has_tag_is_in_window
