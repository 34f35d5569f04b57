use Rattle.gw_time.proofs.Century.{window_is_of_years}
use Rattle.gw_time.proofs.laws.window_in_civil_years.Goals as goal

pub returns : goal.returns
returns c = window_is_of_years
