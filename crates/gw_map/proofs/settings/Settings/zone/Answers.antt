use Rattle.std.proofs.Common.{rules}
use Rattle.gw_time.specs.Rule.{clocks_of}
use Rattle.gw_map.specs.Settings.{station_clocks}
use Rattle.gw_map.proofs.settings.Settings.zone.Goals as goal

pub returns : goal.returns
unfolding clocks_of station_clocks
returns c = search rules
