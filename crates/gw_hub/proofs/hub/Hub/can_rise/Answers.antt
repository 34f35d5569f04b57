use Rattle.std.proofs.Common.{rules}
use Rattle.gw_map.specs.Settings.{station_clocks}
use Rattle.gw_picture.proofs.Counts.{news_few}
use Rattle.gw_hub.proofs.hub.Hub.can_rise.Goals as goal

pub returns-then-can_rise : goal.returns-then-can_rise
returns-then-can_rise c = search (
  rules,
  news_few (station_clocks c.args.self.now.setup.station) c.args.self.now.setup.rows c.args.self.now.state.picture
      c.args.reports.now,
)
