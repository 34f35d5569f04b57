use Rattle.std.proofs.Common.{◌≡◌, []}
use Rattle.gw_map.specs.Settings.{station_clocks}
use Rattle.gw_picture.specs.Picture.{news_of_report}
use Rattle.gw_hub.proofs.Taking.{came_none}
use Rattle.gw_hub.proofs.news.take_report.Goals as goal

none : (c : goal.In-None) → [] ≡ news_of_report (station_clocks c.args.settings.now.station) c.args.settings.now.rows
    c.args.picture.now c.args.report.now
none c = c.in-None.ensures.news

pub returns-in-None-clause-clients : goal.returns-in-None-clause-clients
returns-in-None-clause-clients c = came_none _ c.args.clients.now.each (none c) c.requires.few
