-- The reports from this one on bring what is left of the news.
use Rattle.std.proofs.Common.{◌≡◌, ◌+◌, ◌≤◌, map, drop}
use Rattle.std.specs.List.{AllByRecursion}
use Rattle.gw_map.specs.Settings.{station_clocks}
use Rattle.gw_picture.specs.Picture.{news_of, picture_after}
use Rattle.gw_station.specs.Client.{client_with_news}
use Rattle.gw_station.specs.Sound.{WaitsWithin}
use Rattle.gw_hub.proofs.Taking.{Left}
use Rattle.gw_hub.proofs.news.take_reports.Given as goal

abbrev pub invariant-loop-report : goal.invariant-loop-report
invariant-loop-report l =
    Left (station_clocks l.settings.station) l.settings.rows l.news l.picture (drop l.report-index l.reports)
    l.clients.each (news_of (station_clocks l.settings.station) l.settings.rows l.fn.picture l.reports)
    (picture_after (station_clocks l.settings.station) l.settings.rows l.fn.picture l.reports) (map
    (client_with_news (news_of (station_clocks l.settings.station) l.settings.rows l.fn.picture l.reports))
    l.fn.clients.each)
    × AllByRecursion WaitsWithin l.clients.each
    × (l.news ≤ l.report-index)
    × (l.clients.news ≡ l.fn.clients.news + l.news)
