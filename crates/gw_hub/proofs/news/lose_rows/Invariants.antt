-- The rows before this one are done.
use Rattle.std.proofs.Common.{◌≡◌, ◌+◌, length, map}
use Rattle.std.specs.List.{AllByRecursion}
use Rattle.gw_map.specs.Settings.{station_clocks}
use Rattle.gw_picture.specs.Loss.{losses_of, picture_after_loss}
use Rattle.gw_station.specs.Client.{client_with_news}
use Rattle.gw_station.specs.Sound.{WaitsWithin}
use Rattle.gw_hub.proofs.Losing.{LeftToLose, rest_of}
use Rattle.gw_hub.proofs.news.lose_rows.Given as goal

abbrev pub invariant-loop-position : goal.invariant-loop-position
invariant-loop-position l =
    LeftToLose (station_clocks l.settings.station) l.outstation l.settings.rows l.position l.picture l.clients.each
    (losses_of l.outstation l.settings.rows l.fn.picture) (picture_after_loss l.outstation l.settings.rows l.fn.picture)
    (map (client_with_news (losses_of l.outstation l.settings.rows l.fn.picture)) l.fn.clients.each)
    × AllByRecursion WaitsWithin l.clients.each
    × (length l.picture ≡ length l.fn.picture)
    × (l.clients.news + length (rest_of l.outstation l.settings.rows l.position l.picture)
    ≡ l.fn.clients.news + length (losses_of l.outstation l.settings.rows l.fn.picture))
