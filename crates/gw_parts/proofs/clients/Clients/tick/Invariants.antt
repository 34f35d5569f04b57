-- The time passed for the clients before this one.
use Rattle.std.proofs.Common.{◌≡◌, ◌++◌, map, take, drop}
use Rattle.std.specs.List.{AllByRecursion}
use Rattle.gw_station.specs.Client.{client_after_tick, is_timed_out}
use Rattle.gw_station.specs.Ring.{seen, Stands}
use Rattle.gw_steps.specs.Controls.{controls_after_closes}
use Rattle.gw_steps.specs.Steps.{bits_of}
use Rattle.gw_parts.proofs.clients.Clients.tick.Given as goal

abbrev pub invariant-loop-position : goal.invariant-loop-position
invariant-loop-position l =
    (map (seen l.self-inside.news) l.self-inside.stations.items
    ≡ map (client_after_tick l.moment) (take l.position l.fn.self.each) ++ drop l.position l.fn.self.each)
    × (l.closed ≡ bits_of (map (is_timed_out l.moment) (take l.position l.fn.self.each)))
    × (controls_after_closes l.position (map (is_timed_out l.moment) (drop l.position l.fn.self.each)) l.controls
    ≡ controls_after_closes 0 (map (is_timed_out l.moment) l.fn.self.each) l.fn.controls)
    × AllByRecursion (Stands l.self-inside.news) l.self-inside.stations.items
    × (l.self-inside.news.next ≡ l.fn.self.news)
