-- It is told of those before this one.
use Rattle.std.proofs.Common.{◌≡◌, length, map, take}
use Rattle.gw_station.specs.Client.{is_timed_out}
use Rattle.gw_parts.proofs.clients.Clients.leaving.Given as goal

abbrev pub invariant-loop-client : goal.invariant-loop-client
invariant-loop-client l =
    (length l.leaving ≡ 8)
    × (take l.client l.leaving ≡ map (is_timed_out l.moment) (take l.client l.self.each))
