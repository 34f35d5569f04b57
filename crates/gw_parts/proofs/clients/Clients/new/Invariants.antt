-- So many are down already.
use Rattle.std.proofs.Common.{◌≡◌}
use Rattle.std.specs.Prelude.{replicate}
use Rattle.gw_station.specs.Ring.{seat_down}
use Rattle.gw_parts.proofs.clients.Clients.new.Given as goal

abbrev pub invariant-loop : goal.invariant-loop
invariant-loop l = l.stations.items ≡ replicate l.counter (seat_down l.limits)
