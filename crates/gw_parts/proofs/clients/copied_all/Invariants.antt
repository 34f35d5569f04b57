-- Those before this one are copied already.
use Rattle.std.proofs.Common.{◌≡◌, ◌++◌, drop}
use Rattle.gw_parts.proofs.clients.copied_all.Given as goal

abbrev pub invariant-loop-station : goal.invariant-loop-station
invariant-loop-station l = l.copies.items ++ drop l.station-index l.stations.items ≡ l.stations.items
