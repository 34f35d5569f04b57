-- It is told of those before this one.
use Rattle.std.proofs.Common.{◌≡◌, length, take}
use Rattle.gw_steps.specs.Effects.{dropped_of}
use Rattle.gw_parts.proofs.clients.Clients.dropped_of.Given as goal

abbrev pub invariant-loop-client : goal.invariant-loop-client
invariant-loop-client l =
    (length l.dropped ≡ 8)
    × (take l.client l.dropped ≡ dropped_of (take l.client l.ends) (take l.client l.self.each))
