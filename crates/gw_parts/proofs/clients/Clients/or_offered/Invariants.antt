-- It is told of those before this one.
use Rattle.std.proofs.Common.{◌≡◌, length, take}
use Rattle.gw_steps.specs.Effects.{or_offered}
use Rattle.gw_parts.proofs.clients.Clients.or_offered.Given as goal

abbrev pub invariant-loop-client : goal.invariant-loop-client
invariant-loop-client l =
    (length l.offered ≡ 8)
    × (take l.client l.offered ≡ or_offered l.moment (take l.client l.so) (take l.client l.self.each))
