-- So many stand already.
use Rattle.std.proofs.Common.{◌≡◌}
use Rattle.std.specs.Prelude.{replicate}
use Rattle.gw_control.specs.Orders.{nothing_outgoing}
use Rattle.gw_control.proofs.controls.nothing_outgoing.Given as goal

abbrev pub invariant-loop : goal.invariant-loop
invariant-loop l = l.outgoing.items ≡ replicate l.counter nothing_outgoing
