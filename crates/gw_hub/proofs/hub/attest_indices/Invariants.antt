-- The indices before this one have 16 bits.
use Rattle.std.proofs.Common.{take}
use Rattle.std.specs.List.{AllByRecursion}
use Rattle.law_orders.specs.Bonds.{HasShortIndex}
use Rattle.gw_hub.proofs.hub.attest_indices.Given as goal

abbrev pub invariant-loop-control : goal.invariant-loop-control
invariant-loop-control l = AllByRecursion HasShortIndex (take l.control-index l.controls)
