-- Those before this one are copied already.
use Rattle.std.proofs.Common.{◌≡◌, ◌++◌, drop}
use Rattle.gw_parts.proofs.outstations.Outstations.copy_over.Given as goal

abbrev pub invariant-loop-master : goal.invariant-loop-master
invariant-loop-master l = l.masters.items ++ drop l.master-index l.self ≡ l.self
