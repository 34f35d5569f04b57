-- Those before this one are copied already.
use Rattle.std.proofs.Common.{◌≡◌, ◌++◌, drop}
use Rattle.gw_control.proofs.controls.copied_over.Given as goal

abbrev pub invariant-loop-one : goal.invariant-loop-one
invariant-loop-one l = l.copy.items ++ drop l.one-index l.outgoing ≡ l.outgoing
