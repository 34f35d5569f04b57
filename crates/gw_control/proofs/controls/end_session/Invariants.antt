-- The session has ended for the outstations before this one.
use Rattle.std.proofs.Common.{◌≡◌, ◌++◌, map, take, drop}
use Rattle.gw_control.specs.Orders.{outgoing_after_end}
use Rattle.gw_control.proofs.controls.end_session.Given as goal

abbrev pub invariant-loop-position : goal.invariant-loop-position
invariant-loop-position l =
    l.outgoing ≡ map (outgoing_after_end l.client) (take l.position l.fn.outgoing) ++ drop l.position l.fn.outgoing
