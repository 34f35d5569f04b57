-- It is told of those before this one.
use Rattle.std.proofs.Common.{take}
use Rattle.gw_steps.specs.Effects.{due_from}
use Rattle.gw_parts.proofs.Dueness.{HasRoused}
use Rattle.gw_parts.proofs.outstations.Outstations.tell_due.Given as goal

abbrev pub invariant-loop-position : goal.invariant-loop-position
invariant-loop-position l =
    HasRoused l.fn.effects l.effects (due_from l.moment l.outgoing 0 (take l.position l.self)) l.position
