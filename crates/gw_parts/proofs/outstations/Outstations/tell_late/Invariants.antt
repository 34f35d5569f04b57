-- It is told of those before this one.
use Rattle.std.proofs.Common.{map, take}
use Rattle.dnp_master.specs.Answers.{is_unanswered}
use Rattle.dnp_master.specs.Master.{ended_by_tick}
use Rattle.gw_steps.specs.Effects.{late, where_so}
use Rattle.gw_parts.proofs.Lateness.{HasTold}
use Rattle.gw_parts.proofs.outstations.Outstations.tell_late.Given as goal

abbrev pub invariant-loop-position : goal.invariant-loop-position
invariant-loop-position l =
    let masters = take l.position l.self in
    HasTold l.fn.effects l.effects (late 0 masters (map (ended_by_tick l.moment) masters) l.outgoing)
    (where_so 0 (map (is_unanswered l.moment) masters)) l.position
