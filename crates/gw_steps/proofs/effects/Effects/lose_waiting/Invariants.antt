-- Those before this place are lost.
use Rattle.std.proofs.Common.{map, take}
use Rattle.dnp_master.specs.declared.fate.Fate.TheVariants.{Lost}
use Rattle.gw_steps.specs.Effects.{order_end}
use Rattle.gw_steps.proofs.Ending.{HasEnded}
use Rattle.gw_steps.proofs.effects.Effects.lose_waiting.Given as goal

abbrev pub invariant-loop-place : goal.invariant-loop-place
invariant-loop-place l =
    HasEnded l.fn.self l.self (map (order_end l.outstation Lost) (take l.place l.outgoing.waiting)) l.place
