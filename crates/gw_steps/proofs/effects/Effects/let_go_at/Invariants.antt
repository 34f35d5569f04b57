-- Those before this place are let go.
use Rattle.std.proofs.Common.{map, take}
use Rattle.std.specs.List.{filter}
use Rattle.dnp_master.specs.declared.fate.Fate.TheVariants.{LetGo}
use Rattle.gw_steps.specs.Effects.{is_of_leaving, order_end}
use Rattle.gw_steps.proofs.Ending.{HasEnded}
use Rattle.gw_steps.proofs.effects.Effects.let_go_at.Given as goal

abbrev pub invariant-loop-place : goal.invariant-loop-place
invariant-loop-place l =
    HasEnded l.fn.self l.self
    (map (order_end l.outstation LetGo) (filter (is_of_leaving l.leaving) (take l.place l.outgoing.waiting))) l.place
