-- Those of the outstations before this one are let go.
use Rattle.std.proofs.Common.{◌*◌, take}
use Rattle.gw_steps.specs.Effects.{let_go}
use Rattle.gw_steps.proofs.Ending.{HasEnded}
use Rattle.gw_steps.proofs.effects.Effects.let_go.Given as goal

abbrev pub invariant-loop-outstation : goal.invariant-loop-outstation
invariant-loop-outstation l =
    HasEnded l.fn.self l.self (let_go l.leaving 0 (take l.outstation l.outgoing)) (16 * l.outstation)
