use Rattle.std.proofs.Common.{◌∙◌, ap}
use Rattle.iec_apci.specs.Laws.{fault_of}
use Rattle.iec_apci.proofs.Drained.{said_new, said_next, said_all}
use Rattle.iec_apci.proofs.laws.apdus_of.Goals as goal

pub loop-piece-init : goal.loop-piece-init
loop-piece-init c = said_new _ _ c.new-apdus.ensures.items c.new-feed.ensures

pub loop-piece-preserved : goal.loop-piece-preserved
loop-piece-preserved c =
    said_next _ _ _ _ _ _ _ _ _ _ _ c.loop-piece-test.true c.loop-piece.invariant c.in_ok-feed.ensures.ok
    c.in_ok-fault.ensures.apdus c.in_ok-fault.ensures.rest c.in_ok-fault.ensures.fault

pub returns-clause-apdus : goal.returns-clause-apdus
returns-clause-apdus c = (said_all _ _ _ _ _ _ c.loop-piece-test.false c.loop-piece.invariant).apdus

pub returns-clause-fault : goal.returns-clause-fault
returns-clause-fault c =
    let s = said_all _ _ _ _ _ _ c.loop-piece-test.false c.loop-piece.invariant in
    s.met ∙ ap fault_of s.held_back
