use Rattle.iec_apci.proofs.Drained.{goes_on, done_none, done_fault}
use Rattle.iec_apci.proofs.laws.drain.Goals as goal

pub loop-answer-preserved : goal.loop-answer-preserved
loop-answer-preserved c =
    let g = goes_on _ _ _ _ _ _ _ _ c.in-Ok.is c.in-Some.ensures.answer c.in-Some.ensures.rest
    c.in_ok-push-in-Ok.ensures.items c.loop-answer.invariant.apdus c.loop-answer.invariant.rest in
    record { apdus = g.apdus; rest = g.rest }

pub loop-answer-smaller : goal.loop-answer-smaller
loop-answer-smaller c =
    (goes_on _ _ _ _ _ _ _ _ c.in-Ok.is c.in-Some.ensures.answer c.in-Some.ensures.rest c.in_ok-push-in-Ok.ensures.items
    c.loop-answer.invariant.apdus c.loop-answer.invariant.rest).fewer

pub returns-in-Err-clause-apdus : goal.returns-in-Err-clause-apdus
returns-in-Err-clause-apdus c = (done_fault _ _ _ _ _ _ _ c.in-Err.is c.in-Some.ensures.answer c.in-Some.ensures.rest
    c.loop-answer.invariant.apdus c.loop-answer.invariant.rest).apdus

pub returns-in-Err-clause-rest : goal.returns-in-Err-clause-rest
returns-in-Err-clause-rest c = (done_fault _ _ _ _ _ _ _ c.in-Err.is c.in-Some.ensures.answer c.in-Some.ensures.rest
    c.loop-answer.invariant.apdus c.loop-answer.invariant.rest).rest

pub returns-in-Err-clause-fault : goal.returns-in-Err-clause-fault
returns-in-Err-clause-fault c = (done_fault _ _ _ _ _ _ _ c.in-Err.is c.in-Some.ensures.answer c.in-Some.ensures.rest
    c.loop-answer.invariant.apdus c.loop-answer.invariant.rest).fault

pub returns-clause-apdus : goal.returns-clause-apdus
returns-clause-apdus c = (done_none _ _ _ _ _ c.in_default.ensures.answer c.in_default.ensures.rest
    c.loop-answer.invariant.apdus c.loop-answer.invariant.rest).apdus

pub returns-clause-rest : goal.returns-clause-rest
returns-clause-rest c = (done_none _ _ _ _ _ c.in_default.ensures.answer c.in_default.ensures.rest
    c.loop-answer.invariant.apdus c.loop-answer.invariant.rest).rest

pub returns-clause-fault : goal.returns-clause-fault
returns-clause-fault c = (done_none _ _ _ _ _ c.in_default.ensures.answer c.in_default.ensures.rest
    c.loop-answer.invariant.apdus c.loop-answer.invariant.rest).fault
