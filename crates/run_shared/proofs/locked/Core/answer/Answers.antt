use Rattle.run_shared.proofs.Turns.{answered}
use Rattle.run_shared.proofs.locked.Core.answer.Goals as goal

pub returns-clause-answers : goal.returns-clause-answers
returns-clause-answers g c =
    answered _ _ _ _ _ _ _ c.step-answer.ensures.step c.step-answer.ensures.counted
