use Rattle.gw_answers.proofs.AtOnce.{gets_exactly}
use Rattle.gw_answers.proofs.laws.answers_are_due.Goals as goal

pub returns : goal.returns
returns c = gets_exactly
