use Rattle.run_ends.proofs.Worked.{a_front, not_whole}
use Rattle.run_ends.proofs.examples.front_of_a_frame.Goals as goal

pub returns-clause-whole : goal.returns-clause-whole
returns-clause-whole c = not_whole

pub returns-clause-front : goal.returns-clause-front
returns-clause-front c = a_front
