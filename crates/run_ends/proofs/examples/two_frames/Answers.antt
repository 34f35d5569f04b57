use Rattle.run_ends.proofs.Worked.{took_two}
use Rattle.run_ends.proofs.examples.two_frames.Goals as goal

pub returns-clause-took : goal.returns-clause-took
returns-clause-took c = took_two
