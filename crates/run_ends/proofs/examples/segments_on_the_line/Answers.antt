use Rattle.run_ends.proofs.Worked.{took_in_turn}
use Rattle.run_ends.proofs.examples.segments_on_the_line.Goals as goal

pub returns-clause-took : goal.returns-clause-took
returns-clause-took c = took_in_turn
