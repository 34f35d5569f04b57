use Rattle.dnp_transport.proofs.WholeRuns as runs
use Rattle.dnp_transport.proofs.laws.assembler_gives_fragments.Goals as goal

pub returns-clause-whole : goal.returns-clause-whole
returns-clause-whole c = runs.whole

pub returns-clause-each : goal.returns-clause-each
returns-clause-each c = runs.each

pub returns-clause-series : goal.returns-clause-series
returns-clause-series c = runs.after
