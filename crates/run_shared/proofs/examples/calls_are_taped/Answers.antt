use Rattle.run_shared.proofs.Worked.{counted_each, miscounted, taped_newest, taped_other}
use Rattle.run_shared.proofs.examples.calls_are_taped.Goals as goal

pub returns-clause-newest : goal.returns-clause-newest
returns-clause-newest c = taped_newest

pub returns-clause-other : goal.returns-clause-other
returns-clause-other c = taped_other

pub returns-clause-counted : goal.returns-clause-counted
returns-clause-counted c = counted_each

pub returns-clause-miscounted : goal.returns-clause-miscounted
returns-clause-miscounted c = miscounted
