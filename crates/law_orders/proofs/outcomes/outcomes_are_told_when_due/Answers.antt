use Rattle.law_orders.proofs.Follows.{told_when_due}
use Rattle.law_orders.proofs.outcomes.outcomes_are_told_when_due.Goals as goal

pub returns : goal.returns
returns c = λ setup past given short. told_when_due setup past given short
