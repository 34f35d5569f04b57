use Rattle.law_orders.proofs.Bonded.{told_once}
use Rattle.law_orders.proofs.bonds.outcomes_are_of_executes.Goals as goal

pub returns : goal.returns
returns c = λ setup past given. told_once setup past given
