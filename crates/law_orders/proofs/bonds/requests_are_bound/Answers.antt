use Rattle.law_orders.proofs.Bonded.{bound}
use Rattle.law_orders.proofs.bonds.requests_are_bound.Goals as goal

pub returns : goal.returns
returns c = λ setup past given. bound setup past given
