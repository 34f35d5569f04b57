use Rattle.law_orders.proofs.RequestPlaces.{requests_due}
use Rattle.law_orders.proofs.requests.requests_are_as_due.Goals as goal

pub returns : goal.returns
returns c = λ setup past given short. requests_due setup past given short
