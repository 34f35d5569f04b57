use Rattle.law_orders.proofs.Bonded.{operated_once}
use Rattle.law_orders.proofs.bonds.orders_are_operated_once.Goals as goal

pub returns : goal.returns
returns c = λ setup past given. operated_once setup past given
