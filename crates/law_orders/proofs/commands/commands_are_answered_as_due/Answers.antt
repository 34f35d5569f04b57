use Rattle.law_orders.proofs.CommandsTold.{commands_answered}
use Rattle.law_orders.proofs.commands.commands_are_answered_as_due.Goals as goal

pub returns : goal.returns
returns c = λ setup past given short. commands_answered setup past given short
