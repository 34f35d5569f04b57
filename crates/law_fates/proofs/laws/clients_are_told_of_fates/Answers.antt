use Rattle.law_fates.proofs.Tells.{fates_told}
use Rattle.law_fates.proofs.laws.clients_are_told_of_fates.Goals as goal

pub returns : goal.returns
returns c = λ setup past run. fates_told setup past run
