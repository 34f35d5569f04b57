use Rattle.law_fates.proofs.Runs.{fates}
use Rattle.law_fates.proofs.laws.each_order_has_one_fate.Goals as goal

pub returns : goal.returns
returns c = λ setup past run. fates setup past run
