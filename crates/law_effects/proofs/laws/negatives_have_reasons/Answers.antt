use Rattle.law_effects.proofs.Refused.{reasons_told}
use Rattle.law_effects.proofs.laws.negatives_have_reasons.Goals as goal

pub returns : goal.returns
returns c = λ setup past run. reasons_told setup past
