use Rattle.law_effects.proofs.Asleep.{nobody_asleep}
use Rattle.law_effects.proofs.laws.nobody_is_left_asleep.Goals as goal

pub returns : goal.returns
returns c = λ setup past run. nobody_asleep setup past
