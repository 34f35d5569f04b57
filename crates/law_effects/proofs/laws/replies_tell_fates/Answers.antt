use Rattle.law_effects.proofs.Replied.{fates_replied}
use Rattle.law_effects.proofs.laws.replies_tell_fates.Goals as goal

pub returns : goal.returns
returns c = λ setup past run short. fates_replied setup past run short
