use Rattle.law_effects.proofs.Ending.{ends_told}
use Rattle.law_effects.proofs.laws.ended_sessions_are_told.Goals as goal

pub returns : goal.returns
returns c = λ setup past run. ends_told setup past run
