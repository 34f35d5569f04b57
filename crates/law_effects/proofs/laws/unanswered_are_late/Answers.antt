use Rattle.law_effects.proofs.Late.{late_told}
use Rattle.law_effects.proofs.laws.unanswered_are_late.Goals as goal

pub returns : goal.returns
returns c = λ setup past run. late_told setup past run
