use Rattle.gw_answers.proofs.Meant.{answer_means}
use Rattle.gw_answers.proofs.laws.answers_mean_what_they_were.Goals as goal

pub returns : goal.returns
returns c = answer_means
