use Rattle.gw_answers.proofs.Meant.{packed_mean}
use Rattle.gw_answers.proofs.laws.packed_asdus_mean_their_observations.Goals as goal

pub returns : goal.returns
returns c = packed_mean
