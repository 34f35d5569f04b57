use Rattle.std.proofs.Math.Bool.{and_assoc}
use Rattle.gw_model.proofs.observation.is_same_quality.Goals as goal

pub returns : goal.returns
returns c = simp and_assoc c.eq.ensures
