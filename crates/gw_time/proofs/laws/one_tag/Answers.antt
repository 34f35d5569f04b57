use Rattle.gw_time.proofs.Round.{one_tag_for}
use Rattle.gw_time.proofs.laws.one_tag.Goals as goal

pub returns : goal.returns
returns c = one_tag_for
