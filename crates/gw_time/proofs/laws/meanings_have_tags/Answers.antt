use Rattle.gw_time.proofs.Round.{meaning_has_tag}
use Rattle.gw_time.proofs.laws.meanings_have_tags.Goals as goal

pub returns : goal.returns
returns c = meaning_has_tag
