use Rattle.std.proofs.Common.{◌∙◌, is_some}
use Rattle.gw_time.specs.Rule.{clocks_of}
use Rattle.gw_time.proofs.Spelled.{has_tag-test}
use Rattle.gw_time.proofs.tag.is_shown.Goals as goal

pub returns : goal.returns
returns c invalid = c.is_some.ensures ∙ has_tag-test (clocks_of c.args.zone.now) c.args.instant
    (is_some c.shown_at.result) c.shown_at.ensures.window invalid
