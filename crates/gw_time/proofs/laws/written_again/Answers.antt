use Rattle.std.proofs.Common.{◌≡◌, ◌∙◌, sym, Ok}
use Rattle.gw_time.specs.Rule.{clocks_of}
use Rattle.gw_time.specs.Tag.{tag_meaning}
use Rattle.gw_time.proofs.Written.{written_so}
use Rattle.gw_time.proofs.Rules.{zone_clocks}
use Rattle.gw_time.proofs.laws.written_again.Goals as goal

pub returns-clause-same : goal.returns-clause-same
returns-clause-same c by =
    let zone = c.args.zone.now in
    let meant : tag_meaning (clocks_of zone) c.args.tag.now ≡ Ok c.in_ok-stamp.stamp =
    sym c.from_tag.ensures ∙ c.in_ok-stamp.was in
    c.to_tag.ensures.exact ∙ written_so (clocks_of zone) c.args.tag.now c.in_ok-stamp.stamp
    (zone_clocks zone) (record { seven = c.told-tag; octet = c.fits-tag }) meant by
