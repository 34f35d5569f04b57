-- The news of the reports before this one are counted.
use Rattle.std.proofs.Common.{◌≡◌, length, take}
use Rattle.gw_time.specs.Rule.{clocks_of}
use Rattle.gw_picture.specs.Picture.{news_of}
use Rattle.gw_picture.proofs.counting.count_news.Given as goal

abbrev pub invariant-loop-position : goal.invariant-loop-position
invariant-loop-position l =
    l.news ≡ length (news_of (clocks_of l.zone) l.settings.rows l.shown (take l.position l.reports))
