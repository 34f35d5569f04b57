use Rattle.std.proofs.Common.{rules, ◌≡◌, ◌+◌, ◌≤◌, List, take, arith}
use Rattle.std.proofs.lemmas.List.{length-take, take_more}
use Rattle.gw_model.specs.declared.point.Report.{Report}
use Rattle.gw_time.specs.Rule.{clocks_of}
use Rattle.gw_picture.specs.Picture.{picture_after}
use Rattle.gw_picture.proofs.Counts.{report_one, news_few, count-one}
use Rattle.gw_picture.proofs.counting.count_news.Goals as goal

pub overflow_add-news : goal.overflow_add-news
overflow_add-news c =
    let before : List Report = take c.loop-position.position c.args.reports.now in
    let few : c.loop-position.news ≤ c.loop-position.position =
    omega (
      arith,
      c.loop-position.invariant,
      news_few (clocks_of c.args.zone.now) c.args.settings.now.rows c.args.shown.now before,
      length-take {A = Report} c.loop-position.position c.args.reports.now,
    ) in
    let one : c.is_news_after-news.result ≤ 1 = omega (
      arith,
      c.is_news_after-news.ensures,
      report_one (clocks_of c.args.zone.now) c.args.settings.now.rows (picture_after (clocks_of c.args.zone.now)
          c.args.settings.now.rows c.args.shown.now c.split_at.result.0.now) c.index-reports-position.result,
    ) in
    search (rules, few, one)

pub loop-position-preserved : goal.loop-position-preserved
loop-position-preserved c =
    let more : take (c.loop-position.position + 1) c.args.reports.now ≡ _ = take_more c.args.reports.now
    c.loop-position.position c.index-reports-position.result (omega (arith, c.loop-position-test.true)) in
    let counted = count-one (clocks_of c.args.zone.now) c.args.settings.now.rows c.args.shown.now
    (take c.loop-position.position c.args.reports.now) c.index-reports-position.result in
    search (rules, more, counted)
