use Rattle.std.proofs.Common.{◌≡◌, ◌+◌, ◌≤◌, ◌∷◌, List, drop, sym, ap, ◌∙◌, arith, rules}
use Rattle.std.proofs.lemmas.List.{drop_more, drop_all}
use Rattle.gw_model.specs.declared.point.Report.{Report}
use Rattle.gw_map.specs.Settings.{station_clocks}
use Rattle.gw_picture.proofs.Counts.{report_one}
use Rattle.gw_hub.proofs.Taking.{left_first, left_more, left_none, rest_length, within_then}
use Rattle.gw_hub.proofs.news.take_reports.Goals as goal

pub loop-report-init : goal.loop-report-init
loop-report-init c = (
  left_first (station_clocks c.args.settings.now.station) c.args.settings.now.rows c.args.picture.now c.args.reports.now
      c.args.clients.now.each,
  c.requires.few,
  omega arith,
  omega arith,
)

pub take_report-news-requires-clause-count : goal.take_report-news-requires-clause-count
take_report-news-requires-clause-count c =
    let rest : List Report = drop (c.loop-report.report-index + 1) c.args.reports.now in
    let more : drop c.loop-report.report-index c.args.reports.now ≡ c.report-item.result ∷ rest =
    drop_more c.args.reports.now c.loop-report.report-index c.report-item.result c.loop-report-test.true
    ∙ ap (λ (r : Report). r ∷ rest) (sym c.report-item.is) in
    let size = rest_length (station_clocks c.args.settings.now.station) c.args.settings.now.rows c.loop-report.picture
    c.report-item.result _ rest more in
    omega (arith, size, c.requires.count, c.loop-report.invariant.0.count, c.loop-report.invariant.3)

pub take_report-news-requires-clause-few : goal.take_report-news-requires-clause-few
take_report-news-requires-clause-few c = c.loop-report.invariant.1

pub overflow_add-news : goal.overflow_add-news
overflow_add-news c =
    let one = report_one (station_clocks c.args.settings.now.station) c.args.settings.now.rows c.loop-report.picture
    c.report-item.result in
    let few : c.loop-report.news ≤ c.loop-report.report-index = c.loop-report.invariant.2 in
    search (rules, one, few)

pub loop-report-preserved : goal.loop-report-preserved
loop-report-preserved c =
    let clocks = (station_clocks c.args.settings.now.station) in
    let rows = c.args.settings.now.rows in
    let before = c.loop-report.picture in
    let rest : List Report = drop (c.loop-report.report-index + 1) c.args.reports.now in
    let more : drop c.loop-report.report-index c.args.reports.now ≡ c.report-item.result ∷ rest =
    drop_more c.args.reports.now c.loop-report.report-index c.report-item.result c.loop-report-test.true
    ∙ ap (λ (r : Report). r ∷ rest) (sym c.report-item.is) in (
      left_more _ _ _ _ _ _ c.report-item.result _ rest _ _ _ _ _ c.loop-report.invariant.0 more
          c.take_report-news.ensures.count c.take_report-news.ensures.picture c.take_report-news.ensures.clients
          c.take_report-news.ensures.sendable,
      within_then _ _ _ c.take_report-news.ensures.clients c.loop-report.invariant.1,
      omega (
        arith,
        c.loop-report.invariant.2,
        report_one clocks rows before c.report-item.result,
        c.take_report-news.ensures.count,
      ),
      omega (
        arith,
        c.loop-report.invariant.3,
        c.take_report-news.ensures.count,
        c.take_report-news.ensures.news,
      ),
    )

pub returns : goal.returns
returns c =
    let last = left_none _ _ _ _ _ _ _ _ _
    (drop_all c.loop-report.report-index c.args.reports.now c.loop-report-test.false)
    c.loop-report.invariant.1 c.loop-report.invariant.0 in
    record {
      count = last.0;
      picture = last.1;
      clients = last.2;
      news = omega (arith, last.0, c.loop-report.invariant.3);
      sendable = last.3;
    }
