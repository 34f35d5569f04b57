use Rattle.std.proofs.Common.{◌≡◌, ◌+◌, List, [], ◌∷◌, ◌++◌, Option, drop, refl, sym, ap, ◌∙◌, append_assoc}
use Rattle.std.specs.Option.{option_to_list}
use Rattle.std.proofs.lemmas.List.{append-nil, drop_more, drop_all}
use Rattle.gw_model.specs.declared.observation.Observation.{Observation}
use Rattle.gw_model.specs.declared.point.Report.{Report}
use Rattle.gw_map.specs.Settings.{Setup, station_clocks}
use Rattle.gw_picture.specs.Picture.{news_of_report, picture_after_report}
use Rattle.cmd_streams.specs.Translation.{news_in, picture_after_reports}
use Rattle.cmd_streams.proofs.decision.push_news.Goals as goal
use Rattle.cmd_streams.proofs.decision.push_news.Goals.{in-Some+in_ok-push, in_default}

-- a report is taken: its news are told, and those of the rest are left
news_turn : (setup : Setup) (before after items items' whole : List Observation) (told : Option Observation)
    (r : Report) (rest reports : List Report)
    → reports ≡ r ∷ rest
    → option_to_list told ≡ news_of_report (station_clocks setup.station) setup.rows before r
    → after ≡ picture_after_report (station_clocks setup.station) setup.rows before r → items' ≡ items ++ option_to_list told
    → items ++ news_in setup before reports ≡ whole → items' ++ news_in setup after rest ≡ whole
news_turn setup before after items items' whole told r rest reports more news shown new left =
    rw (new, append_assoc, news, shown) (rw more at left)

picture_turn : (setup : Setup) (before after last : List Observation) (r : Report)
    (rest reports : List Report)
    → reports ≡ r ∷ rest → after ≡ picture_after_report (station_clocks setup.station) setup.rows before r
    → picture_after_reports setup before reports ≡ last → picture_after_reports setup after rest ≡ last
picture_turn setup before after last r rest reports more shown left = rw shown (rw more at left)

-- none are left
news_end : (setup : Setup) (picture items whole : List Observation) (reports : List Report) → reports ≡ []
    → items ++ news_in setup picture reports ≡ whole → items ≡ whole
news_end setup picture items whole reports none left = sym (append-nil items) ∙ (rw none at left)

picture_end : (setup : Setup) (picture last : List Observation) (reports : List Report) → reports ≡ []
    → picture_after_reports setup picture reports ≡ last → picture ≡ last
picture_end setup picture last reports none left = rw none at left

pub loop-report-init : goal.loop-report-init
loop-report-init c = record { news = refl; picture = refl }

pub loop-report-preserved : goal.loop-report-preserved
loop-report-preserved c =
    let rest : List Report = drop (c.loop-report.report-index + 1) c.args.reports.now in
    let more : drop c.loop-report.report-index c.args.reports.now ≡ c.report-item.result ∷ rest =
    drop_more c.args.reports.now c.loop-report.report-index c.report-item.result c.loop-report-test.true
    ∙ ap (λ (r : Report). r ∷ rest) (sym c.report-item.is) in
    let told : c.match-take.news.items ≡ c.loop-report.news.items ++ option_to_list c.take.result =
    elim c.match-take.branch [
      | in-Some+in_ok-push w ↦ rw w.in-Some.is (let new = w.in_ok-push.ensures.items in cc)
      | in_default w ↦ rw (w.in_default.is, append-nil) cc
    ] in
    record {
      news = news_turn c.args.settings.now c.loop-report.picture c.take.new.self
          c.loop-report.news.items _ _ c.take.result c.report-item.result rest _ more
          c.take.ensures.news c.take.ensures.shown told c.loop-report.invariant.news;
      picture = picture_turn c.args.settings.now c.loop-report.picture c.take.new.self
          _ c.report-item.result rest _ more c.take.ensures.shown
          c.loop-report.invariant.picture;
    }

pub returns-clause-news : goal.returns-clause-news
returns-clause-news c =
    news_end c.args.settings.now c.loop-report.picture _ _ _
    (drop_all c.loop-report.report-index c.args.reports.now c.loop-report-test.false) c.loop-report.invariant.news

pub returns-clause-picture : goal.returns-clause-picture
returns-clause-picture c =
    picture_end c.args.settings.now c.loop-report.picture _ _
    (drop_all c.loop-report.report-index c.args.reports.now c.loop-report-test.false) c.loop-report.invariant.picture
