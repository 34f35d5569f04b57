-- The reports before this one were taken, and their news are told.
use Rattle.std.proofs.Common.{◌≡◌, ◌++◌, drop}
use Rattle.cmd_streams.specs.Translation.{news_in, picture_after_reports}
use Rattle.cmd_streams.proofs.decision.push_news.Given as goal

abbrev pub invariant-loop-report : goal.invariant-loop-report
invariant-loop-report l = record {
  news : l.news.items ++ news_in l.settings l.picture (drop l.report-index l.reports)
      ≡ l.initial.news.items ++ news_in l.settings l.initial.picture l.reports;
  picture : picture_after_reports l.settings l.picture (drop l.report-index l.reports)
      ≡ picture_after_reports l.settings l.initial.picture l.reports;
}
