-- The reports found so far are those of the headers before this one, and the common time is the last one of theirs.
use Rattle.std.proofs.Common.{◌≡◌, ◌++◌, drop}
use Rattle.dnp_points.specs.Values.{IsClock}
use Rattle.dnp_points.specs.Meaning.{reports_from, reports_of}
use Rattle.dnp_points.proofs.report.all_reports.Given as goal

abbrev pub invariant-loop-header : goal.invariant-loop-header
invariant-loop-header l = record {
  read : l.found.items ++ reports_from l.outstation l.part l.common (drop l.header-index l.headers)
      ≡ reports_of l.outstation l.part l.headers;
  clock : IsClock l.common;
}
