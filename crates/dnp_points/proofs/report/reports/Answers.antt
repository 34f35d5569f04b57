use Rattle.dnp_points.proofs.ReportLaws.{found, only}
use Rattle.dnp_points.proofs.report.reports.Goals as goal

pub returns-clause-found : goal.returns-clause-found
returns-clause-found c = found c.args.outstation c.args.part.now c.args.headers.now c.all_reports.result c.requires
    c.all_reports.ensures.exact

pub returns-clause-only : goal.returns-clause-only
returns-clause-only c = only c.args.outstation c.args.part.now c.args.headers.now c.all_reports.result c.requires
    c.all_reports.ensures.exact
