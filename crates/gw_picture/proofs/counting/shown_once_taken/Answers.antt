use Rattle.std.proofs.Common.{◌∙◌}
use Rattle.gw_time.specs.Rule.{clocks_of}
use Rattle.gw_picture.proofs.Counts.{past_none, within_some}
use Rattle.gw_picture.proofs.counting.shown_once_taken.Goals as goal

pub returns-in_err-last : goal.returns-in_err-last
returns-in_err-last c = c.from_residual.ensures ∙ past_none (clocks_of c.args.zone.now) c.args.settings.now.rows
    c.args.shown.now c.args.reports.now c.args.position c.in_err-last.ensures.lookup.0

pub loop-report-init : goal.loop-report-init
loop-report-init c =
    within_some (clocks_of c.args.zone.now) c.args.settings.now.rows c.args.shown.now c.args.reports.now
    c.args.position c.in_ok-last.field-0.now c.in_ok-last.ensures.lookup.0 c.in_ok-last.ensures.lookup.1
