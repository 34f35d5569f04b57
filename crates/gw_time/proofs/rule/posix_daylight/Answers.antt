use Rattle.std.proofs.Common.{◌∙◌, ap}
use Rattle.jiff_core.specs.declared.Offset.{Offset}
use Rattle.gw_time.proofs.Rules.{ahead_same, window_same}
use Rattle.gw_time.proofs.rule.posix_daylight.Goals as goal

pub returns-clause-window : goal.returns-clause-window
returns-clause-window c year standard =
    window_same c.args.daylight _ year standard
    (ap (λ (o : Offset). o.seconds) c.to_plain.ensures ∙ c.offset_of.ensures ∙ ahead_same c.args.daylight.seconds c.requires.seconds)
    (c.posix_moment.ensures year standard.seconds) (c.posix_moment-2.ensures year c.args.daylight.seconds)
