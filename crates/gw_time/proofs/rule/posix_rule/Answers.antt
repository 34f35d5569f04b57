use Rattle.std.proofs.Common.{◌∙◌, ap, sym, ℤ, Option, Some}
use Rattle.jiff_core.specs.declared.Offset.{Offset}
use Rattle.jiff_tz.specs.Year.{year_of_nanos}
use Rattle.gw_model.specs.declared.rule.Daylight.{Daylight}
use Rattle.gw_time.specs.Rule.{seconds_by}
use Rattle.gw_time.proofs.Rules.{ahead_same, by_daylight}
use Rattle.gw_time.proofs.rule.posix_rule.Goals as goal

pub returns-in-Some : goal.returns-in-Some
returns-in-Some c moment =
    let standard = c.to_plain-std_offset.result in
    by_daylight c.in-Some.daylight c.posix_daylight.result standard moment c.posix_daylight.ensures.seconds
    (c.posix_daylight.ensures.window (year_of_nanos moment) standard)
    ∙ ap (λ (seconds : ℤ). seconds_by seconds (Some c.in-Some.daylight) moment)
    (ap (λ (o : Offset). o.seconds) c.to_plain-std_offset.ensures ∙ c.offset_of.ensures ∙ ahead_same c.args.rule.seconds c.requires.seconds)
    ∙ ap (λ (daylight : Option Daylight). seconds_by c.args.rule.seconds daylight moment) (sym c.in-Some.is)
