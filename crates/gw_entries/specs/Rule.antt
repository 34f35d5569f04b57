-- Which rule for summer time a text is: one of POSIX's variable TZ (IEEE Std 1003.1, 8.3), as jiff's grammar reads it,
-- without the names of its times.
use Rattle.std.specs.Prelude.{ℕ, ℤ, List, Option, option_map}
use Rattle.jiff_tz.specs.declared.posix.Day.{Day}
use Rattle.jiff_tz.specs.declared.posix.Day.TheVariants as posix
use Rattle.jiff_tz.specs.PosixText.{DstText, TzText}
use Rattle.jiff_tz.specs.PosixReader.{read_whole}
use Rattle.gw_model.specs.declared.rule.RuleDay.{RuleDay}
use Rattle.gw_model.specs.declared.rule.RuleDay.TheVariants.{JulianOne, JulianZero, WeekdayOfMonth}
use Rattle.gw_model.specs.declared.rule.RuleMoment.{RuleMoment}
use Rattle.gw_model.specs.declared.rule.Daylight.{Daylight}
use Rattle.gw_model.specs.declared.rule.ClockRule.{ClockRule}

abbrev pub day_of : Day → RuleDay
day_of (posix.JulianOne n) = JulianOne n
day_of (posix.JulianZero n) = JulianZero n
day_of (posix.WeekdayOfMonth month week weekday) = WeekdayOfMonth month week weekday

abbrev pub moment_of : Day × ℤ → RuleMoment
moment_of moment = record { day = day_of moment.0; seconds = moment.1 }

abbrev pub daylight_of : DstText → Daylight
daylight_of daylight = record {
  seconds = daylight.seconds;
  begins = moment_of daylight.start;
  ends = moment_of daylight.finish;
}

abbrev pub rule_of : TzText → ClockRule
rule_of rule = record { seconds = rule.std_seconds; daylight = option_map daylight_of rule.dst }

-- the rule that a text is, if it's one
abbrev pub rule_in : List ℕ → Option ClockRule
rule_in text = option_map rule_of (read_whole text)
