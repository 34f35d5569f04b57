-- Which numbers a rule of POSIX's variable TZ has (IEEE Std 1003.1, 8.3, with times up to 167 hours as in RFC 9636).
use Rattle.std.specs.Prelude.{ℤ, pos, negsuc, ◌≤ℤ◌, Bool, ◌&&◌, nat_le, IsTrue, Option, IfSome}
use Rattle.gw_model.specs.declared.rule.RuleDay.{RuleDay}
use Rattle.gw_model.specs.declared.rule.RuleDay.TheVariants.{JulianOne, JulianZero, WeekdayOfMonth}
use Rattle.gw_model.specs.declared.rule.RuleMoment.{RuleMoment}
use Rattle.gw_model.specs.declared.rule.Daylight.{Daylight}
use Rattle.gw_model.specs.declared.rule.ClockRule.{ClockRule}

-- the numbers of the day are in range
abbrev pub is_rule_day : RuleDay → Bool
is_rule_day (JulianOne n) = nat_le 1 n && nat_le n 365
is_rule_day (JulianZero n) = nat_le n 365
is_rule_day (WeekdayOfMonth month week weekday) =
    nat_le 1 month && nat_le month 12 && nat_le 1 week && nat_le week 5 && nat_le weekday 6

-- at most 167:59:59 from midnight
pub record IsRuleMoment (moment : RuleMoment) : Type 0 where
  pub day : IsTrue (is_rule_day moment.day)
  pub from : negsuc 604798 ≤ℤ moment.seconds
  pub to : moment.seconds ≤ℤ pos 604799

-- seconds that clocks may be ahead of UTC: at most 25:59:59
pub record IsSecondsAhead (seconds : ℤ) : Type 0 where
  pub from : negsuc 93598 ≤ℤ seconds
  pub to : seconds ≤ℤ pos 93599

pub record IsDaylight (daylight : Daylight) : Type 0 where
  pub seconds : IsSecondsAhead daylight.seconds
  pub begins : IsRuleMoment daylight.begins
  pub ends : IsRuleMoment daylight.ends

pub record IsClockRule (rule : ClockRule) : Type 0 where
  pub seconds : IsSecondsAhead rule.seconds
  pub daylight : IfSome rule.daylight IsDaylight

-- a rule, if there is one
unfoldable pub IsRuleOrNone : Option ClockRule → Type 0
IsRuleOrNone rule = IfSome rule IsClockRule
