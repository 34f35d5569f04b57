-- Summer time by a rule of the variable TZ of POSIX (IEEE Std 1003.1, 8.3), as a function of the instant.
use Rattle.std.specs.Prelude.{ℕ, ℤ, pos, ◌*◌, ◌+ℤ◌, ◌-ℤ◌, ◌*ℤ◌, ◌&&◌, ◌||◌}
use Rattle.std.specs.Prelude.{Bool, int_lt, Option, Some, None, option_map, if◌then◌else◌}
use Rattle.jiff_core.specs.Timestamp.{nanos_of_seconds}
use Rattle.jiff_tz.specs.Year.{year_of_nanos}
use Rattle.jiff_tz.specs.PosixRule.{match_some, clamp_to, nanos_per_day, first_nanosecond}
use Rattle.jiff_tz.specs.PosixRule.{last_nanosecond, rule_day, in_window, saturating_add, int_same}
use Rattle.jiff_tz.specs.declared.posix.Day.{Day}
use Rattle.jiff_tz.specs.declared.posix.Day.TheVariants as posix
use Rattle.gw_model.specs.declared.rule.RuleDay.{RuleDay}
use Rattle.gw_model.specs.declared.rule.RuleDay.TheVariants.{JulianOne, JulianZero, WeekdayOfMonth}
use Rattle.gw_model.specs.declared.rule.RuleMoment.{RuleMoment}
use Rattle.gw_model.specs.declared.rule.Daylight.{Daylight}
use Rattle.gw_model.specs.declared.rule.ClockRule.{ClockRule}
use Rattle.gw_model.specs.Clocks.{Clocks}
use Rattle.gw_time.specs.declared.zone.Zone.{Zone}

-- ---- the offset by the rule; moments are nanoseconds since 1970 in UTC

-- a day as jiff tells it
abbrev pub posix_day : RuleDay → Day
posix_day (JulianOne n) = posix.JulianOne n
posix_day (JulianZero n) = posix.JulianZero n
posix_day (WeekdayOfMonth month week weekday) = posix.WeekdayOfMonth month week weekday

-- when a day and a time after its midnight come in a year, on clocks so many seconds ahead of UTC: kept within the year
abbrev pub moment_in : ℤ → RuleMoment → ℤ → ℤ
moment_in year at seconds = match_some (rule_day year (posix_day at.day)) (last_nanosecond year) (λ day.
    clamp_to (first_nanosecond year) (last_nanosecond year)
    (day *ℤ nanos_per_day +ℤ nanos_of_seconds (at.seconds -ℤ seconds)))

-- from when to when daylight saving time is in force in a year: it begins by standard time, and ends by its own. Where it
-- begins as the year does and ends beyond it, it is in force all year
abbrev pub daylight_window : Daylight → ℤ → ℤ → ℤ × ℤ
daylight_window daylight year standard =
    let start : ℤ = moment_in year daylight.begins standard in
    let finish : ℤ = moment_in year daylight.ends daylight.seconds in
    let local : ℤ = saturating_add finish (nanos_of_seconds standard) in
    if int_same start (first_nanosecond year)
    && (int_lt local (first_nanosecond year) || int_lt (last_nanosecond year) local)
    then (start, last_nanosecond year)
    else (start, finish)

abbrev pub seconds_by : ℤ → Option Daylight → ℤ → ℤ
seconds_by standard None moment = standard
seconds_by standard (Some daylight) moment =
    if in_window (daylight_window daylight (year_of_nanos moment) standard) moment then daylight.seconds else standard

-- how many seconds clocks are ahead of UTC by the rule
abbrev pub seconds_ahead : ClockRule → ℤ → ℤ
seconds_ahead rule moment = seconds_by rule.seconds rule.daylight moment

-- ---- summer time

-- by the rule, clocks are 60 minutes further ahead of UTC than the offset, at an instant in milliseconds
unfoldable pub is_summer_by_rule : ℤ → ClockRule → ℕ → Bool
is_summer_by_rule offset rule t =
    int_same (seconds_ahead rule (pos (t * 1_000_000))) (pos 60 *ℤ (offset +ℤ pos 60))

-- the clocks of a station with an offset outside of summer time, and perhaps a rule
abbrev pub clocks_by : ℤ → Option ClockRule → Clocks
clocks_by offset rule = record { offset_minutes = offset; summer = option_map (is_summer_by_rule offset) rule }

unfoldable pub clocks_of : Zone → Clocks
clocks_of zone = clocks_by zone.offset_minutes zone.rule
