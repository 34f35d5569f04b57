-- The clocks of a zone, and their offset by a rule, which is the one that jiff tells.
use Rattle.std.proofs.Common.{◌≡◌, ◌∙◌, ap, refl, arith, ℤ, pos, negsuc, ◌≤ℤ◌}
use Rattle.std.proofs.Common.{Bool, true, false, if◌then◌else◌, Some, None}
use mir.Val.{to_z, of_z}
use mir.Syntax.{w32}
use Rattle.jiff_core.proofs.SignedLemmas.{signed_casts}
use Rattle.jiff_core.specs.declared.Offset.{Offset}
use Rattle.jiff_tz.specs.declared.posix.DayTime.{DayTime}
use Rattle.jiff_tz.specs.declared.posix.Dst.{Dst}
use Rattle.jiff_tz.specs.PosixRule.{dst_at_by, match_some, utc_window, rule_nanos, in_window}
use Rattle.jiff_tz.specs.Year.{year_of_nanos}
use Rattle.gw_model.specs.declared.rule.RuleMoment.{RuleMoment}
use Rattle.gw_model.specs.declared.rule.Daylight.{Daylight}
use Rattle.gw_model.specs.Rule.{IsSecondsAhead}
use Rattle.gw_time.specs.declared.zone.Zone.{Zone}
use Rattle.gw_time.specs.Rule.{posix_day, moment_in, daylight_window, seconds_by, clocks_of}
use Rattle.gw_time.specs.Laws.{AreStationClocks}

-- numbers of a rule in 32 bits
pub same_in_32 : (z : ℤ) → negsuc 604798 ≤ℤ z → z ≤ℤ pos 604799 → to_z w32 (of_z w32 z) ≡ z
same_in_32 z from to = omega (arith, signed_casts)

pub ahead_same : (z : ℤ) → IsSecondsAhead z → to_z w32 (of_z w32 z) ≡ z
ahead_same z ahead =
    let from = ahead.from in
    let to = ahead.to in
    omega (arith, signed_casts)

-- a moment that jiff tells is that of a rule
pub record IsMoment (at : RuleMoment) (d : DayTime) : Type 0 where
  pub day : d.date ≡ posix_day at.day
  pub seconds : d.time ≡ at.seconds

pub moment_same : (at : RuleMoment) (d : DayTime) (year seconds : ℤ) → IsMoment at d
    → rule_nanos year d seconds ≡ moment_in year at seconds
unfolding rule_nanos
moment_same at d year seconds is = rw (is.day, is.seconds) refl

-- so is daylight saving time, where its moments are
pub window_same : (daylight : Daylight) (d : Dst) (year : ℤ) (standard : Offset)
    → d.offset.seconds ≡ daylight.seconds
    → rule_nanos year d.rule.start standard.seconds ≡ moment_in year daylight.begins standard.seconds
    → rule_nanos year d.rule.end daylight.seconds ≡ moment_in year daylight.ends daylight.seconds
    → utc_window d year standard ≡ daylight_window daylight year standard.seconds
unfolding utc_window
window_same daylight d year standard seconds begins ends = rw (seconds, begins, ends) refl

chosen : (b : Bool) (seconds : ℤ) (d : Dst) (standard : Offset) → d.offset.seconds ≡ seconds
    → (match_some (if b then Some d else None) standard (λ (d : Dst). d.offset)).seconds
    ≡ (if b then seconds else standard.seconds)
chosen true seconds d standard e = e
chosen false seconds d standard e = refl

-- the offset by a rule with daylight saving time
pub by_daylight : (daylight : Daylight) (d : Dst) (standard : Offset) (moment : ℤ)
    → d.offset.seconds ≡ daylight.seconds
    → utc_window d (year_of_nanos moment) standard
    ≡ daylight_window daylight (year_of_nanos moment) standard.seconds
    → (match_some (dst_at_by standard (Some d) moment) standard (λ (d : Dst). d.offset)).seconds
    ≡ seconds_by standard.seconds (Some daylight) moment
by_daylight daylight d standard moment seconds window =
    chosen (in_window (utc_window d (year_of_nanos moment) standard) moment) daylight.seconds d standard seconds
    ∙ ap (λ (w : ℤ × ℤ). if in_window w moment then daylight.seconds else standard.seconds) window

pub zone_clocks : (zone : Zone) → AreStationClocks (clocks_of zone)
unfolding clocks_of
zone_clocks zone = record { from = zone.from; to = zone.to }
