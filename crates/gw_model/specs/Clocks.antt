-- What the clocks of the station show: its civil time, and summer time where a rule tells of it.
use Rattle.std.specs.Prelude.{ℕ, ℤ, pos, ◌+ℤ◌, ◌*ℤ◌, Bool, false, Option, Some, None, is_some, if◌then◌else◌}

pub record Clocks : Type 0 where
  -- how many minutes they are ahead of UTC outside of summer time
  pub offset_minutes : ℤ
  -- at which instants it is summer time, where a rule tells that
  pub summer : Option (ℕ → Bool)

-- whether they tell summer time at all
abbrev pub tells_summer : Clocks → Bool
tells_summer clocks = is_some clocks.summer

abbrev pub is_summer_by : Option (ℕ → Bool) → ℕ → Bool
is_summer_by None t = false
is_summer_by (Some is_summer) t = is_summer t

-- whether they show summer time at an instant, in milliseconds since 1970 in UTC
abbrev pub is_summer : Clocks → ℕ → Bool
is_summer clocks t = is_summer_by clocks.summer t

-- how many minutes they are ahead of UTC: in summer time, 60 more
abbrev pub minutes_ahead : Clocks → Bool → ℤ
minutes_ahead clocks summer = clocks.offset_minutes +ℤ (if summer then pos 60 else pos 0)

-- what they show at an instant, in milliseconds from the beginning of 1 January 1970 by them
abbrev pub shown_at : Clocks → ℕ → ℤ
shown_at clocks t = pos t +ℤ (pos 60000 *ℤ minutes_ahead clocks (is_summer clocks t))

-- clocks that are always so many minutes ahead of UTC
abbrev pub always_ahead : ℤ → Clocks
always_ahead offset = record { offset_minutes = offset; summer = None }

-- those of UTC
abbrev pub utc : Clocks
utc = always_ahead (pos 0)
