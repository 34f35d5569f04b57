-- What the seven octets of a time tag, CP56Time2a, mean (IEC 60870-5-101, 7.2.6.18).
use Rattle.std.specs.Prelude.{ℕ, ℤ, pos, ◌+◌, ◌*◌, ◌/◌, ◌%◌, ◌+ℤ◌, ◌-ℤ◌, ◌*ℤ◌, unsigned_abs, Bool}
use Rattle.std.specs.Prelude.{◌&&◌, ◌==◌, nat_lt, nat_le, if◌then◌else◌, List, [], ◌∷◌, slice_index, Result, Ok, Err}
use Rattle.jiff_core.specs.Calendar.{days_in_month, days_from_civil}
use Rattle.gw_model.specs.declared.point.Stamp.{Stamp}
use Rattle.gw_model.specs.declared.point.Stamp.TheVariants.{At, Doubtful}
use Rattle.gw_model.specs.Clocks.{Clocks, tells_summer, minutes_ahead}
use Rattle.gw_time.specs.declared.fault.TagFault.{TagFault}
use Rattle.gw_time.specs.declared.fault.TagFault.TheVariants.{Field, Date}
use Rattle.gw_time.specs.declared.binary_time.BinaryTime.{BinaryTime}

-- ---- the numbers in the octets

-- milliseconds in the minute, low octet first; minute, and the bit IV; the bit SU, and hour; day of month; month; year.
-- The day of week and the reserved bits are not looked at
abbrev pub numbers_in : List ℕ → BinaryTime
numbers_in octets = record {
  milliseconds = slice_index octets 0 + 256 * slice_index octets 1;
  minute = slice_index octets 2 % 64;
  invalid = slice_index octets 2 / 128 % 2 == 1;
  summer = slice_index octets 3 / 128 % 2 == 1;
  hour = slice_index octets 3 % 32;
  day = slice_index octets 4 % 32;
  month = slice_index octets 5 % 16;
  year = slice_index octets 6 % 128;
}

-- each number but the day of month is one that a clock or a calendar shows
abbrev pub is_in_range : BinaryTime → Bool
is_in_range x =
    nat_lt x.milliseconds 60000 && nat_lt x.minute 60 && nat_lt x.hour 24
    && nat_le 1 x.month && nat_le x.month 12 && nat_lt x.year 100

-- ---- the civil time

-- the years are those from 2000 on
abbrev pub civil_year : BinaryTime → ℤ
civil_year x = pos (2000 + x.year)

-- the month of that year has the day
abbrev pub has_day : BinaryTime → Bool
has_day x = nat_le 1 x.day && nat_le x.day (days_in_month (civil_year x) x.month)

-- milliseconds since midnight
abbrev pub time_of_day : BinaryTime → ℕ
time_of_day x = x.hour * 3600000 + x.minute * 60000 + x.milliseconds

-- milliseconds to the beginning of a day, from that of 1 January 1970, on a clock whose days have 24 hours
abbrev pub midnight : ℤ → ℕ → ℕ → ℤ
midnight year month day = days_from_civil year month day *ℤ pos 86400000

-- the same to the civil time
abbrev pub civil_milliseconds : BinaryTime → ℤ
civil_milliseconds x = midnight (civil_year x) x.month x.day +ℤ pos (time_of_day x)

-- ---- the stamp

-- an instant, in doubt where the bit IV was set
abbrev pub stamp_of : Bool → ℕ → Stamp
stamp_of invalid t = if invalid then Doubtful t else At t

-- the civil time is of summer time: SU is looked at where the clocks tell summer time
abbrev pub is_of_summer : Clocks → BinaryTime → Bool
is_of_summer clocks x = tells_summer clocks && x.summer

-- the instant that the civil time means, by its SU, whatever clocks show then; no instant of the years from 2000 on is
-- before 1970
abbrev pub instant_of : Clocks → BinaryTime → ℕ
instant_of clocks x = unsigned_abs (civil_milliseconds x -ℤ (pos 60000 *ℤ minutes_ahead clocks (is_of_summer clocks x)))

abbrev pub time_meaning : Clocks → BinaryTime → Result Stamp TagFault
time_meaning clocks x =
    if is_in_range x then (if has_day x then Ok (stamp_of x.invalid (instant_of clocks x)) else Err Date)
    else Err Field

-- what a tag means by the clocks of the station
unfoldable pub tag_meaning : Clocks → List ℕ → Result Stamp TagFault
tag_meaning clocks octets = time_meaning clocks (numbers_in octets)

-- ---- the bits that are not looked at

-- SU where the clocks tell summer time, or else 0
abbrev pub kept_summer : Bool → ℕ → ℕ
kept_summer tells hour = if tells then hour / 128 * 128 else 0

-- the octets with these bits 0: bit 6 of the minute, the two below SU and where the clocks tell no summer time SU itself,
-- the day of week, and those above month and year
abbrev pub plain : Clocks → List ℕ → List ℕ
plain clocks octets =
    slice_index octets 0 ∷ slice_index octets 1
    ∷ (slice_index octets 2 / 128 * 128 + slice_index octets 2 % 64)
    ∷ (kept_summer (tells_summer clocks) (slice_index octets 3) + slice_index octets 3 % 32)
    ∷ slice_index octets 4 % 32
    ∷ slice_index octets 5 % 16
    ∷ slice_index octets 6 % 128
    ∷ []
