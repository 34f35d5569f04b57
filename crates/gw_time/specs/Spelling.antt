-- The time tag of a stamp, CP56Time2a (IEC 60870-5-101, 7.2.6.18), as a function: which seven octets they are.
use Rattle.std.specs.Prelude.{ℕ, zero, suc, ℤ, pos, negsuc, ◌+◌, ◌-◌, ◌/◌, ◌%◌, Bool, true, false, ◌&&◌}
use Rattle.std.specs.Prelude.{◌==◌, nat_lt, nat_le, if◌then◌else◌, List, [], ◌∷◌, ◌++◌, Option, Some, None}
use Rattle.std.specs.Int.{w16, to_le_bytes}
use Rattle.jiff_core.specs.Calendar.{days_in_month}
use Rattle.gw_model.specs.declared.point.Stamp.{Stamp}
use Rattle.gw_model.specs.declared.point.Stamp.TheVariants.{Untimed, At, Doubtful}
use Rattle.gw_model.specs.Clocks.{Clocks, is_summer, shown_at}
use Rattle.gw_time.specs.declared.binary_time.BinaryTime.{BinaryTime}

-- the date so many days after the first of a month, as year from 2000 on, month and day of month: whole months are
-- counted off, at most as many as the first number says
unfoldable pub date_after : ℕ → ℕ → ℕ → ℕ → ℕ × ℕ × ℕ
date_after zero year month days = (year, month, days + 1)
date_after (suc months) year month days =
    let whole : ℕ = days_in_month (pos (2000 + year)) month in
    elim (nat_lt days whole) [
      | true ↦ (year, month, days + 1)
      | false ↦ elim (month == 12) [
        | true ↦ date_after months (year + 1) 1 (days - whole)
        | false ↦ date_after months year (month + 1) (days - whole)
      ]
    ]

-- the numbers of a clock that shows so many milliseconds from the beginning of 1970, in the years 2000 to 2099: these
-- are 1200 months, and begin 10957 days after 1 January 1970
abbrev pub numbers_at : Bool → Bool → ℕ → BinaryTime
numbers_at invalid summer shown =
    let date : ℕ × ℕ × ℕ = date_after 1200 0 1 (shown / 86400000 - 10957) in
    record {
      milliseconds = shown % 60000;
      minute = shown / 60000 % 60;
      invalid = invalid;
      summer = summer;
      hour = shown / 3600000 % 24;
      day = date.2;
      month = date.1;
      year = date.0;
    }

-- the octets that have the numbers, and no other bit set: the milliseconds low octet first; minute with bit IV; hour with
-- bit SU; day of month, month and year
abbrev pub octets_of : BinaryTime → List ℕ
octets_of x =
    to_le_bytes w16 x.milliseconds
    ++ (x.minute + (if x.invalid then 128 else 0)) ∷ (x.hour + (if x.summer then 128 else 0)) ∷ x.day ∷ x.month ∷ x.year
    ∷ []

-- the tag that shows so many milliseconds from the beginning of 1970, from that of 2000 to that of 2100
unfoldable pub tag_showing : Bool → Bool → ℤ → Option (List ℕ)
tag_showing invalid summer (negsuc n) = None
tag_showing invalid summer (pos n) =
    elim (nat_le 946684800000 n && nat_lt n 4102444800000) [
      | true ↦ Some (octets_of (numbers_at invalid summer n))
      | false ↦ None
    ]

-- the tag of a stamp by the clocks of the station, if it has one
abbrev pub tag_of : Clocks → Stamp → Option (List ℕ)
tag_of clocks Untimed = None
tag_of clocks (At t) = tag_showing false (is_summer clocks t) (shown_at clocks t)
tag_of clocks (Doubtful t) = tag_showing true (is_summer clocks t) (shown_at clocks t)
