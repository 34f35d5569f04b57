-- The days from 1970 to dates of the years 2000 to 2099.
use Rattle.std.proofs.Common.{◌≡◌, ℕ, ◌≤◌, refl, arith, ℤ, pos, ◌+ℤ◌, ◌<ℤ◌, ◌≤ℤ◌}
use Rattle.std.proofs.lemmas.Int.{by_lt_z}
use Rattle.jiff_core.specs.Calendar.{day_count, days_from_civil, IsCivilDate}
use Rattle.jiff_core.proofs.SignedLemmas.{signed_arith}
use Rattle.jiff_core.proofs.MarchLemmas.{day_count-early}
use Rattle.jiff_core.proofs.CalendarLemmas.{days_from_civil-day_count, day_count-day_of_year}
use Rattle.jiff_core.proofs.CalendarLemmas.{day_count-next_year, day_count-later_year, day_count-lt_year}

pub days_to_2000 : day_count (pos 2000) 1 1 ≡ 4_382_910
days_to_2000 = day_count-early (pos 2000) 11999 1 1 refl (omega arith) (omega arith) (omega arith)

pub days_to_2100 : day_count (pos 2100) 1 1 ≡ 4_419_435
days_to_2100 = day_count-early (pos 2100) 12099 1 1 refl (omega arith) (omega arith) (omega arith)

-- a date has no fewer days before it than the beginning of its year
from_new_year : (y : ℤ) (m d : ℕ) → 1 ≤ d → day_count y 1 1 ≤ day_count y m d
from_new_year y m d h = omega (arith, day_count-day_of_year y m d h)

-- a later date is not before 1 January of a year that follows this one
at_or_after : (before y : ℤ) (m d : ℕ) → pos 0 ≤ℤ before → before <ℤ y → 1 ≤ d
    → day_count (before +ℤ pos 1) 1 1 ≤ day_count y m d
at_or_after before y m d low lt first =
    omega (
      arith,
      from_new_year y m d first,
      day_count-later_year before y (omega (arith, signed_arith)) lt,
      day_count-next_year before (before +ℤ pos 1) (omega (arith, signed_arith)) refl,
    )

-- dates of the years 2000 to 2099 by their day numbers
pub from_2000 : (y : ℤ) (m d : ℕ) → pos 2000 ≤ℤ y → 1 ≤ d → pos 10957 ≤ℤ days_from_civil y m d
from_2000 y m d low first =
    omega (
      arith,
      signed_arith,
      days_from_civil-day_count y m d,
      days_to_2000,
      at_or_after (pos 1999) y m d (omega (arith, signed_arith)) (omega (arith, signed_arith)) first,
    )

pub before_2100 : (y : ℤ) (m d : ℕ) → IsCivilDate y m d → y ≤ℤ pos 2099 → days_from_civil y m d <ℤ pos 47482
before_2100 y m d h high =
    omega (
      arith,
      signed_arith,
      days_from_civil-day_count y m d,
      days_to_2100,
      day_count-lt_year y m d (pos 2100) 1 1 h (omega arith) (omega (arith, signed_arith)),
    )

-- and back
pub year_from_2000 : (y : ℤ) (m d : ℕ) → IsCivilDate y m d → pos 10957 ≤ℤ days_from_civil y m d → pos 2000 ≤ℤ y
year_from_2000 y m d h low =
    by_lt_z y (pos 2000)
    (λ lt. absurd (omega (
      arith,
      signed_arith,
      days_from_civil-day_count y m d,
      days_to_2000,
      day_count-lt_year y m d (pos 2000) 1 1 h (omega arith) lt,
    )))
    (λ le. le)

pub year_before_2100 : (y : ℤ) (m d : ℕ) → IsCivilDate y m d → days_from_civil y m d <ℤ pos 47482 → y ≤ℤ pos 2099
year_before_2100 y m d h high =
    by_lt_z (pos 2099) y
    (λ lt. absurd (omega (
      arith,
      signed_arith,
      days_from_civil-day_count y m d,
      days_to_2100,
      at_or_after (pos 2099) y m d (omega (arith, signed_arith)) lt h.2.0,
    )))
    (λ le. le)
