-- Counting off whole months from 1 January 2000 gives the date, and the tag of a stamp is the one that is written.
use Rattle.std.proofs.Common.{◌≡◌, ℕ, zero, suc, ◌+◌, ◌-◌, ◌*◌, ◌/◌, ◌%◌, ◌<◌}
use Rattle.std.proofs.Common.{◌≤◌, ◌==◌, ◌&&◌, Bool, true, false, nat_lt, nat_le, List}
use Rattle.std.proofs.Common.{refl, ap, sym, ◌∙◌, arith, ℤ, pos, negsuc, Option, Some, None}
use Rattle.std.proofs.lemmas.Bool.{ltb-true, ltb-false, eqb-true, eqb-false, and_parts, and_from, le-leb, lt-ltb, leb-true}
use Rattle.jiff_core.specs.declared.civil.date.Date.{Date}
use Rattle.jiff_core.specs.Date.{epoch_day}
use Rattle.jiff_core.specs.Calendar.{days_in_month, day_count, days_from_civil, IsCivilDate}
use Rattle.jiff_core.proofs.SignedLemmas.{signed_arith}
use Rattle.jiff_core.proofs.CalendarLemmas.{day_count-day, day_count-next_month, day_count-next_year}
use Rattle.jiff_core.proofs.CalendarLemmas.{day_count-last_of_year, days_from_civil-day_count}
use Rattle.jiff_core.proofs.DateLemmas.{civil}
use Rattle.gw_time.specs.declared.binary_time.BinaryTime.{BinaryTime}
use Rattle.gw_time.specs.Spelling.{date_after, numbers_at, octets_of, tag_showing}
use Rattle.gw_time.proofs.Calendar.{days_to_2000, days_to_2100}
use Rattle.gw_time.proofs.Century.{IsShown}
use Rattle.gw_time.proofs.Round.{same_date}

-- ---- the date

-- a day of the calendar by its count
pub record IsDay (count : ℕ) (date : ℕ × ℕ × ℕ) : Type 0 where
  pub civil : IsCivilDate (pos (2000 + date.0)) date.1 date.2
  pub days : day_count (pos (2000 + date.0)) date.1 date.2 ≡ count

-- a place in the months of the years 2000 to 2099, with so many left, and so many days after its first
pub record IsPlace (count left year month days : ℕ) : Type 0 where
  place : 12 * year + month + left ≡ 1201
  month_from : 1 ≤ month
  month_to : month ≤ 12
  counted : count ≡ day_count (pos (2000 + year)) month 1 + days

-- a month, by the two tests
abbrev next : ℕ → ℕ → ℕ → ℕ → ℕ → Bool → Bool → ℕ × ℕ × ℕ
next months year month days whole within last =
    elim within [
      | true ↦ (year, month, days + 1)
      | false ↦ elim last [
        | true ↦ date_after months (year + 1) 1 (days - whole)
        | false ↦ date_after months year (month + 1) (days - whole)
      ]
    ]

in_month : (count n y m k : ℕ) → IsPlace count (suc n) y m k → k < days_in_month (pos (2000 + y)) m
    → IsDay count (y, m, k + 1)
in_month count n y m k p lt = record {
  civil = (
    (omega (arith, signed_arith), let h = p.place in omega (arith, signed_arith)),
    (p.month_from, p.month_to),
    (omega arith, omega arith),
  );
  days = omega (arith, p.counted, day_count-day (pos (2000 + y)) m 1 (k + 1) (omega arith) (omega arith));
}

month_after : (count n y m k : ℕ) → IsPlace count (suc n) y m k → days_in_month (pos (2000 + y)) m ≤ k → (m ≡ 12 → ⊥)
    → IsPlace count n y (m + 1) (k - days_in_month (pos (2000 + y)) m)
month_after count n y m k p le not_last = record {
  place = omega (arith, p.place);
  month_from = omega arith;
  month_to = omega (arith, p.month_to);
  counted = omega (arith, p.counted, day_count-next_month (pos (2000 + y)) m p.month_from);
}

-- January follows on 31 days of December
january : (y : ℕ) → day_count (pos (2000 + (y + 1))) 1 1 ≡ day_count (pos (2000 + y)) 12 1 + 31
january y =
    let year = day_count-next_year (pos (2000 + y)) (pos (2000 + (y + 1))) (omega (arith, signed_arith))
    (omega (arith, signed_arith)) in
    omega (
      arith,
      year,
      day_count-last_of_year (pos (2000 + y)),
      day_count-day (pos (2000 + y)) 12 1 31 (omega arith) (omega arith),
    )

year_after : (count n y m k : ℕ) → IsPlace count (suc n) y m k → days_in_month (pos (2000 + y)) m ≤ k → m ≡ 12
    → IsPlace count n (y + 1) 1 (k - days_in_month (pos (2000 + y)) m)
year_after count n y m k p le last =
    let whole : days_in_month (pos (2000 + y)) m ≡ 31 = ap (λ (i : ℕ). days_in_month (pos (2000 + y)) i) last in
    let first : day_count (pos (2000 + y)) m 1 ≡ day_count (pos (2000 + y)) 12 1 =
    ap (λ (i : ℕ). day_count (pos (2000 + y)) i 1) last in
    record {
      place = omega (arith, p.place);
      month_from = omega arith;
      month_to = omega arith;
      counted = omega (arith, p.counted, january y);
    }

step : (count n y m k : ℕ) (within last : Bool) → IsPlace count (suc n) y m k
    → nat_lt k (days_in_month (pos (2000 + y)) m) ≡ within → (m == 12) ≡ last
    → ((y₂ m₂ k₂ : ℕ) → IsPlace count n y₂ m₂ k₂ → IsDay count (date_after n y₂ m₂ k₂))
    → IsDay count (next n y m k (days_in_month (pos (2000 + y)) m) within last)
step count n y m k true last p e f others = in_month count n y m k p (ltb-true _ _ e)
step count n y m k false true p e f others =
    others _ _ _ (year_after count n y m k p (ltb-false _ _ e) (eqb-true _ _ f))
step count n y m k false false p e f others =
    others _ _ _ (month_after count n y m k p (ltb-false _ _ e) (eqb-false _ _ f))

-- no month is left on 1 January 2100
last_day : (count y m k : ℕ) → count < day_count (pos 2100) 1 1 → IsPlace count 0 y m k → ⊥
last_day count y m k lt p =
    let year : y ≡ 100 = omega (arith, p.place, p.month_from, p.month_to) in
    let month : m ≡ 1 = omega (arith, p.place, p.month_from, p.month_to) in
    let first : day_count (pos (2000 + y)) m 1 ≡ day_count (pos 2100) 1 1 = rw (year, month) refl in
    omega (arith, p.counted)

counted_off : (count n y m k : ℕ) → count < day_count (pos 2100) 1 1 → IsPlace count n y m k
    → IsDay count (date_after n y m k)
unfolding date_after
counted_off count zero y m k lt p = absurd (last_day count y m k lt p)
counted_off count (suc n) y m k lt p =
    step count n y m k _ _ p refl refl (λ y₂ m₂ k₂ q. counted_off count n y₂ m₂ k₂ lt q)

-- the day so many days after 1 January 2000
pub day_after : (k : ℕ) → k < 36525 → IsDay (4_382_910 + k) (date_after 1200 0 1 k)
day_after k lt =
    counted_off (4_382_910 + k) 1200 0 1 k (omega (arith, days_to_2100))
    (record { place = refl; month_from = omega arith; month_to = omega arith; counted = omega (arith, days_to_2000) })

pub same_number : (y : ℤ) (m d k : ℕ) → day_count y m d ≡ 4_382_910 + k → days_from_civil y m d ≡ pos (10957 + k)
same_number y m d k e = omega (arith, signed_arith, days_from_civil-day_count y m d)

-- the parts of a date are those that are counted off
pub date_is : (date : Date) (day : ℕ) → 10957 ≤ day → day < 47482 → epoch_day date ≡ pos day
    → (date.year ≡ pos (2000 + (date_after 1200 0 1 (day - 10957)).0))
    × (date.month ≡ (date_after 1200 0 1 (day - 10957)).1) × (date.day ≡ (date_after 1200 0 1 (day - 10957)).2)
date_is date day low high e =
    let after = date_after 1200 0 1 (day - 10957) in
    let d : IsDay (4_382_910 + (day - 10957)) after = day_after (day - 10957) (omega arith) in
    let number : days_from_civil (pos (2000 + after.0)) after.1 after.2 ≡ pos day =
    same_number _ _ _ (day - 10957) d.days ∙ ap (λ (n : ℕ). pos n) (omega arith) in
    same_date date.year date.month date.day _ _ _ (civil date) d.civil (e ∙ sym number)

-- ---- the numbers

abbrev numbers_of : Bool → Bool → ℕ → ℕ → ℕ → ℕ → BinaryTime
numbers_of invalid summer shown year month day = record {
  milliseconds = shown % 60000;
  minute = shown / 60000 % 60;
  invalid = invalid;
  summer = summer;
  hour = shown / 3600000 % 24;
  day = day;
  month = month;
  year = year;
}

numbers_same : (shown : ℕ) (invalid summer : Bool) (y y₂ m m₂ d d₂ : ℕ) → y ≡ y₂ → m ≡ m₂ → d ≡ d₂
    → numbers_of invalid summer shown y m d ≡ numbers_of invalid summer shown y₂ m₂ d₂
numbers_same shown invalid summer y y₂ m m₂ d d₂ ey em ed = cc

-- the numbers of a clock with its date
pub numbers_are : (invalid summer : Bool) (shown year : ℕ) (date : Date) → 946684800000 ≤ shown → shown < 4102444800000
    → epoch_day date ≡ pos (shown / 86400000) → pos (2000 + year) ≡ date.year
    → numbers_of invalid summer shown year date.month date.day ≡ numbers_at invalid summer shown
numbers_are invalid summer shown year date low high e y =
    let d = date_is date (shown / 86400000) (omega arith) (omega arith) e in
    numbers_same shown invalid summer _ _ _ _ _ _ (omega (arith, signed_arith, d.0, y)) d.1 d.2

-- ---- the tag

abbrev guarded : Bool → Option (List ℕ) → Option (List ℕ)
guarded b o = elim b [ true ↦ o | false ↦ None ]

not_chosen : (b : Bool) (o : Option (List ℕ)) → (b ≡ true → ⊥) → guarded b o ≡ None
not_chosen true o h = absurd (h refl)
not_chosen false o h = refl

chosen : (b : Bool) (o : Option (List ℕ)) → b ≡ true → guarded b o ≡ o
chosen true o e = refl
chosen false o e = absurd cc

is_shown : (n : ℕ) → (nat_le 946684800000 n && nat_lt n 4102444800000) ≡ true → IsShown (pos n)
is_shown n e =
    let p = and_parts (nat_le 946684800000 n) (nat_lt n 4102444800000) e in
    let low = leb-true _ _ p.0 in
    let high = ltb-true _ _ p.1 in
    record { low = omega (arith, signed_arith); high = omega (arith, signed_arith) }

-- no tag shows what is before 2000, or from 2100 on
pub outside : (invalid summer : Bool) (z : ℤ) → (IsShown z → ⊥) → tag_showing invalid summer z ≡ None
unfolding tag_showing
outside invalid summer (negsuc n) h = refl
outside invalid summer (pos n) h = not_chosen _ _ (λ e. h (is_shown n e))

inside_at : (invalid summer : Bool) (n : ℕ) → 946684800000 ≤ n → n < 4102444800000
    → tag_showing invalid summer (pos n) ≡ Some (octets_of (numbers_at invalid summer n))
unfolding tag_showing
inside_at invalid summer n low high = chosen _ _ (and_from _ _ (le-leb _ _ low) (lt-ltb _ _ high))

-- the tag of what a clock shows
pub inside : (invalid summer : Bool) (z : ℤ) (n : ℕ) → pos n ≡ z → 946684800000 ≤ n → n < 4102444800000
    → tag_showing invalid summer z ≡ Some (octets_of (numbers_at invalid summer n))
inside invalid summer z n e low high = ap (tag_showing invalid summer) (sym e) ∙ inside_at invalid summer n low high
