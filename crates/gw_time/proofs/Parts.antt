-- What a tag that means a stamp is made of.
use Rattle.std.proofs.Common.{◌≡◌, ℕ, ◌<◌, Bool, true, false, ◌&&◌, nat_lt, nat_le, if◌then◌else◌, refl, arith}
use Rattle.std.proofs.Common.{ℤ, pos, negsuc, ◌+ℤ◌, ◌-ℤ◌, ◌*ℤ◌, ◌<ℤ◌, ◌≤ℤ◌, List, Result, Ok, Err}
use Rattle.std.specs.Prelude.{unsigned_abs}
use Rattle.std.proofs.lemmas.Bool.{and_parts}
use Rattle.std.proofs.lemmas.Bool.Decides.{nat_tests}
use Rattle.jiff_core.specs.Calendar.{days_in_month, IsCivilDate}
use Rattle.jiff_core.proofs.SignedLemmas.{signed_arith, one_part}
use Rattle.gw_model.specs.declared.point.Stamp.{Stamp}
use Rattle.gw_model.specs.Clocks.{Clocks, minutes_ahead}
use Rattle.gw_time.specs.declared.fault.TagFault.{TagFault}
use Rattle.gw_time.specs.declared.fault.TagFault.TheVariants.{Field, Date}
use Rattle.gw_time.specs.declared.binary_time.BinaryTime.{BinaryTime}
use Rattle.gw_time.specs.Tag.{is_in_range, has_day, civil_year, time_of_day, civil_milliseconds}
use Rattle.gw_time.specs.Tag.{stamp_of, is_of_summer, instant_of, tag_meaning, numbers_in}
use Rattle.gw_time.specs.Laws.{AreStationClocks}
use Rattle.gw_time.proofs.Calendar.{from_2000, before_2100}

-- the numbers of a civil time
pub record IsCivilTime (x : BinaryTime) : Type 0 where
  pub milliseconds : x.milliseconds < 60000
  pub minute : x.minute < 60
  pub hour : x.hour < 24
  pub year : x.year < 100
  pub date : IsCivilDate (civil_year x) x.month x.day

-- the result where both tests are passed
abbrev pub result_of : Bool → Bool → Stamp → Result Stamp TagFault
result_of a b s = if a then (if b then Ok s else Err Date) else Err Field

chosen : (a b : Bool) (s t : Stamp) → result_of a b s ≡ Ok t → (a ≡ true) × (b ≡ true) × (s ≡ t)
chosen true true s t e = (refl, refl, cc)
chosen true false s t e = absurd cc
chosen false b s t e = absurd cc

six_parts : (a b c d e f : Bool) → (a && b && c && d && e && f) ≡ true
    → (a ≡ true) × (b ≡ true) × (c ≡ true) × (d ≡ true) × (e ≡ true) × (f ≡ true)
six_parts a b c d e f h = grind (arith, and_parts)

pub civil_time_of : (x : BinaryTime) → is_in_range x ≡ true → has_day x ≡ true → IsCivilTime x
civil_time_of x range day =
    let p = six_parts (nat_lt x.milliseconds 60000) (nat_lt x.minute 60) (nat_lt x.hour 24) (nat_le 1 x.month)
    (nat_le x.month 12) (nat_lt x.year 100) range in
    let q = and_parts (nat_le 1 x.day) (nat_le x.day (days_in_month (civil_year x) x.month)) day in
    let year : x.year < 100 = grind (arith, nat_tests, p.5) in
    record {
      milliseconds = grind (arith, nat_tests, p.0);
      minute = grind (arith, nat_tests, p.1);
      hour = grind (arith, nat_tests, p.2);
      year = year;
      date = (
        omega (arith, signed_arith),
        (grind (arith, nat_tests, p.3), grind (arith, nat_tests, p.4)),
        (grind (arith, nat_tests, q.0), grind (arith, nat_tests, q.1)),
      );
    }

-- a tag that means a stamp has the numbers of a civil time, and the stamp is that of its instant
pub record Means (clocks : Clocks) (x : BinaryTime) (stamp : Stamp) : Type 0 where
  pub civil : IsCivilTime x
  pub stamp_is : stamp_of x.invalid (instant_of clocks x) ≡ stamp

pub parts_of : (clocks : Clocks) (octets : List ℕ) (stamp : Stamp) → tag_meaning clocks octets ≡ Ok stamp
    → Means clocks (numbers_in octets) stamp
unfolding tag_meaning
parts_of clocks octets stamp e =
    let x = numbers_in octets in
    let p = chosen (is_in_range x) (has_day x) (stamp_of x.invalid (instant_of clocks x)) stamp e in
    record { civil = civil_time_of x p.0 p.1; stamp_is = p.2 }

-- a time of day is less than a day
pub time_of_day_bound : (x : BinaryTime) → IsCivilTime x → time_of_day x < 86400000
time_of_day_bound x h = omega arith

-- the civil time is in the years 2000 to 2099
pub civil_bounds : (x : BinaryTime) → IsCivilTime x
    → (pos 946684800000 ≤ℤ civil_milliseconds x) × (civil_milliseconds x <ℤ pos 4102444800000)
civil_bounds x h =
    let low = from_2000 (civil_year x) x.month x.day (omega (arith, signed_arith)) h.date.2.0 in
    let high = before_2100 (civil_year x) x.month x.day h.date (omega (arith, signed_arith)) in
    let within = time_of_day_bound x h in
    (omega (arith, signed_arith), omega (arith, signed_arith))

-- the clocks are at most 840 minutes behind UTC, and 900 ahead of it, with summer time
pub minutes_within : (clocks : Clocks) (summer : Bool) → AreStationClocks clocks
    → (negsuc 839 ≤ℤ minutes_ahead clocks summer) × (minutes_ahead clocks summer ≤ℤ pos 900)
minutes_within clocks true o =
    let from = o.from in
    let to = o.to in
    (omega (arith, signed_arith), omega (arith, signed_arith))
minutes_within clocks false o =
    let from = o.from in
    let to = o.to in
    (omega (arith, signed_arith), omega (arith, signed_arith))

shows : (minutes z : ℤ) → negsuc 839 ≤ℤ minutes → minutes ≤ℤ pos 900 → pos 946684800000 ≤ℤ z
    → pos (unsigned_abs (z -ℤ (pos 60000 *ℤ minutes))) +ℤ (pos 60000 *ℤ minutes) ≡ z
shows minutes z from to low = let one = one_part (z -ℤ (pos 60000 *ℤ minutes)) in omega (arith, signed_arith)

-- clocks as many minutes ahead as the tag says show the civil time at its instant
pub instant_shows : (clocks : Clocks) (x : BinaryTime) → AreStationClocks clocks → IsCivilTime x
    → pos (instant_of clocks x) +ℤ (pos 60000 *ℤ minutes_ahead clocks (is_of_summer clocks x)) ≡ civil_milliseconds x
instant_shows clocks x o h =
    let m = minutes_within clocks (is_of_summer clocks x) o in
    shows (minutes_ahead clocks (is_of_summer clocks x)) (civil_milliseconds x) m.0 m.1 (civil_bounds x h).0
