-- Tags that mean one stamp.
use Rattle.std.proofs.Common.{◌≡◌, ℕ, ◌+◌, ◌*◌, ◌/◌, ◌%◌, ◌<◌, ◌==◌, ◌&&◌, Bool, true}
use Rattle.std.proofs.Common.{false, refl, ap, sym, ◌∙◌, arith, ℤ, pos, ◌+ℤ◌, ◌*ℤ◌, List, slice_index, Ok}
use Rattle.std.proofs.lemmas.Bool.Decides.{nat_tests}
use Rattle.jiff_core.specs.declared.civil.date.Date as date
use Rattle.jiff_core.specs.Calendar.{days_from_civil, IsCivilDate}
use Rattle.jiff_core.proofs.SignedLemmas.{signed_arith}
use Rattle.jiff_core.proofs.DateLemmas.{epoch_day_injective}
use Rattle.gw_model.specs.declared.point.Stamp.{Stamp}
use Rattle.gw_time.specs.declared.binary_time.BinaryTime.{BinaryTime}
use Rattle.gw_model.specs.Clocks.{Clocks, tells_summer, is_summer, minutes_ahead, shown_at}
use Rattle.gw_time.specs.Tag.{civil_year, time_of_day, civil_milliseconds, stamp_of, is_of_summer}
use Rattle.gw_time.specs.Tag.{instant_of, tag_meaning, numbers_in, kept_summer, plain}
use Rattle.gw_time.specs.Window.{HasTag, IsFrom2000To2099}
use Rattle.gw_time.specs.Laws.{AreStationClocks, IsByTheClocks, AreSevenOctets}
use Rattle.gw_time.proofs.Century.{window_of_shown}
use Rattle.gw_time.proofs.Parts.{IsCivilTime, Means, parts_of, time_of_day_bound, civil_bounds, instant_shows}

-- ---- what a tag means has a tag

-- at its instant the clocks show the civil time, if they are as far ahead as the tag says
shows_then : (clocks : Clocks) (octets : List ℕ) → AreStationClocks clocks → IsCivilTime (numbers_in octets)
    → IsByTheClocks clocks octets
    → shown_at clocks (instant_of clocks (numbers_in octets)) ≡ civil_milliseconds (numbers_in octets)
shows_then clocks octets o h by =
    let x = numbers_in octets in
    let t = instant_of clocks x in
    ap (λ (b : Bool). pos t +ℤ (pos 60000 *ℤ minutes_ahead clocks b)) (sym by.summer) ∙ instant_shows clocks x o h

in_window : (clocks : Clocks) (octets : List ℕ) → AreStationClocks clocks → IsCivilTime (numbers_in octets)
    → IsByTheClocks clocks octets → IsFrom2000To2099 clocks (instant_of clocks (numbers_in octets))
in_window clocks octets o h by =
    let x = numbers_in octets in
    let b = civil_bounds x h in
    let e = shows_then clocks octets o h by in
    window_of_shown clocks (instant_of clocks x) (record { low = rw e b.0; high = rw e b.1 })

has_tag : (clocks : Clocks) (invalid : Bool) (t : ℕ) → IsFrom2000To2099 clocks t → HasTag clocks (stamp_of invalid t)
has_tag clocks true t h = h
has_tag clocks false t h = h

pub meaning_has_tag : (clocks : Clocks) (octets : List ℕ) (stamp : Stamp) → AreStationClocks clocks
    → IsByTheClocks clocks octets → tag_meaning clocks octets ≡ Ok stamp → HasTag clocks stamp
meaning_has_tag clocks octets stamp o by e =
    let x = numbers_in octets in
    let m = parts_of clocks octets stamp e in
    rw (← m.stamp_is) (has_tag clocks x.invalid (instant_of clocks x) (in_window clocks octets o m.civil by))

-- ---- two tags that mean one stamp

same_stamp : (a b : Bool) (s t : ℕ) → stamp_of a s ≡ stamp_of b t → (a ≡ b) × (s ≡ t)
same_stamp true true s t e = (refl, cc)
same_stamp true false s t e = absurd cc
same_stamp false true s t e = absurd cc
same_stamp false false s t e = (refl, cc)

same_day_and_time : (a b : ℤ) (s t : ℕ) → s < 86400000 → t < 86400000
    → a *ℤ pos 86400000 +ℤ pos s ≡ b *ℤ pos 86400000 +ℤ pos t → (a ≡ b) × (s ≡ t)
same_day_and_time a b s t hs ht e = (omega (arith, signed_arith), omega (arith, signed_arith))

date_of : (y : ℤ) (m d : ℕ) → IsCivilDate y m d → date.Date
date_of y m d h = record { year = y; month = m; day = d; year_in = h.0; month_in = h.1; day_in = h.2 }

pub same_date : (y : ℤ) (m d : ℕ) (y₂ : ℤ) (m₂ d₂ : ℕ) → IsCivilDate y m d → IsCivilDate y₂ m₂ d₂
    → days_from_civil y m d ≡ days_from_civil y₂ m₂ d₂ → (y ≡ y₂) × (m ≡ m₂) × (d ≡ d₂)
unfolding date_of
same_date y m d y₂ m₂ d₂ h k e = epoch_day_injective (date_of y m d h) (date_of y₂ m₂ d₂ k) e

same_time_of_day : (x y : BinaryTime) → IsCivilTime x → IsCivilTime y → time_of_day x ≡ time_of_day y
    → (x.hour ≡ y.hour) × (x.minute ≡ y.minute) × (x.milliseconds ≡ y.milliseconds)
same_time_of_day x y h k e = omega arith

-- the numbers are the same
pub record SameNumbers (x y : BinaryTime) : Type 0 where
  pub milliseconds : x.milliseconds ≡ y.milliseconds
  pub minute : x.minute ≡ y.minute
  pub invalid : x.invalid ≡ y.invalid
  pub hour : x.hour ≡ y.hour
  pub day : x.day ≡ y.day
  pub month : x.month ≡ y.month
  pub year : x.year ≡ y.year

same_numbers : (clocks : Clocks) (x y : BinaryTime) (stamp : Stamp) → AreStationClocks clocks → Means clocks x stamp
    → Means clocks y stamp → is_of_summer clocks x ≡ is_of_summer clocks y → SameNumbers x y
same_numbers clocks x y stamp o m n summer =
    let s = same_stamp x.invalid y.invalid (instant_of clocks x) (instant_of clocks y) (m.stamp_is ∙ sym n.stamp_is) in
    let civil : civil_milliseconds x ≡ civil_milliseconds y =
    sym (instant_shows clocks x o m.civil)
    ∙ ap (λ (t : ℕ). pos t +ℤ (pos 60000 *ℤ minutes_ahead clocks (is_of_summer clocks x))) s.1
    ∙ ap (λ (b : Bool). pos (instant_of clocks y) +ℤ (pos 60000 *ℤ minutes_ahead clocks b)) summer
    ∙ instant_shows clocks y o n.civil in
    let p = same_day_and_time _ _ _ _ (time_of_day_bound x m.civil) (time_of_day_bound y n.civil) civil in
    let d = same_date (civil_year x) x.month x.day (civil_year y) y.month y.day m.civil.date n.civil.date p.0 in
    let t = same_time_of_day x y m.civil n.civil p.1 in
    record {
      milliseconds = t.2;
      minute = t.1;
      invalid = s.0;
      hour = t.0;
      day = d.2;
      month = d.1;
      year = omega (arith, signed_arith);
    }

-- the octets that have the numbers
low_octet : (a b c d : ℕ) → a < 256 → c < 256 → a + 256 * b ≡ c + 256 * d → (a ≡ c) × (b ≡ d)
low_octet a b c d h k e = (omega arith, omega arith)

high_bit : (a b : ℕ) → a < 256 → b < 256 → (a / 128 % 2 == 1) ≡ (b / 128 % 2 == 1) → a / 128 ≡ b / 128
high_bit a b h k e = grind (arith, nat_tests)

-- SU is the same where it is kept
same_summer : (tells : Bool) (a b : ℕ) → a < 256 → b < 256
    → (tells && (a / 128 % 2 == 1)) ≡ (tells && (b / 128 % 2 == 1)) → kept_summer tells a ≡ kept_summer tells b
same_summer true a b h k e = ap (λ (n : ℕ). n * 128) (high_bit a b h k e)
same_summer false a b h k e = refl

same_octets : (clocks : Clocks) (a b : List ℕ) → AreSevenOctets a → AreSevenOctets b
    → SameNumbers (numbers_in a) (numbers_in b)
    → is_of_summer clocks (numbers_in a) ≡ is_of_summer clocks (numbers_in b) → plain clocks a ≡ plain clocks b
same_octets clocks a b h k s summer =
    let l = low_octet (slice_index a 0) (slice_index a 1) (slice_index b 0) (slice_index b 1) (h.octet 0)
    (k.octet 0) s.milliseconds in
    let v = high_bit (slice_index a 2) (slice_index b 2) (h.octet 2) (k.octet 2) s.invalid in
    let u = same_summer (tells_summer clocks) (slice_index a 3) (slice_index b 3) (h.octet 3) (k.octet 3) summer in
    rw (l.0, l.1, v, u, s.minute, s.hour, s.day, s.month, s.year)

pub one_tag_for : (clocks : Clocks) (a b : List ℕ) (stamp : Stamp) → AreStationClocks clocks → AreSevenOctets a
    → AreSevenOctets b → tag_meaning clocks a ≡ Ok stamp → tag_meaning clocks b ≡ Ok stamp
    → is_of_summer clocks (numbers_in a) ≡ is_of_summer clocks (numbers_in b) → plain clocks a ≡ plain clocks b
one_tag_for clocks a b stamp o h k e f summer =
    same_octets clocks a b h k
    (same_numbers clocks (numbers_in a) (numbers_in b) stamp o (parts_of clocks a stamp e) (parts_of clocks b stamp f)
    summer) summer

-- two tags by the clocks, of one stamp, are both of summer time or both not
pub both_of_summer : (clocks : Clocks) (a b : List ℕ) (stamp : Stamp) → tag_meaning clocks a ≡ Ok stamp
    → tag_meaning clocks b ≡ Ok stamp → IsByTheClocks clocks a → IsByTheClocks clocks b
    → is_of_summer clocks (numbers_in a) ≡ is_of_summer clocks (numbers_in b)
both_of_summer clocks a b stamp e f by_a by_b =
    let x = numbers_in a in
    let y = numbers_in b in
    let m = parts_of clocks a stamp e in
    let n = parts_of clocks b stamp f in
    let s = same_stamp x.invalid y.invalid (instant_of clocks x) (instant_of clocks y) (m.stamp_is ∙ sym n.stamp_is) in
    by_a.summer ∙ ap (is_summer clocks) s.1 ∙ sym by_b.summer

-- ---- what clocks show at the instant that a tag means

pub clocks_show : (clocks : Clocks) (octets : List ℕ) (invalid : Bool) (t : ℕ) → AreStationClocks clocks
    → IsByTheClocks clocks octets → tag_meaning clocks octets ≡ Ok (stamp_of invalid t)
    → shown_at clocks t ≡ civil_milliseconds (numbers_in octets)
clocks_show clocks octets invalid t o by e =
    let x = numbers_in octets in
    let m = parts_of clocks octets (stamp_of invalid t) e in
    let s = same_stamp x.invalid invalid (instant_of clocks x) t m.stamp_is in
    ap (λ (t : ℕ). shown_at clocks t) (sym s.1) ∙ shows_then clocks octets o m.civil by
