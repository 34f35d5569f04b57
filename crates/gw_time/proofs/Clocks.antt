-- What clocks show, in nanoseconds and in milliseconds.
use Rattle.std.proofs.Common.{◌≡◌, ◌↔◌, ℕ, ◌+◌, ◌*◌, ◌/◌, ◌%◌, ◌<◌, ◌≤◌, Bool, arith, refl}
use Rattle.std.proofs.Common.{sym, ◌∙◌, ap, ℤ, pos, negsuc, ◌+ℤ◌, ◌-ℤ◌, ◌*ℤ◌, ◌<ℤ◌, ◌≤ℤ◌}
use Rattle.std.specs.Prelude.{int_div}
use Rattle.jiff_core.specs.declared.civil.datetime.DateTime.{DateTime}
use Rattle.jiff_core.specs.Calendar.{IsBetween, days_from_civil}
use Rattle.jiff_core.specs.Date.{epoch_day, IsYmd}
use Rattle.jiff_core.specs.Time.{time_nanos}
use Rattle.jiff_core.specs.DateTime.{civil_nanos}
use Rattle.jiff_core.specs.Timestamp.{IsTimestampNanos, nanos_of_seconds}
use Rattle.jiff_core.proofs.SignedLemmas.{signed_arith, one_part}
use Rattle.jiff_core.proofs.DateLemmas.{civil}
use Rattle.jiff_core.proofs.DateTimeLemmas.{civil_nanos-parts, time_nanos_bound}
use Rattle.gw_time.specs.declared.binary_time.BinaryTime.{BinaryTime}
use Rattle.gw_time.specs.Tag.{civil_year, time_of_day, civil_milliseconds}
use Rattle.gw_model.specs.Clocks.{Clocks, is_summer, minutes_ahead, shown_at}
use Rattle.gw_time.specs.Window.{IsFrom2000To2099}
use Rattle.gw_time.specs.Spelling.{numbers_at}
use Rattle.gw_time.proofs.Calendar.{from_2000, before_2100}
use Rattle.gw_time.specs.Laws.{AreStationClocks}
use Rattle.gw_time.proofs.Century.{IsShown, shown_in_window, window_is_of_years}
use Rattle.gw_time.proofs.Parts.{minutes_within}
use Rattle.gw_time.proofs.Months.{numbers_are}
use Rattle.gw_time.proofs.Spelled.{numbers}

-- ---- whole milliseconds

milliseconds_of : (z day : ℤ) (nanos : ℕ) → day *ℤ pos 86_400_000_000_000 +ℤ pos nanos ≡ z *ℤ pos 1_000_000
    → z ≡ day *ℤ pos 86_400_000 +ℤ pos (nanos / 1_000_000)
milliseconds_of z day nanos e = omega (arith, signed_arith)

-- a civil time by its day and the milliseconds since midnight
civil_parts : (dt : DateTime) (z : ℤ) → civil_nanos dt ≡ z *ℤ pos 1_000_000
    → z ≡ epoch_day dt.date *ℤ pos 86_400_000 +ℤ pos (time_nanos dt.time / 1_000_000)
civil_parts dt z e = milliseconds_of z (epoch_day dt.date) (time_nanos dt.time) (sym (civil_nanos-parts dt) ∙ e)

time_bound : (dt : DateTime) → time_nanos dt.time / 1_000_000 < 86_400_000
time_bound dt = omega (arith, time_nanos_bound dt.time)

-- the window by the year that the clocks show
pub window_is_of_shown : (clocks : Clocks) (t : ℕ) (dt : DateTime) → civil_nanos dt ≡ shown_at clocks t *ℤ pos 1_000_000
    → IsFrom2000To2099 clocks t ↔ IsBetween (pos 2000) (pos 2099) dt.date.year
window_is_of_shown clocks t dt e =
    window_is_of_years clocks t dt.date.year dt.date.month dt.date.day (time_nanos dt.time / 1_000_000) (civil dt.date)
    (time_bound dt) (civil_parts dt (shown_at clocks t) e)

-- what clocks show, in nanoseconds
nanos_ahead : (t : ℕ) (minutes seconds instant shown : ℤ) → instant ≡ pos (t * 1_000_000)
    → seconds ≡ pos 60 *ℤ minutes → shown ≡ instant +ℤ nanos_of_seconds seconds
    → shown ≡ (pos t +ℤ (pos 60000 *ℤ minutes)) *ℤ pos 1_000_000
nanos_ahead t minutes seconds instant shown e f g = omega (arith, signed_arith)

pub shown_nanos : (clocks : Clocks) (t : ℕ) (summer : Bool) (seconds instant shown : ℤ) → instant ≡ pos (t * 1_000_000)
    → summer ≡ is_summer clocks t → seconds ≡ pos 60 *ℤ minutes_ahead clocks summer
    → shown ≡ instant +ℤ nanos_of_seconds seconds
    → shown ≡ shown_at clocks t *ℤ pos 1_000_000
shown_nanos clocks t summer seconds instant shown e f g h =
    nanos_ahead t (minutes_ahead clocks (is_summer clocks t)) seconds instant shown e
    (g ∙ ap (λ (b : Bool). pos 60 *ℤ minutes_ahead clocks b) f) h

-- in the window of years no instant is after the last one that has a timestamp
not_beyond : (t : ℕ) (minutes : ℤ) → negsuc 839 ≤ℤ minutes → IsShown (pos t +ℤ (pos 60000 *ℤ minutes))
    → t ≤ 253_402_207_200_999
not_beyond t minutes from h = let high = h.high in omega (arith, signed_arith)

pub shown_has_timestamp : (clocks : Clocks) (t : ℕ) → AreStationClocks clocks → IsFrom2000To2099 clocks t
    → t ≤ 253_402_207_200_999
shown_has_timestamp clocks t o h =
    not_beyond t (minutes_ahead clocks (is_summer clocks t)) (minutes_within clocks (is_summer clocks t) o).0
    (shown_in_window clocks t h)

-- ---- a civil time as an instant

nanos_between : (day : ℤ) (nanos : ℕ) → nanos < 86_400_000_000_000 → pos 10957 ≤ℤ day → day <ℤ pos 47482
    → (pos 946_684_800_000_000_000 ≤ℤ (day *ℤ pos 86_400_000_000_000 +ℤ pos nanos))
    × ((day *ℤ pos 86_400_000_000_000 +ℤ pos nanos) <ℤ pos 4_102_444_800_000_000_000)
nanos_between day nanos lt low high = (omega (arith, signed_arith), omega (arith, signed_arith))

-- the nanoseconds of the years 2000 to 2099
pub record IsInCentury (z : ℤ) : Type 0 where
  pub low : pos 946_684_800_000_000_000 ≤ℤ z
  pub high : z <ℤ pos 4_102_444_800_000_000_000

pub nanos_in_century : (dt : DateTime) → pos 2000 ≤ℤ dt.date.year → dt.date.year ≤ℤ pos 2099
    → IsInCentury (civil_nanos dt)
nanos_in_century dt low high =
    let d = dt.date in
    let day_low = from_2000 d.year d.month d.day low d.day_in.0 in
    let day_high = before_2100 d.year d.month d.day (civil d) high in
    let b = nanos_between (epoch_day d) (time_nanos dt.time) (time_nanos_bound dt.time) day_low day_high in
    record { low = rw (civil_nanos-parts dt) b.0; high = rw (civil_nanos-parts dt) b.1 }

-- an instant in nanoseconds, where clocks are at most 840 minutes behind UTC and 900 ahead of it
pub record IsNear (z offset instant : ℤ) : Type 0 where
  pub from : negsuc 839 ≤ℤ offset
  pub to : offset ≤ℤ pos 900
  pub is : instant ≡ z -ℤ (pos 60_000_000_000 *ℤ offset)

pub timestamp_range : (z offset instant : ℤ) → IsInCentury z → IsNear z offset instant → IsTimestampNanos instant
timestamp_range z offset instant h n =
    let low = h.low in
    let high = h.high in
    let from = n.from in
    let to = n.to in
    let is = n.is in
    (omega (arith, signed_arith), omega (arith, signed_arith))

quotient : (a : ℤ) → pos 0 ≤ℤ a → a <ℤ pos 5_000_000_000_000_000_000
    → (pos 0 ≤ℤ int_div a (pos 1_000_000)) × (int_div a (pos 1_000_000) <ℤ pos 5_000_000_000_000)
quotient a low high = let one = one_part a in (omega (arith, signed_arith), omega (arith, signed_arith))

pub millisecond_range : (z offset instant : ℤ) → IsInCentury z → IsNear z offset instant
    → (pos 0 ≤ℤ int_div instant (pos 1_000_000)) × (int_div instant (pos 1_000_000) <ℤ pos 5_000_000_000_000)
millisecond_range z offset instant h n =
    let low = h.low in
    let high = h.high in
    let from = n.from in
    let to = n.to in
    let is = n.is in
    quotient instant (omega (arith, signed_arith)) (omega (arith, signed_arith))

exact : (a b : ℤ) → pos 0 ≤ℤ a → a ≡ b *ℤ pos 1_000_000 → int_div a (pos 1_000_000) ≡ b
exact a b low e = let one = one_part a in omega (arith, signed_arith)

-- the same in milliseconds, where they are whole
pub whole_millisecond : (z offset instant m : ℤ) → IsInCentury z → IsNear z offset instant → z ≡ m *ℤ pos 1_000_000
    → int_div instant (pos 1_000_000) ≡ m -ℤ (pos 60000 *ℤ offset)
whole_millisecond z offset instant m h n e =
    let low = h.low in
    let to = n.to in
    let is = n.is in
    exact instant (m -ℤ (pos 60000 *ℤ offset)) (omega (arith, signed_arith)) (omega (arith, signed_arith))

-- ---- the numbers of a tag

civil_of_parts : (day z : ℤ) (n time : ℕ) → z ≡ day *ℤ pos 86_400_000_000_000 +ℤ pos n → n ≡ time * 1_000_000
    → z ≡ (day *ℤ pos 86_400_000 +ℤ pos time) *ℤ pos 1_000_000
civil_of_parts day z n time e f = omega (arith, signed_arith)

same_day : (y y₂ : ℤ) (m m₂ d d₂ : ℕ) → y ≡ y₂ → m ≡ m₂ → d ≡ d₂ → days_from_civil y m d ≡ days_from_civil y₂ m₂ d₂
same_day y y₂ m m₂ d d₂ e f g = cc

-- the civil time of a date and a time of day with the numbers
pub civil_is : (x : BinaryTime) (dt : DateTime) → IsYmd (civil_year x) (pos x.month) (pos x.day) dt.date
    → time_nanos dt.time ≡ time_of_day x * 1_000_000 → civil_nanos dt ≡ civil_milliseconds x *ℤ pos 1_000_000
civil_is x dt date time =
    let d = dt.date in
    let month : d.month ≡ x.month = omega (arith, signed_arith, date.1) in
    let day : d.day ≡ x.day = omega (arith, signed_arith, date.2) in
    let days : epoch_day d ≡ days_from_civil (civil_year x) x.month x.day = same_day _ _ _ _ _ _ date.0 month day in
    civil_of_parts (days_from_civil (civil_year x) x.month x.day) (civil_nanos dt) (time_nanos dt.time) (time_of_day x)
    (civil_nanos-parts dt ∙ ap (λ (k : ℤ). k *ℤ pos 86_400_000_000_000 +ℤ pos (time_nanos dt.time)) days) time

-- the parts of a time of day by the milliseconds of a clock
time_parts : (n day hour minute second subsec : ℕ) → hour < 24 → minute < 60 → second < 60 → subsec < 1_000_000_000
    → n ≡ day * 86_400_000 + (((hour * 3600 + minute * 60 + second) * 1_000_000_000 + subsec) / 1_000_000)
    → (second * 1000 + subsec / 1_000_000 ≡ n % 60000) × (minute ≡ n / 60000 % 60) × (hour ≡ n / 3600000 % 24)
    × (day ≡ n / 86_400_000)
time_parts n day hour minute second subsec h m s k e = (omega arith, omega arith, omega arith, omega arith)

-- the day of a civil time since 1970
record Day (z : ℤ) : Type 0 where
  day : ℕ
  is : z ≡ pos day

day_of : (z : ℤ) → pos 0 ≤ℤ z → Day z
day_of (pos n) low = record { day = n; is = refl }
day_of (negsuc n) low = absurd (omega (arith, signed_arith))

natural : (n : ℕ) (z : ℤ) (day time : ℕ) → pos n ≡ z *ℤ pos 86_400_000 +ℤ pos time → z ≡ pos day
    → n ≡ day * 86_400_000 + time
natural n z day time e f = omega (arith, signed_arith)

century_of : (n : ℕ) → IsInCentury (pos n *ℤ pos 1_000_000) → (946684800000 ≤ n) × (n < 4102444800000)
century_of n h =
    let low = h.low in
    let high = h.high in
    (omega (arith, signed_arith), omega (arith, signed_arith))

-- the numbers are those of a civil time of the years 2000 to 2099
pub record HasNumbers (dt : DateTime) (x : BinaryTime) : Type 0 where
  pub milliseconds : x.milliseconds ≡ dt.time.second * 1000 + dt.time.subsec_nanosecond / 1_000_000
  pub minute : x.minute ≡ dt.time.minute
  pub hour : x.hour ≡ dt.time.hour
  pub day : x.day ≡ dt.date.day
  pub month : x.month ≡ dt.date.month
  pub year : pos (2000 + x.year) ≡ dt.date.year
  pub low : pos 2000 ≤ℤ dt.date.year
  pub high : dt.date.year ≤ℤ pos 2099

equal_numbers : (invalid summer : Bool) (a a₂ b b₂ c c₂ d d₂ e e₂ f : ℕ) → a ≡ a₂ → b ≡ b₂ → c ≡ c₂ → d ≡ d₂ → e ≡ e₂
    → numbers invalid summer a b c d e f ≡ numbers invalid summer a₂ b₂ c₂ d₂ e₂ f
equal_numbers invalid summer a a₂ b b₂ c c₂ d d₂ e e₂ f h i j k l = cc

-- they are those of a clock that shows its milliseconds
pub numbers_shown : (dt : DateTime) (x : BinaryTime) (n : ℕ) → HasNumbers dt x → civil_nanos dt ≡ pos n *ℤ pos 1_000_000
    → numbers x.invalid x.summer x.milliseconds x.minute x.hour x.day x.month x.year
    ≡ numbers_at x.invalid x.summer n
numbers_shown dt x n h e =
    let d = dt.date in
    let t = dt.time in
    let low = from_2000 d.year d.month d.day h.low d.day_in.0 in
    let k = day_of (epoch_day d) (omega (arith, signed_arith)) in
    let count = natural n (epoch_day d) k.day (time_nanos t / 1_000_000) (civil_parts dt (pos n) e) k.is in
    let p =
    time_parts n k.day t.hour t.minute t.second t.subsec_nanosecond t.hour_in t.minute_in t.second_in t.subsec_in
    count in
    let b = century_of n (rw (← e) (nanos_in_century dt h.low h.high)) in
    let date = numbers_are x.invalid x.summer n x.year d b.0 b.1 (k.is ∙ ap (λ (i : ℕ). pos i) p.3) h.year in
    equal_numbers x.invalid x.summer _ _ _ _ _ _ _ _ _ _ x.year (h.milliseconds ∙ p.0) (h.minute ∙ p.1)
    (h.hour ∙ p.2) h.day h.month
    ∙ date
