-- What the tag of a stamp means, and which stamps have one.
use Rattle.std.proofs.Common.{◌≡◌, ◌↔◌, ℕ, zero, suc, [], ◌∷◌, slice_index, ◌+◌, ◌-◌, ◌*◌}
use Rattle.std.proofs.Common.{◌/◌, ◌%◌, ◌<◌, ◌≤◌, Bool, true, false, cond, ◌&&◌, ◌==◌, List, refl}
use Rattle.std.proofs.Common.{ap, sym, ◌∙◌, arith, ℤ, pos, negsuc, ◌+ℤ◌, ◌-ℤ◌, ◌*ℤ◌, Option, Some}
use Rattle.std.proofs.Common.{None, Ok, is_some, IsSome, IsSomeAnd, IfSome, ◌⊎◌, inl, inr}
use Rattle.std.specs.Prelude.{unsigned_abs}
use Rattle.std.proofs.lemmas.Bool.Decides.{nat_tests}
use Rattle.std.proofs.lemmas.Bool.{false≢true}
use Rattle.std.proofs.lemmas.Int.{by_lt_z}
use Rattle.jiff_core.specs.Calendar.{days_from_civil}
use Rattle.jiff_core.proofs.CalendarLemmas.{days_in_month_bounds}
use Rattle.jiff_core.proofs.SignedLemmas.{signed_arith, one_part}
use Rattle.gw_model.specs.declared.point.Stamp.{Stamp}
use Rattle.gw_model.specs.declared.point.Stamp.TheVariants.{Untimed, At, Doubtful}
use Rattle.gw_time.specs.declared.binary_time.BinaryTime.{BinaryTime}
use Rattle.gw_model.specs.Clocks.{Clocks, tells_summer, is_summer_by, is_summer, minutes_ahead, shown_at}
use Rattle.gw_time.specs.Tag.{numbers_in, is_in_range, has_day, civil_year, time_of_day, civil_milliseconds}
use Rattle.gw_time.specs.Tag.{stamp_of, is_of_summer, instant_of, time_meaning, tag_meaning, kept_summer, plain}
use Rattle.gw_time.specs.Window.{HasTag, IsFrom2000To2099}
use Rattle.gw_time.specs.Spelling.{date_after, numbers_at, octets_of, tag_showing, tag_of}
use Rattle.gw_time.specs.Laws.{AreSevenOctets, IsByTheClocks}
use Rattle.gw_time.proofs.Calendar.{year_before_2100}
use Rattle.gw_time.proofs.Century.{IsShown, window_of_shown, shown_in_window}
use Rattle.gw_time.proofs.Parts.{IsCivilTime, result_of}
use Rattle.gw_time.proofs.Months.{IsDay, day_after, same_number, outside, inside}

-- ---- the numbers at a time of the years 2000 to 2099

pub record IsNumbers (shown : ℕ) (x : BinaryTime) : Type 0 where
  pub civil : IsCivilTime x
  pub day : x.day < 32
  pub is : civil_milliseconds x ≡ pos shown

civil_days : (shown : ℕ) (x : BinaryTime) → 946684800000 ≤ shown
    → days_from_civil (civil_year x) x.month x.day ≡ pos (shown / 86400000) → time_of_day x ≡ shown % 86400000
    → civil_milliseconds x ≡ pos shown
civil_days shown x low e f = omega (arith, signed_arith, e, f)

parts_of_day : (shown : ℕ)
    → (shown / 3600000 % 24) * 3600000 + (shown / 60000 % 60) * 60000 + shown % 60000 ≡ shown % 86400000
parts_of_day shown = omega arith

pub numbers_of : (invalid summer : Bool) (shown : ℕ) → 946684800000 ≤ shown → shown < 4102444800000
    → IsNumbers shown (numbers_at invalid summer shown)
numbers_of invalid summer shown low high =
    let k = shown / 86400000 - 10957 in
    let after = date_after 1200 0 1 k in
    let d : IsDay (4_382_910 + k) after = day_after k (omega arith) in
    let number : days_from_civil (pos (2000 + after.0)) after.1 after.2 ≡ pos (shown / 86400000) =
    same_number _ _ _ k d.days ∙ ap (λ (n : ℕ). pos n) (omega arith) in
    let bounds = days_in_month_bounds (pos (2000 + after.0)) after.1 in
    record {
      civil = record {
        milliseconds = omega arith;
        minute = omega arith;
        hour = omega arith;
        year = omega (
          arith,
          signed_arith,
          year_before_2100 (pos (2000 + after.0)) after.1 after.2 d.civil (rw number (omega (arith, signed_arith))),
        );
        date = d.civil;
      };
      day = omega (arith, d.civil);
      is = civil_days shown (numbers_at invalid summer shown) low number (parts_of_day shown);
    }

-- ---- the numbers in their octets

abbrev pub numbers : Bool → Bool → ℕ → ℕ → ℕ → ℕ → ℕ → ℕ → BinaryTime
numbers invalid summer ms minute hour day month year = record {
  milliseconds = ms;
  minute = minute;
  invalid = invalid;
  summer = summer;
  hour = hour;
  day = day;
  month = month;
  year = year;
}

-- a bit 7 above what is smaller
record IsBitAbove (bit : Bool) (low : ℕ) : Type 0 where
  rest64 : low < 64 → (low + cond bit 128 0) % 64 ≡ low
  rest32 : low < 32 → (low + cond bit 128 0) % 32 ≡ low
  above : low < 64 → ((low + cond bit 128 0) / 128 % 2 == 1) ≡ bit
  octet : low < 64 → low + cond bit 128 0 < 256
  kept : low < 64 → (low + cond bit 128 0) / 128 * 128 ≡ cond bit 128 0

bit_above : (bit : Bool) (low : ℕ) → IsBitAbove bit low
bit_above true low = record {
  rest64 = λ h. omega arith;
  rest32 = λ h. omega arith;
  above = λ h. let one : (low + 128) / 128 % 2 ≡ 1 = omega arith in ap (λ (n : ℕ). n == 1) one;
  octet = λ h. omega arith;
  kept = λ h. omega arith;
}
bit_above false low = record {
  rest64 = λ h. omega arith;
  rest32 = λ h. omega arith;
  above = λ h. let none : (low + 0) / 128 % 2 ≡ 0 = omega arith in ap (λ (n : ℕ). n == 1) none;
  octet = λ h. omega arith;
  kept = λ h. omega arith;
}

same_all : (invalid invalid₂ summer summer₂ : Bool) (ms ms₂ minute minute₂ hour hour₂ day day₂ month month₂ year year₂ : ℕ)
    → invalid ≡ invalid₂ → summer ≡ summer₂ → ms ≡ ms₂ → minute ≡ minute₂ → hour ≡ hour₂ → day ≡ day₂ → month ≡ month₂
    → year ≡ year₂
    → numbers invalid summer ms minute hour day month year ≡ numbers invalid₂ summer₂ ms₂ minute₂ hour₂ day₂ month₂ year₂
same_all invalid invalid₂ summer summer₂ ms ms₂ minute minute₂ hour hour₂ day day₂ month month₂ year year₂ a b c d e f g h =
    cc

read_again : (invalid summer : Bool) (ms minute hour day month year : ℕ) → ms < 65536 → minute < 60 → hour < 24 → day < 32
    → month < 16 → year < 100
    → numbers_in (octets_of (numbers invalid summer ms minute hour day month year))
    ≡ numbers invalid summer ms minute hour day month year
read_again invalid summer ms minute hour day month year a b c d e f =
    let m = bit_above invalid minute in
    let h = bit_above summer hour in
    same_all _ _ _ _ _ _ _ _ _ _ _ _ _ _ _ _ (m.above (omega arith)) (h.above (omega arith)) (omega arith)
    (m.rest64 (omega arith)) (h.rest32 (omega arith)) (omega arith) (omega arith) (omega arith)

same_octet_lists : (a b c d e f g a₂ b₂ c₂ d₂ e₂ f₂ g₂ : ℕ) → a ≡ a₂ → b ≡ b₂ → c ≡ c₂ → d ≡ d₂ → e ≡ e₂ → f ≡ f₂
    → g ≡ g₂ → (a ∷ b ∷ c ∷ d ∷ e ∷ f ∷ g ∷ []) ≡ (a₂ ∷ b₂ ∷ c₂ ∷ d₂ ∷ e₂ ∷ f₂ ∷ g₂ ∷ [])
same_octet_lists a b c d e f g a₂ b₂ c₂ d₂ e₂ f₂ g₂ i j k l m n o = cc

-- SU is kept where the clocks tell summer time, and else it is 0
summer_kept : (tells summer : Bool) (hour : ℕ) → hour < 24 → (tells && summer) ≡ summer
    → kept_summer tells (hour + cond summer 128 0) + (hour + cond summer 128 0) % 32 ≡ hour + cond summer 128 0
summer_kept true true hour lt e = omega arith
summer_kept true false hour lt e = omega arith
summer_kept false true hour lt e = absurd (false≢true e)
summer_kept false false hour lt e = omega arith

minute_kept : (invalid : Bool) (minute : ℕ) → minute < 60
    → (minute + cond invalid 128 0) / 128 * 128 + (minute + cond invalid 128 0) % 64 ≡ minute + cond invalid 128 0
minute_kept true minute lt = omega arith
minute_kept false minute lt = omega arith

none_left_out : (clocks : Clocks) (invalid summer : Bool) (ms minute hour day month year : ℕ) → ms < 65536 → minute < 60
    → hour < 24 → day < 32 → month < 16 → year < 100 → (tells_summer clocks && summer) ≡ summer
    → plain clocks (octets_of (numbers invalid summer ms minute hour day month year))
    ≡ octets_of (numbers invalid summer ms minute hour day month year)
none_left_out clocks invalid summer ms minute hour day month year a b c d e f told =
    same_octet_lists _ _ _ _ _ _ _ _ _ _ _ _ _ _ refl refl (minute_kept invalid minute b)
    (summer_kept (tells_summer clocks) summer hour c told) (omega arith) (omega arith) (omega arith)

record AreOctets (xs : List ℕ) : Type 0 where
  octet : (k : ℕ) → slice_index xs k < 256

octet_at : (x : ℕ) (xs : List ℕ) → x < 256 → AreOctets xs → (k : ℕ) → slice_index (x ∷ xs) k < 256
octet_at x xs lt others zero = lt
octet_at x xs lt others (suc k) = others.octet k

no_octet : (k : ℕ) → slice_index [] k < 256
no_octet zero = omega arith
no_octet (suc k) = omega arith

no_more : AreOctets []
no_more = record { octet = no_octet }

one_more : (x : ℕ) (xs : List ℕ) → x < 256 → AreOctets xs → AreOctets (x ∷ xs)
one_more x xs lt others = record { octet = octet_at x xs lt others }

seven_octets : (invalid summer : Bool) (ms minute hour day month year : ℕ) → minute < 60 → hour < 24 → day < 32
    → month < 16 → year < 100
    → AreSevenOctets (octets_of (numbers invalid summer ms minute hour day month year))
seven_octets invalid summer ms minute hour day month year b c d e f = record {
  seven = refl;
  octet = octet_at (ms % 256) _ (omega arith)
      (one_more (ms / 256 % 256) _ (omega arith) (one_more _ _ ((bit_above invalid minute).octet (omega arith))
      (one_more _ _ ((bit_above summer hour).octet (omega arith))
      (one_more day _ (omega arith) (one_more month _ (omega arith) (one_more year _ (omega arith) no_more))))));
}

-- ---- the tag of an instant

pub record IsTagOf (clocks : Clocks) (stamp : Stamp) (tag : List ℕ) : Type 0 where
  pub meant : tag_meaning clocks tag ≡ Ok stamp
  pub seven : AreSevenOctets tag
  pub plain : plain clocks tag ≡ tag
  pub by_the_clocks : IsByTheClocks clocks tag

passed : (a b : Bool) (s t : Stamp) → a ≡ true → b ≡ true → s ≡ t → result_of a b s ≡ Ok t
passed true true s t e f g = cc
passed true false s t e f g = absurd cc
passed false b s t e f g = absurd cc

in_range : (x : BinaryTime) → IsCivilTime x → is_in_range x ≡ true
in_range x h =
    let month = h.date.1 in
    grind (arith, nat_tests, month.0, month.1)

with_day : (x : BinaryTime) → IsCivilTime x → has_day x ≡ true
with_day x h =
    let day = h.date.2 in
    grind (arith, nat_tests, day.0, day.1)

-- summer time is shown only by clocks that tell it
told_by : (summer : Option (ℕ → Bool)) (t : ℕ) → (is_some summer && is_summer_by summer t) ≡ is_summer_by summer t
told_by None t = refl
told_by (Some is_summer) t = refl

told : (clocks : Clocks) (t : ℕ) → (tells_summer clocks && is_summer clocks t) ≡ is_summer clocks t
told clocks t = told_by clocks.summer t

back : (minutes z : ℤ) (t : ℕ) → z ≡ pos t +ℤ (pos 60000 *ℤ minutes)
    → unsigned_abs (z -ℤ (pos 60000 *ℤ minutes)) ≡ t
back minutes z t e = let one = one_part (z -ℤ (pos 60000 *ℤ minutes)) in omega (arith, signed_arith, e)

same_instant : (clocks : Clocks) (x : BinaryTime) (t : ℕ) → civil_milliseconds x ≡ shown_at clocks t
    → is_of_summer clocks x ≡ is_summer clocks t → instant_of clocks x ≡ t
same_instant clocks x t e summer =
    ap (λ (b : Bool). unsigned_abs (civil_milliseconds x -ℤ (pos 60000 *ℤ minutes_ahead clocks b))) summer
    ∙ back (minutes_ahead clocks (is_summer clocks t)) (civil_milliseconds x) t e

means : (clocks : Clocks) (x : BinaryTime) (t : ℕ) → IsCivilTime x → civil_milliseconds x ≡ shown_at clocks t
    → is_of_summer clocks x ≡ is_summer clocks t → numbers_in (octets_of x) ≡ x
    → tag_meaning clocks (octets_of x) ≡ Ok (stamp_of x.invalid t)
unfolding tag_meaning
means clocks x t h e summer again =
    ap (time_meaning clocks) again ∙ passed (is_in_range x) (has_day x) _ _ (in_range x h) (with_day x h)
    (ap (stamp_of x.invalid) (same_instant clocks x t e summer))

by_the_clocks : (clocks : Clocks) (x : BinaryTime) (t : ℕ) → civil_milliseconds x ≡ shown_at clocks t
    → is_of_summer clocks x ≡ is_summer clocks t → numbers_in (octets_of x) ≡ x → IsByTheClocks clocks (octets_of x)
by_the_clocks clocks x t e summer again = record {
  summer = ap (is_of_summer clocks) again ∙ summer ∙ sym (ap (λ (y : BinaryTime). is_summer clocks (instant_of clocks y)) again
      ∙ ap (is_summer clocks) (same_instant clocks x t e summer));
}

is_tag : (clocks : Clocks) (invalid : Bool) (t n : ℕ) → pos n ≡ shown_at clocks t → 946684800000 ≤ n → n < 4102444800000
    → IsTagOf clocks (stamp_of invalid t) (octets_of (numbers_at invalid (is_summer clocks t) n))
is_tag clocks invalid t n e low high =
    let summer = is_summer clocks t in
    let x = numbers_at invalid summer n in
    let h = numbers_of invalid summer n low high in
    let month : x.month < 16 = omega (arith, h.civil.date) in
    let again = read_again invalid summer x.milliseconds x.minute x.hour x.day x.month x.year
    (omega (arith, h.civil.milliseconds)) h.civil.minute h.civil.hour h.day month h.civil.year in
    record {
      meant = means clocks x t h.civil (h.is ∙ e) (told clocks t) again;
      seven = seven_octets invalid summer x.milliseconds x.minute x.hour x.day x.month x.year h.civil.minute h.civil.hour
          h.day month h.civil.year;
      plain = none_left_out clocks invalid summer x.milliseconds x.minute x.hour x.day x.month x.year
          (omega (arith, h.civil.milliseconds)) h.civil.minute h.civil.hour h.day month h.civil.year (told clocks t);
      by_the_clocks = by_the_clocks clocks x t (h.is ∙ e) (told clocks t) again;
    }

-- ---- the tag of a stamp

-- what a clock shows in these years, as a number
record Number (z : ℤ) : Type 0 where
  n : ℕ
  is : pos n ≡ z
  low : 946684800000 ≤ n
  high : n < 4102444800000

number_of : (z : ℤ) → IsShown z → Number z
number_of (pos n) h =
    let low = h.low in
    let high = h.high in
    record { n = n; is = refl; low = omega (arith, signed_arith); high = omega (arith, signed_arith) }
number_of (negsuc n) h = let low = h.low in absurd (omega (arith, signed_arith))

-- a stamp in the window has a tag
pub tag_in_window : (clocks : Clocks) (invalid : Bool) (t : ℕ) → IsFrom2000To2099 clocks t
    → IsSomeAnd (tag_showing invalid (is_summer clocks t) (shown_at clocks t)) (IsTagOf clocks (stamp_of invalid t))
tag_in_window clocks invalid t h =
    let m = number_of (shown_at clocks t) (shown_in_window clocks t h) in
    rw (inside invalid (is_summer clocks t) (shown_at clocks t) m.n m.is m.low m.high) (is_tag clocks invalid t m.n m.is m.low m.high)

-- what a clock shows is in these years, or it isn't
cases_shown : (z : ℤ) → IsShown z ⊎ (IsShown z → ⊥)
cases_shown z =
    by_lt_z z (pos 946684800000) (λ lt. inr (λ h. let low = h.low in absurd (omega (arith, signed_arith)))) (λ low.
    by_lt_z z (pos 4102444800000) (λ lt. inl (record { low = low; high = lt }))
    (λ ge. inr (λ h. let high = h.high in absurd (omega (arith, signed_arith)))))

some_of : (o : Option (List ℕ)) (P : List ℕ → Type 0) → IsSomeAnd o P → IsSome o
some_of None P h = absurd h
some_of (Some tag) P h = refl

if_some : (o : Option (List ℕ)) (P : List ℕ → Type 0) → IsSomeAnd o P → IfSome o P
if_some None P h = tt
if_some (Some tag) P h = h

-- one before 2000 or from 2100 on has none
tag_is_in_window : (clocks : Clocks) (invalid : Bool) (t : ℕ) → IsSome (tag_showing invalid (is_summer clocks t) (shown_at clocks t))
    → IsFrom2000To2099 clocks t
tag_is_in_window clocks invalid t some =
    elim (cases_shown (shown_at clocks t)) [
      | inl h ↦ window_of_shown clocks t h
      | inr none ↦ let e = outside invalid (is_summer clocks t) (shown_at clocks t) none in absurd (false≢true (rw e at some))
    ]

pub window_of_tag : (clocks : Clocks) (stamp : Stamp) → IsSome (tag_of clocks stamp) ↔ HasTag clocks stamp
window_of_tag clocks Untimed = (λ h. absurd (false≢true h), λ h. absurd h)
window_of_tag clocks (At t) = (
  λ h. tag_is_in_window clocks false t h,
  λ h. some_of (tag_showing false (is_summer clocks t) (shown_at clocks t)) (IsTagOf clocks (At t)) (tag_in_window clocks false t h),
)
window_of_tag clocks (Doubtful t) = (
  λ h. tag_is_in_window clocks true t h,
  λ h. some_of (tag_showing true (is_summer clocks t) (shown_at clocks t)) (IsTagOf clocks (Doubtful t)) (tag_in_window clocks true t h),
)

showing_is : (clocks : Clocks) (invalid : Bool) (t : ℕ)
    → IfSome (tag_showing invalid (is_summer clocks t) (shown_at clocks t)) (IsTagOf clocks (stamp_of invalid t))
showing_is clocks invalid t =
    elim (cases_shown (shown_at clocks t)) [
      | inl h ↦ if_some (tag_showing invalid (is_summer clocks t) (shown_at clocks t)) (IsTagOf clocks (stamp_of invalid t))
          (tag_in_window clocks invalid t (window_of_shown clocks t h))
      | inr none ↦ rw (outside invalid (is_summer clocks t) (shown_at clocks t) none) tt
    ]

-- what the tag of a stamp is
pub tag_is : (clocks : Clocks) (stamp : Stamp) → IfSome (tag_of clocks stamp) (IsTagOf clocks stamp)
tag_is clocks Untimed = tt
tag_is clocks (At t) = showing_is clocks false t
tag_is clocks (Doubtful t) = showing_is clocks true t

part : (o : Option (List ℕ)) (P Q : List ℕ → Type 0) → ((tag : List ℕ) → P tag → Q tag) → IfSome o P → IfSome o Q
part None P Q f h = tt
part (Some tag) P Q f h = f tag h

pub tag_means : (clocks : Clocks) (stamp : Stamp) → IfSome (tag_of clocks stamp) (λ tag. tag_meaning clocks tag ≡ Ok stamp)
tag_means clocks stamp = part (tag_of clocks stamp) (IsTagOf clocks stamp) (λ tag. tag_meaning clocks tag ≡ Ok stamp)
    (λ tag h. h.meant) (tag_is clocks stamp)

pub tag_has_seven : (clocks : Clocks) (stamp : Stamp) → IfSome (tag_of clocks stamp) AreSevenOctets
tag_has_seven clocks stamp =
    part (tag_of clocks stamp) (IsTagOf clocks stamp) AreSevenOctets (λ tag h. h.seven) (tag_is clocks stamp)

pub tag_is_plain : (clocks : Clocks) (stamp : Stamp) → IfSome (tag_of clocks stamp) (λ tag. plain clocks tag ≡ tag)
tag_is_plain clocks stamp =
    part (tag_of clocks stamp) (IsTagOf clocks stamp) (λ tag. plain clocks tag ≡ tag) (λ tag h. h.plain) (tag_is clocks stamp)

pub tag_is_by_the_clocks : (clocks : Clocks) (stamp : Stamp) → IfSome (tag_of clocks stamp) (IsByTheClocks clocks)
tag_is_by_the_clocks clocks stamp =
    part (tag_of clocks stamp) (IsTagOf clocks stamp) (IsByTheClocks clocks) (λ tag h. h.by_the_clocks)
    (tag_is clocks stamp)

-- ---- whether there is one

same_test : (a b : Bool) (P : Type 0) → (a ≡ true ↔ P) → (b ≡ true ↔ P) → a ≡ b
same_test true true P f g = refl
same_test true false P f g = sym (g.1 (f.0 refl))
same_test false true P f g = f.1 (g.0 refl)
same_test false false P f g = refl

-- a test that is passed exactly in the window is whether there is a tag
pub has_tag-test : (clocks : Clocks) (t : ℕ) (test : Bool) → (test ≡ true ↔ IsFrom2000To2099 clocks t) → (invalid : Bool)
    → test ≡ is_some (tag_showing invalid (is_summer clocks t) (shown_at clocks t))
has_tag-test clocks t test window false =
    same_test test (is_some (tag_of clocks (At t))) (IsFrom2000To2099 clocks t) window (window_of_tag clocks (At t))
has_tag-test clocks t test window true =
    same_test test (is_some (tag_of clocks (Doubtful t))) (IsFrom2000To2099 clocks t) window
    (window_of_tag clocks (Doubtful t))

-- ---- what is written and what is read

-- the tag in the window has the numbers of what clocks show
pub tag_of_numbers : (clocks : Clocks) (invalid : Bool) (t : ℕ) (x : BinaryTime) → IsFrom2000To2099 clocks t
    → ((n : ℕ) → pos n ≡ shown_at clocks t → x ≡ numbers_at invalid (is_summer clocks t) n)
    → Some (octets_of x) ≡ tag_showing invalid (is_summer clocks t) (shown_at clocks t)
tag_of_numbers clocks invalid t x h numbers =
    let m = number_of (shown_at clocks t) (shown_in_window clocks t h) in
    ap (λ (y : BinaryTime). Some (octets_of y)) (numbers m.n m.is)
    ∙ sym (inside invalid (is_summer clocks t) (shown_at clocks t) m.n m.is m.low m.high)

-- what octets mean whose numbers are those of a civil time
pub meaning_of_numbers : (clocks : Clocks) (octets : List ℕ) (x : BinaryTime) (invalid : Bool) (t : ℕ)
    → x ≡ numbers_in octets
    → is_in_range x ≡ true → has_day x ≡ true → x.invalid ≡ invalid → t ≡ instant_of clocks x
    → Ok (stamp_of invalid t) ≡ tag_meaning clocks octets
unfolding tag_meaning
meaning_of_numbers clocks octets x invalid t e range day iv f =
    let same = ap (λ (b : Bool). stamp_of b (instant_of clocks x)) iv ∙ ap (stamp_of invalid) (sym f) in
    sym (passed (is_in_range x) (has_day x) _ _ range day same) ∙ ap (time_meaning clocks) e
