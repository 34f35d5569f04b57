-- The years 2000 to 2099 in milliseconds.
use Rattle.std.proofs.Common.{◌≡◌, ◌≢◌, ◌↔◌, ℕ, ◌<◌, ◌+ℤ◌}
use Rattle.std.proofs.Common.{◌*ℤ◌, arith, refl, ℤ, pos, ◌<ℤ◌, ◌≤ℤ◌}
use Rattle.jiff_core.specs.Calendar.{IsBetween, IsCivilDate, days_from_civil}
use Rattle.jiff_core.proofs.SignedLemmas.{signed_arith}
use Rattle.jiff_core.proofs.CalendarLemmas.{days_from_civil-day_count}
use Rattle.gw_model.specs.declared.point.Stamp.{Stamp}
use Rattle.gw_model.specs.declared.point.Stamp.TheVariants.{Untimed, At, Doubtful}
use Rattle.gw_model.specs.Fit.{IsIn21stCentury, IsInWindow}
use Rattle.gw_time.specs.Tag.{midnight}
use Rattle.gw_model.specs.Clocks.{Clocks, shown_at}
use Rattle.gw_time.specs.Window.{HasTag, IsFrom2000To2099}
use Rattle.gw_time.proofs.Calendar.{days_to_2000, days_to_2100, from_2000, before_2100, year_from_2000, year_before_2100}

pub midnight_2000 : midnight (pos 2000) 1 1 ≡ pos 946_684_800_000
midnight_2000 = omega (arith, signed_arith, days_from_civil-day_count (pos 2000) 1 1, days_to_2000)

pub midnight_2100 : midnight (pos 2100) 1 1 ≡ pos 4_102_444_800_000
midnight_2100 = omega (arith, signed_arith, days_from_civil-day_count (pos 2100) 1 1, days_to_2100)

-- what clocks show in these years, as numbers
pub record IsShown (z : ℤ) : Type 0 where
  pub low : pos 946_684_800_000 ≤ℤ z
  pub high : z <ℤ pos 4_102_444_800_000

pub shown_in_window : (clocks : Clocks) (t : ℕ) → IsFrom2000To2099 clocks t → IsShown (shown_at clocks t)
shown_in_window clocks t h = record { low = rw midnight_2000 at h.from_2000; high = rw midnight_2100 at h.before_2100 }

pub window_of_shown : (clocks : Clocks) (t : ℕ) → IsShown (shown_at clocks t) → IsFrom2000To2099 clocks t
window_of_shown clocks t h = record { from_2000 = rw midnight_2000 h.low; before_2100 = rw midnight_2100 h.high }

-- the same years in the numbers of a fit observation
pub window_is_century : (clocks : Clocks) (t : ℕ) → IsFrom2000To2099 clocks t ↔ IsIn21stCentury clocks t
window_is_century clocks t = (
  λ h. let s = shown_in_window clocks t h in record { from_2000 = s.low; before_2100 = s.high },
  λ h. window_of_shown clocks t (record { low = h.from_2000; high = h.before_2100 }),
)

pub has_tag_is_in_window : (clocks : Clocks) (stamp : Stamp)
    → HasTag clocks stamp ↔ (IsInWindow clocks stamp × (stamp ≢ Untimed))
has_tag_is_in_window clocks Untimed = (λ h. absurd h, λ h. h.1 refl)
has_tag_is_in_window clocks (At t) =
    (λ h. ((window_is_century clocks t).0 h, λ e. absurd cc), λ h. (window_is_century clocks t).1 h.0)
has_tag_is_in_window clocks (Doubtful t) =
    (λ h. ((window_is_century clocks t).0 h, λ e. absurd cc), λ h. (window_is_century clocks t).1 h.0)

-- the same years by the civil date that clocks show
day_bounds : (z day : ℤ) (time : ℕ) → time < 86400000 → z ≡ day *ℤ pos 86400000 +ℤ pos time → IsShown z
    → (pos 10957 ≤ℤ day) × (day <ℤ pos 47482)
day_bounds z day time small e h = (omega (arith, signed_arith), omega (arith, signed_arith))

shown_bounds : (z day : ℤ) (time : ℕ) → time < 86400000 → z ≡ day *ℤ pos 86400000 +ℤ pos time → pos 10957 ≤ℤ day
    → day <ℤ pos 47482 → IsShown z
shown_bounds z day time small e low high =
    record { low = omega (arith, signed_arith); high = omega (arith, signed_arith) }

pub window_is_of_years : (clocks : Clocks) (t : ℕ) (y : ℤ) (m d time : ℕ) → IsCivilDate y m d → time < 86400000
    → shown_at clocks t ≡ midnight y m d +ℤ pos time → IsFrom2000To2099 clocks t ↔ IsBetween (pos 2000) (pos 2099) y
window_is_of_years clocks t y m d time h small e = (
  λ w. let b = day_bounds (shown_at clocks t) (days_from_civil y m d) time small e (shown_in_window clocks t w) in
      (year_from_2000 y m d h b.0, year_before_2100 y m d h b.1),
  λ b. window_of_shown clocks t (shown_bounds (shown_at clocks t) (days_from_civil y m d) time small e
      (from_2000 y m d b.0 h.2.0) (before_2100 y m d h b.1)),
)
