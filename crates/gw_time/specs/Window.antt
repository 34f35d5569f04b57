-- Which stamps have a time tag: those of the civil years 2000 to 2099.
use Rattle.std.specs.Prelude.{ℕ, pos, ◌≤ℤ◌, ◌<ℤ◌}
use Rattle.gw_model.specs.declared.point.Stamp.{Stamp}
use Rattle.gw_model.specs.declared.point.Stamp.TheVariants.{Untimed, At, Doubtful}
use Rattle.gw_model.specs.Clocks.{Clocks, shown_at}
use Rattle.gw_time.specs.Tag.{midnight}

-- by these clocks it is not before 1 January 2000, and before 1 January 2100
pub record IsFrom2000To2099 (clocks : Clocks) (t : ℕ) : Type 0 where
  pub from_2000 : midnight (pos 2000) 1 1 ≤ℤ shown_at clocks t
  pub before_2100 : shown_at clocks t <ℤ midnight (pos 2100) 1 1

abbrev pub HasTag : Clocks → Stamp → Type 0
HasTag clocks Untimed = ⊥
HasTag clocks (At t) = IsFrom2000To2099 clocks t
HasTag clocks (Doubtful t) = IsFrom2000To2099 clocks t
