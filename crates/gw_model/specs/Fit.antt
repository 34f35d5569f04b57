-- Which observations an ASDU can carry (IEC 60870-5-101, 7.2.5, 7.2.6).
use Rattle.std.specs.Prelude.{ℕ, pos, ◌≤ℤ◌, ◌<ℤ◌, ◌^◌, ◌<◌, ◌≤◌}
use Rattle.std.specs.Prelude.{Bool, not, ◌&&◌, nat_lt, FitsSigned, IsTrue}
use Rattle.std.specs.Int.{w16}
use Rattle.gw_model.specs.declared.point.Stamp.{Stamp}
use Rattle.gw_model.specs.declared.point.Stamp.TheVariants.{Untimed, At, Doubtful}
use Rattle.gw_model.specs.declared.observation.Value.{Value}
use Rattle.gw_model.specs.declared.observation.Value.TheVariants.{Single, Double, Scaled, Word, Total}
use Rattle.gw_model.specs.declared.observation.Quality.{Quality}
use Rattle.gw_model.specs.declared.observation.Observation.{Observation}
use Rattle.gw_model.specs.Clocks.{Clocks, shown_at}

-- the element has these quality bits alone: SIQ and DIQ all but OV, CY and CA, QDS all but CY and CA,
-- BCR none but IV, CY and CA; a double-point state is at most 3
abbrev pub is_of_element : Value → Quality → Bool
is_of_element (Single on) q = not q.ov && not q.cy && not q.ca
is_of_element (Double state) q = nat_lt state 4 && not q.ov && not q.cy && not q.ca
is_of_element (Scaled z) q = not q.cy && not q.ca
is_of_element (Word n) q = not q.cy && not q.ca
is_of_element (Total n) q = not q.nt && not q.sb && not q.bl && not q.ov

-- the clocks show one of the civil years 2000 to 2099 at instant t:
-- 946684800000 and 4102444800000 are the first milliseconds of 2000 and of 2100
pub record IsIn21stCentury (clocks : Clocks) (t : ℕ) : Type 0 where
  pub from_2000 : pos 946684800000 ≤ℤ shown_at clocks t
  pub before_2100 : shown_at clocks t <ℤ pos 4102444800000

-- a time tag can show the stamp, or there is none
abbrev pub IsInWindow : Clocks → Stamp → Type 0
IsInWindow clocks Untimed = Unit {0}
IsInWindow clocks (At t) = IsIn21stCentury clocks t
IsInWindow clocks (Doubtful t) = IsIn21stCentury clocks t

-- 0 is not used as a common address, and 65535 is all stations
pub record IsFit (clocks : Clocks) (x : Observation) : Type 0 where
  pub common : (1 ≤ x.common) × (x.common ≤ 65534)
  pub address : (1 ≤ x.address) × (x.address ≤ 16777215)
  pub element : IsTrue (is_of_element x.value x.quality)
  pub stamp : IsInWindow clocks x.stamp

-- a number has the width of its element
abbrev pub HasWidth : Value → Type 0
HasWidth (Single on) = Unit {0}
HasWidth (Double state) = Unit {0}
HasWidth (Word n) = n < 2 ^ 32
HasWidth (Scaled z) = FitsSigned w16 z
HasWidth (Total n) = n < 2 ^ 32
