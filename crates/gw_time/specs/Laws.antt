-- Words of the laws.
use Rattle.std.specs.Prelude.{◌≡◌, ℕ, pos, negsuc, ◌≤ℤ◌, List, length}
use Rattle.gw_model.specs.Clocks.{Clocks, is_summer}
use Rattle.gw_model.specs.Octets.{AreOctets}
use Rattle.gw_time.specs.Tag.{numbers_in, instant_of, is_of_summer}

-- clocks that a station can have: their offset is from -840 to 840 minutes
pub record AreStationClocks (clocks : Clocks) : Type 0 where
  pub from : negsuc 839 ≤ℤ clocks.offset_minutes
  pub to : clocks.offset_minutes ≤ℤ pos 840

-- seven octets
pub record AreSevenOctets (octets : List ℕ) : Type 0 where
  pub seven : length octets ≡ 7
  pub octet : AreOctets octets

-- its SU is what the clocks show at the instant that it means
pub record IsByTheClocks (clocks : Clocks) (octets : List ℕ) : Type 0 where
  pub summer : is_of_summer clocks (numbers_in octets) ≡ is_summer clocks (instant_of clocks (numbers_in octets))
