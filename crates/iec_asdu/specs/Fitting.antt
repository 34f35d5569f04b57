-- Which observations fit one ASDU (IEC 60870-5-101, 7.2.2): said of them apart from any counting.
use Rattle.std.specs.Prelude.{◌≡◌, ℕ, ◌+◌, ◌≤◌, Bool, true, false, List, [], ◌∷◌, length}
use Rattle.std.specs.Option.{is_some}
use Rattle.gw_model.specs.declared.observation.Observation.{Observation}
use Rattle.gw_model.specs.Clocks.{Clocks}
use Rattle.gw_time.specs.Spelling.{tag_of}
use Rattle.iec_asdu.specs.Spelling.{identification_at, objects_octets}

-- one has the type identification and the common address of the first one
abbrev pub IsAlike : Clocks → Observation → Observation → Type 0
IsAlike clocks first x = (identification_at clocks x ≡ identification_at clocks first) × (x.common ≡ first.common)

-- each has both
abbrev pub AreAlike : Clocks → Observation → List Observation → Type 0
AreAlike clocks first [] = Unit {0}
AreAlike clocks first (x ∷ xs) = IsAlike clocks first x × AreAlike clocks first xs

-- they stand at consecutive addresses, from this one on
abbrev pub AreConsecutive : ℕ → List Observation → Type 0
AreConsecutive address [] = Unit {0}
AreConsecutive address (x ∷ xs) = (x.address ≡ address) × AreConsecutive (address + 1) xs

-- a list with this first one under this SQ: all of its type and under its common address; under SQ 1 without time, at
-- consecutive addresses; 127 at most, and behind the header of six octets no more than 249 in all
pub record FitsAsdu (clocks : Clocks) (sequence : Bool) (first : Observation) (xs : List Observation) : Type 0 where
  pub alike : AreAlike clocks first xs
  pub untimed : sequence ≡ true → is_some (tag_of clocks first.stamp) ≡ false
  pub consecutive : sequence ≡ true → AreConsecutive first.address xs
  pub few : length xs ≤ 127
  pub room : 6 + length (objects_octets clocks sequence xs) ≤ 249
