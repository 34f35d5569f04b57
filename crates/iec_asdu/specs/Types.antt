-- The types of process information in monitor direction (IEC 60870-5-101, 7.2.1.1 and 7.3.1): an information element,
-- and behind it the time tag CP56Time2a or none.
use Rattle.std.specs.Prelude.{ℕ, ◌+◌, Bool, List, Option, Some, option_map, if◌then◌else◌}
use Rattle.std.specs.Result.{result_ok}
use Rattle.gw_model.specs.declared.point.Stamp.{Stamp}
use Rattle.gw_model.specs.declared.point.Stamp.TheVariants.{Untimed}
use Rattle.gw_model.specs.declared.observation.Value.{Value}
use Rattle.gw_model.specs.declared.observation.Value.TheVariants.{Single, Double, Scaled, Word, Total}
use Rattle.gw_model.specs.declared.observation.Quality.{Quality}
use Rattle.gw_model.specs.Clocks.{Clocks}
use Rattle.gw_time.specs.Tag.{tag_meaning}
use Rattle.iec_asdu.specs.declared.types.ElementKind.{ElementKind}
use Rattle.iec_asdu.specs.declared.types.ElementKind.TheVariants.{SinglePoint, DoublePoint, BitString, ScaledValue, CounterReading}
use Rattle.iec_asdu.specs.declared.types.MonitorType.{MonitorType}
use Rattle.iec_asdu.specs.Elements.{single_meaning, double_meaning, word_meaning, scaled_meaning, counter_meaning}

-- ---- the elements

-- how many octets an element has
abbrev pub element_length : ElementKind → ℕ
element_length SinglePoint = 1
element_length DoublePoint = 1
element_length BitString = 5
element_length ScaledValue = 3
element_length CounterReading = 5

-- the value and the quality that its octets mean
abbrev pub element_value : ElementKind → List ℕ → Option (Value × Quality)
element_value SinglePoint octets = option_map (λ x. (Single x.on, x.quality)) (single_meaning octets)
element_value DoublePoint octets = option_map (λ x. (Double x.state, x.quality)) (double_meaning octets)
element_value BitString octets = option_map (λ x. (Word x.word, x.quality)) (word_meaning octets)
element_value ScaledValue octets = option_map (λ x. (Scaled x.value, x.quality)) (scaled_meaning octets)
element_value CounterReading octets = option_map (λ x. (Total x.count, x.quality)) (counter_meaning octets)

-- ---- the time tag

-- how many octets it has
abbrev pub tag_length : Bool → ℕ
tag_length timed = if timed then 7 else 0

-- the stamp that its octets mean, at a station whose clocks are clocks minutes ahead of UTC
abbrev pub tag_stamp : Clocks → Bool → List ℕ → Option Stamp
tag_stamp clocks timed octets = if timed then result_ok (tag_meaning clocks octets) else Some Untimed

-- ---- the types

-- M_SP_NA_1, M_DP_NA_1, M_BO_NA_1, M_ME_NB_1 and M_IT_NA_1; with time M_SP_TB_1, M_DP_TB_1, M_BO_TB_1, M_ME_TE_1
-- and M_IT_TB_1
abbrev pub identification_by : ElementKind → Bool → ℕ
identification_by SinglePoint timed = if timed then 30 else 1
identification_by DoublePoint timed = if timed then 31 else 3
identification_by BitString timed = if timed then 33 else 7
identification_by ScaledValue timed = if timed then 35 else 11
identification_by CounterReading timed = if timed then 37 else 15

-- how many octets element and time tag have
abbrev pub type_length : MonitorType → ℕ
type_length t = element_length t.element + tag_length t.timed

-- a type: how many octets its element has and which value they mean, then how many its time tag has and which stamp
-- they mean
pub record Layout : Type 0 where
  pub identification : ℕ
  pub element : ℕ
  pub value : List ℕ → Option (Value × Quality)
  pub tag : ℕ
  pub stamp : List ℕ → Option Stamp

-- a type, at a station whose clocks are clocks minutes ahead of UTC
abbrev pub layout_at : Clocks → MonitorType → Layout
layout_at clocks t = record {
  identification = identification_by t.element t.timed;
  element = element_length t.element;
  value = element_value t.element;
  tag = tag_length t.timed;
  stamp = tag_stamp clocks t.timed;
}
