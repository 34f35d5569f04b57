-- What settings are, seen as plain values.
use Rattle.std.specs.Prelude.{ℕ, ℤ, Bool, List, Option, option_map, slice_get, unwrap_or}
use Rattle.gw_model.specs.declared.rule.ClockRule.{ClockRule}
use Rattle.gw_model.specs.declared.poll.Poll.{Poll}
use Rattle.gw_model.specs.declared.point.PointKey.{PointKey}
use Rattle.gw_entries.specs.declared.row.Show.{Show}
use Rattle.gw_entries.specs.declared.control.Mode.{Mode}
use Rattle.gw_entries.specs.declared.control.Rest.{Rest}

-- the station; times in milliseconds
pub record StationSetup : Type 0 where
  pub common_address : ℕ
  pub master_address : ℕ
  -- how many minutes its clocks are ahead of UTC
  pub offset_minutes : ℤ
  -- the rule for summer time, if there is one
  pub rule : Option ClockRule
  -- the parameters k, w, t1, t2 and t3 of IEC 60870-5-104
  pub k : ℕ
  pub w : ℕ
  pub t1_ms : ℕ
  pub t2_ms : ℕ
  pub t3_ms : ℕ
  -- how many news wait for a client; how long a selection stands; how many steps are recorded
  pub queue : ℕ
  pub select_ms : ℕ
  pub recorder : ℕ
  pub listen : List ℕ
  -- the text of the rule, with the names of its times; empty if there is no rule
  pub rule_text : List ℕ

pub record OutstationSetup : Type 0 where
  pub address : ℕ
  pub connect : List ℕ
  pub poll : Poll
  -- that of its points and controls
  pub common_address : ℕ

-- the common address of the outstation at a position, from 0; 0 where there is none
abbrev pub common_at : ℕ → List OutstationSetup → ℕ
common_at position outstations =
    unwrap_or (option_map (λ outstation. outstation.common_address) (slice_get outstations position)) 0

-- a row of the point map
pub record RowFields : Type 0 where
  pub key : PointKey
  pub common_address : ℕ
  pub address : ℕ
  pub show : Show
  pub num : ℕ
  pub den : ℕ

-- how a control operates a point: a single or a double command, with the rest and the two pulse times; or a setpoint,
-- with its scale
pub data Operation : Type 0 where
  single : Rest → ℕ → ℕ → Operation
  double : Rest → ℕ → ℕ → Operation
  setpoint : ℕ → ℕ → Operation

pub record ControlFields : Type 0 where
  pub outstation : ℕ
  pub index : ℕ
  pub common_address : ℕ
  pub address : ℕ
  pub select : Bool
  pub mode : Mode
  pub operates : Operation
