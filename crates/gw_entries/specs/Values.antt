-- What the tables of a settings file mean that break no rule.
use Prim.Native.String.{String as Name}
use Rattle.std.specs.Prelude.{ℕ, ℤ, pos, nat_abs, Bool, false, List, [], codes, Option, Some, None}
use Rattle.std.specs.Prelude.{is_some, option_and_then, unwrap_or, find, bytes_eq, if◌then◌else◌}
use Rattle.std.specs.Option.{option_or}
use Rattle.toml.specs.Data.{Data, Members, get_member, as_integer, as_str, as_bool}
use Rattle.gw_model.specs.declared.point.Kind.{Kind}
use Rattle.gw_model.specs.declared.point.Kind.TheVariants as kind
use Rattle.gw_model.specs.declared.point.PointKey.{PointKey}
use Rattle.gw_model.specs.declared.poll.Poll.{Poll}
use Rattle.gw_model.specs.declared.rule.ClockRule.{ClockRule}
use Rattle.gw_entries.specs.declared.row.Show.{Show}
use Rattle.gw_entries.specs.declared.control.ControlShow.{ControlShow}
use Rattle.gw_entries.specs.declared.control.ControlShow.TheVariants as control
use Rattle.gw_entries.specs.declared.control.Mode.{Mode}
use Rattle.gw_entries.specs.declared.control.Mode.TheVariants.{Direct}
use Rattle.gw_entries.specs.declared.control.Rest.{Rest}
use Rattle.gw_entries.specs.declared.control.Rest.TheVariants.{Latch}
use Rattle.gw_entries.specs.Texts.{among}
use Rattle.gw_entries.specs.Rule.{rule_in}
use Rattle.gw_entries.specs.Shown.{usual_show}
use Rattle.gw_entries.specs.Tables.{KeyRule, Absence, default, required, usual_type, of_station}
use Rattle.gw_entries.specs.Tables.{no_rule, station_keys, outstation_keys, point_keys}
use Rattle.gw_entries.specs.Tables.{control_keys, kinds, shows, control_shows, modes, rests}
use Rattle.gw_entries.specs.Setup.{StationSetup, OutstationSetup, common_at, RowFields, Operation, single, double, setpoint, ControlFields}

-- ---- what stands at a key

abbrev pub default_of : Absence → Option Data
default_of required = None
default_of (default d) = Some d
default_of usual_type = None
default_of of_station = None
default_of no_rule = None

-- the value at a key of a table, or what is meant where it's left out
unfoldable pub value_or : Absence → List ℕ → Members → Option Data
value_or absence key table = option_or (get_member key table) (default_of absence)

-- the rule of a key
abbrev pub rule_named : List KeyRule → List ℕ → Option KeyRule
rule_named rules key = find (λ rule. bytes_eq rule.key key) rules

-- the value at a key by the rules of the table
abbrev pub value_by : Option KeyRule → Members → Option Data
value_by None table = None
value_by (Some rule) table = value_or rule.absence rule.key table

abbrev pub value_at : List KeyRule → List ℕ → Members → Option Data
value_at rules key table = value_by (rule_named rules key) table

-- as what it's read
abbrev pub integer_in : Option Data → Option ℤ
integer_in None = None
integer_in (Some d) = as_integer d

abbrev pub text_in : Option Data → Option (List ℕ)
text_in None = None
text_in (Some d) = as_str d

abbrev pub flag_in : Option Data → Option Bool
flag_in None = None
flag_in (Some d) = as_bool d

abbrev pub as_signed : Option Data → ℤ
as_signed value = unwrap_or (integer_in value) (pos 0)

abbrev pub as_number : Option Data → ℕ
as_number value = nat_abs (as_signed value)

abbrev pub as_text : Option Data → List ℕ
as_text value = unwrap_or (text_in value) []

abbrev pub as_flag : Option Data → Bool
as_flag value = unwrap_or (flag_in value) false

abbrev pub as_word : {A : Type 0} → List (List ℕ × A) → Option Data → Option A
as_word pairs value = among pairs (as_text value)

-- the rule of POSIX's TZ variable (IEEE Std 1003.1) that the text is; none where there is no text, or it's no rule
abbrev pub as_rule : Option Data → Option ClockRule
as_rule value = option_and_then rule_in (text_in value)

abbrev pub number_in : List KeyRule → Name → Members → ℕ
number_in rules name table = as_number (value_at rules (codes name) table)

-- ---- the tables

unfoldable pub station_of : Members → StationSetup
station_of table = record {
  common_address = number_in station_keys "common_address" table;
  master_address = number_in station_keys "master_address" table;
  offset_minutes = as_signed (value_at station_keys (codes "offset_minutes") table);
  rule = as_rule (value_at station_keys (codes "rule") table);
  k = number_in station_keys "k" table;
  w = number_in station_keys "w" table;
  t1_ms = number_in station_keys "t1_ms" table;
  t2_ms = number_in station_keys "t2_ms" table;
  t3_ms = number_in station_keys "t3_ms" table;
  queue = number_in station_keys "queue" table;
  select_ms = number_in station_keys "select_ms" table;
  recorder = number_in station_keys "recorder" table;
  listen = as_text (value_at station_keys (codes "listen") table);
  rule_text = as_text (value_at station_keys (codes "rule") table);
}

abbrev pub poll_of : Members → Poll
poll_of table = record {
  poll_ms = number_in outstation_keys "poll_ms" table;
  integrity_ms = number_in outstation_keys "integrity_ms" table;
  response_ms = number_in outstation_keys "response_ms" table;
  unsolicited = as_flag (value_at outstation_keys (codes "unsolicited") table);
  lan_time = as_flag (value_at outstation_keys (codes "lan_time") table);
}

-- a common address of its own, or the station's
abbrev pub own_or : ℕ → Members → ℕ
own_or common table =
    if is_some (get_member (codes "common_address") table) then number_in outstation_keys "common_address" table
    else common

-- where the station has this common address
unfoldable pub outstation_of : ℕ → Members → OutstationSetup
outstation_of common table = record {
  address = number_in outstation_keys "address" table;
  connect = as_text (value_at outstation_keys (codes "connect") table);
  poll = poll_of table;
  common_address = own_or common table;
}

unfoldable pub kind_in : Members → Kind
kind_in table = unwrap_or (as_word kinds (value_at point_keys (codes "kind") table)) kind.Binary

unfoldable pub show_in : Members → Show
show_in table = unwrap_or (as_word shows (value_at point_keys (codes "show") table)) (usual_show (kind_in table))

-- the point that a row is for
abbrev pub source_of : Members → PointKey
source_of table = record {
  outstation = number_in point_keys "outstation" table;
  kind = kind_in table;
  index = number_in point_keys "index" table;
}

-- a point of one of these outstations
unfoldable pub row_of : List OutstationSetup → Members → RowFields
row_of outstations table = record {
  key = source_of table;
  common_address = common_at (number_in point_keys "outstation" table) outstations;
  address = number_in point_keys "address" table;
  show = show_in table;
  num = number_in point_keys "num" table;
  den = number_in point_keys "den" table;
}

unfoldable pub control_show_in : Members → ControlShow
control_show_in table = unwrap_or (as_word control_shows (value_at control_keys (codes "show") table)) control.Single

unfoldable pub mode_in : Members → Mode
mode_in table = unwrap_or (as_word modes (value_at control_keys (codes "mode") table)) Direct

unfoldable pub rest_in : Members → Rest
rest_in table = unwrap_or (as_word rests (value_at control_keys (codes "rest") table)) Latch

abbrev pub operation : ControlShow → Members → Operation
operation control.Single table =
    single (rest_in table) (number_in control_keys "short_ms" table) (number_in control_keys "long_ms" table)
operation control.Double table =
    double (rest_in table) (number_in control_keys "short_ms" table) (number_in control_keys "long_ms" table)
operation control.Setpoint table = setpoint (number_in control_keys "num" table) (number_in control_keys "den" table)

-- a control of one of these outstations
unfoldable pub control_of : List OutstationSetup → Members → ControlFields
control_of outstations table = record {
  outstation = number_in control_keys "outstation" table;
  index = number_in control_keys "index" table;
  common_address = common_at (number_in control_keys "outstation" table) outstations;
  address = number_in control_keys "address" table;
  select = as_flag (value_at control_keys (codes "select") table);
  mode = mode_in table;
  operates = operation (control_show_in table) table;
}
