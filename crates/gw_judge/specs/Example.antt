-- The settings of the worked examples: station 1; single-point 4101, scaled value 4201 and integrated total 4301; a
-- control by single commands at 5001 and one by set-point commands at 5002.
use Rattle.std.specs.Prelude.{ℕ, false, List, [], ◌∷◌, map, refl}
use Rattle.std.proofs.Common.{lit≤}
use Rattle.gw_model.specs.declared.point.Kind.TheVariants as kinds
use Rattle.gw_entries.specs.declared.row.Row.{Row}
use Rattle.gw_entries.specs.declared.row.Show.TheVariants as shows
use Rattle.gw_entries.specs.declared.control.Control.{Control}
use Rattle.gw_entries.specs.declared.control.Mode.TheVariants.{Sbo}
use Rattle.gw_entries.specs.declared.control.Operates.TheVariants as operated
use Rattle.gw_entries.specs.Example.{one_to_one, outstation, pulses, station, switch}
use Rattle.gw_map.specs.Settings.{Setup}
use Rattle.gw_judge.specs.declared.judging.Judged.{Judged}
use Rattle.gw_judge.specs.Judging.{judged}

abbrev pub binary_row : Row
binary_row = record {
  key = record { outstation = 0; kind = kinds.Binary; index = 5 };
  common_address = 1;
  address = 4101;
  show = shows.Single;
  scale = one_to_one;
  common_from = lit≤ tt;
  common_to = lit≤ tt;
  from = lit≤ tt;
  to = lit≤ tt;
  shown = refl;
  scaled = refl;
}

abbrev pub analog_row : Row
analog_row = record binary_row {
  key = record { outstation = 0; kind = kinds.Analog; index = 0 };
  address = 4201;
  show = shows.Scaled;
  from = lit≤ tt;
  to = lit≤ tt;
  shown = refl;
  scaled = refl;
}

abbrev pub counter_row : Row
counter_row = record binary_row {
  key = record { outstation = 0; kind = kinds.Counter; index = 0 };
  address = 4301;
  show = shows.Total;
  from = lit≤ tt;
  to = lit≤ tt;
  shown = refl;
  scaled = refl;
}

abbrev pub setpoint : Control
setpoint = record switch {
  index = 4;
  address = 5002;
  select = false;
  mode = Sbo;
  operates = operated.Setpoint one_to_one;
  from = lit≤ tt;
  to = lit≤ tt;
}

abbrev pub setup : Setup
setup = record {
  station = station;
  outstations = outstation ∷ [];
  rows = binary_row ∷ analog_row ∷ counter_row ∷ [];
  controls = switch ∷ setpoint ∷ [];
}

-- the same where the switch is operated by double commands
abbrev pub by_double : Setup
by_double = record setup { controls = record switch { operates = operated.Double pulses } ∷ setpoint ∷ [] }

-- the judgements of some ASDUs
abbrev pub judgements : List (List ℕ) → List Judged
judgements asdus = map (judged setup) asdus

-- outstation 0 has common address 258
abbrev pub at_258 : Setup
at_258 = record setup {
  outstations = record outstation { common_address = 258 } ∷ [];
  rows = record binary_row { common_address = 258; common_from = lit≤ tt; common_to = lit≤ tt } ∷ [];
}

-- a second outstation with common address 2, whose binary input 5 has the address of the first one's
abbrev pub of_two : Setup
of_two = record setup {
  outstations = outstation ∷ record outstation { address = 2; common_address = 2 } ∷ [];
  rows =
      binary_row
      ∷ record binary_row {
        key = record { outstation = 1; kind = kinds.Binary; index = 5 };
        common_address = 2;
        common_from = lit≤ tt;
        common_to = lit≤ tt;
      }
      ∷ [];
}

-- no outstation: the station's common address is known
abbrev pub of_none : Setup
of_none = record setup { outstations = []; rows = []; controls = [] }
