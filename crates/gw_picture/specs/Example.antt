-- Short words for the worked examples: three rows, and reports of their points. `binary` and `static_value` of
-- gw_translate are an event and a static value of binary input 5, `observation` an observation at its address.
use Rattle.std.specs.Prelude.{ℕ, ℤ, pos, false, true, List, [], ◌∷◌, refl}
use Rattle.std.proofs.Common.{lit≤}
use Rattle.gw_model.specs.declared.point.Kind.TheVariants as kinds
use Rattle.gw_model.specs.declared.point.PointKey.{PointKey}
use Rattle.gw_model.specs.declared.point.Raw.TheVariants.{Count, Number}
use Rattle.gw_model.specs.declared.point.Stamp.TheVariants.{Untimed}
use Rattle.gw_model.specs.declared.point.Report.{Report}
use Rattle.gw_entries.specs.declared.row.Row.{Row}
use Rattle.gw_entries.specs.declared.row.Show.TheVariants as shows
use Rattle.gw_model.specs.declared.observation.Value.{Value}
use Rattle.gw_model.specs.declared.observation.Value.TheVariants.{Total}
use Rattle.gw_model.specs.declared.observation.Quality.{Quality}
use Rattle.gw_model.specs.declared.observation.Observation.{Observation}
use Rattle.gw_translate.specs.Example.{row, binary_row, binary, good, invalid}

abbrev pub analog_0 : PointKey
analog_0 = record { outstation = 0; kind = kinds.Analog; index = 0 }

abbrev pub counter_0 : PointKey
counter_0 = record { outstation = 0; kind = kinds.Counter; index = 0 }

abbrev pub analog_row : Row
analog_row = record (row kinds.Analog shows.Scaled refl refl)
    { key = analog_0; address = 4201; from = lit≤ tt; to = lit≤ tt; shown = refl }

-- input 5 is single-point 4101, analog input 0 scaled value 4201, counter 0 integrated total 4301
abbrev pub rows : List Row
rows =
    binary_row
    ∷ analog_row
    ∷ record (row kinds.Counter shows.Total refl refl)
    { key = counter_0; address = 4301; from = lit≤ tt; to = lit≤ tt; shown = refl }
    ∷ []

-- a static value of analog input 0
abbrev pub analog_value : ℕ → ℤ → Report
analog_value flags z = record {
  key = analog_0;
  raw = Number z;
  flags = flags;
  stamp = Untimed;
  event = false;
  of_kind = refl;
  stamped = refl;
}

-- a static value of counter 0
abbrev pub counter_value : ℕ → ℕ → Report
counter_value flags n = record {
  key = counter_0;
  raw = Count n;
  flags = flags;
  stamp = Untimed;
  event = false;
  of_kind = refl;
  stamped = refl;
}

abbrev pub observation_at : ℕ → Value → Quality → Observation
observation_at address value quality =
    record { common = 1; address = address; value = value; quality = quality; stamp = Untimed }

-- what is known of nothing: invalid and not topical
abbrev pub unknown : Quality
unknown = record invalid { nt = true }

-- the picture of these values
abbrev pub picture_with : Observation → Observation → List Observation
picture_with input analog = input ∷ analog ∷ observation_at 4301 (Total 0) invalid ∷ []

-- a forced input, an analog input past what a scaled value can show, and a counter that rolled over: SB, OV and CY
abbrev pub forced_and_over : List Report
forced_and_over = binary 0x91 true ∷ analog_value 0x01 (pos 40000) ∷ counter_value 0x21 12 ∷ []

-- input 5 of outstation 0, and analog input 0 of outstation 1 at address 4202
abbrev pub rows_of_two : List Row
rows_of_two =
    binary_row
    ∷ record analog_row {
      key = record analog_0 { outstation = 1 };
      address = 4202;
      from = lit≤ tt;
      to = lit≤ tt;
      shown = refl;
    }
    ∷ []

-- these qualities with what tells a loss: NT, and of a total IV
abbrev pub not_topical : Quality → Quality
not_topical q = record q { nt = true }

abbrev pub not_valid : Quality → Quality
not_valid q = record q { iv = true }

abbrev pub substituted : Quality
substituted = record good { sb = true }

abbrev pub rolled_over : Quality
rolled_over = record good { cy = true }
