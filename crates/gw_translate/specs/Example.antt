-- Short words for the worked examples: reports of outstation 0, rows that show them, and observations without time.
use Rattle.std.specs.Prelude.{ℕ, ℤ, Bool, true, false, ◌||◌, ◌&&◌, ◌==◌, IsTrue, List, [], ◌∷◌, refl}
use Rattle.std.proofs.Common.{lit≤}
use Rattle.gw_model.specs.declared.point.Kind.{Kind}
use Rattle.gw_model.specs.declared.point.Kind.TheVariants as kinds
use Rattle.gw_model.specs.declared.point.PointKey.{PointKey}
use Rattle.gw_model.specs.declared.point.Raw.{Raw}
use Rattle.gw_model.specs.declared.point.Raw.TheVariants.{Bit, Two, Count, Number}
use Rattle.gw_model.specs.declared.point.Stamp.{Stamp}
use Rattle.gw_model.specs.declared.point.Stamp.TheVariants.{Untimed}
use Rattle.gw_model.specs.declared.point.Report.{Report}
use Rattle.gw_entries.specs.declared.row.Row.{Row}
use Rattle.gw_entries.specs.Example.{one_to_one}
use Rattle.gw_entries.specs.declared.row.Scale.{Scale}
use Rattle.gw_entries.specs.declared.row.Show.{Show}
use Rattle.gw_entries.specs.declared.row.Show.TheVariants as shows
use Rattle.gw_model.specs.declared.observation.Value.{Value}
use Rattle.gw_model.specs.declared.observation.Quality.{Quality}
use Rattle.gw_model.specs.declared.observation.Observation.{Observation}
use Rattle.gw_model.specs.Point.{is_of_kind, is_stamped}
use Rattle.gw_entries.specs.Shown.{is_shown_by, is_scaled}

-- the types by which points may be shown
abbrev pub types : List Show
types = shows.Single ∷ shows.Double ∷ shows.Scaled ∷ shows.Word ∷ shows.Total ∷ []

-- point 5 of a kind
abbrev pub point : Kind → PointKey
point kind = record { outstation = 0; kind = kind; index = 5 }

-- a report of point 5
abbrev pub report : (kind : Kind) (raw : Raw) (flags : ℕ) (stamp : Stamp) (event : Bool) → IsTrue (is_of_kind kind raw)
    → IsTrue (is_stamped event stamp) → Report
report kind raw flags stamp event of_kind stamped = record {
  key = point kind;
  raw = raw;
  flags = flags;
  stamp = stamp;
  event = event;
  of_kind = of_kind;
  stamped = stamped;
}

-- events without time
abbrev pub binary : ℕ → Bool → Report
binary flags on = report kinds.Binary (Bit on) flags Untimed true refl refl

abbrev pub output : ℕ → Bool → Report
output flags on = report kinds.Output (Bit on) flags Untimed true refl refl

abbrev pub counter : ℕ → ℕ → Report
counter flags n = report kinds.Counter (Count n) flags Untimed true refl refl

abbrev pub analog : ℕ → ℤ → Report
analog flags z = report kinds.Analog (Number z) flags Untimed true refl refl

-- one of a double-bit input whose state is intermediate
abbrev pub intermediate_input : ℕ → Report
intermediate_input flags = report kinds.Double (Two 0) flags Untimed true refl refl

-- an event with a time, and a static value
abbrev pub timed_event : ℕ → Bool → Stamp → Report
timed_event flags on stamp = report kinds.Binary (Bit on) flags stamp true refl refl

abbrev pub static_value : ℕ → Bool → Report
static_value flags on = report kinds.Binary (Bit on) flags Untimed false refl refl

-- half of a value, and as many times a value as there may be
abbrev pub halved : Scale
halved = record { num = 1; den = 2; num_from = lit≤ tt; num_to = lit≤ tt; den_from = lit≤ tt; den_to = lit≤ tt }

abbrev pub most : Scale
most = record { num = 32767; den = 1; num_from = lit≤ tt; num_to = lit≤ tt; den_from = lit≤ tt; den_to = lit≤ tt }

-- the row that shows point 5 of a kind at address 4101 of station 1
abbrev pub row_with : (scale : Scale) (kind : Kind) (show : Show) → IsTrue (is_shown_by kind show)
    → IsTrue (is_scaled show || (scale.num == 1 && scale.den == 1)) → Row
row_with scale kind show shown scaled = record {
  key = point kind;
  common_address = 1;
  address = 4101;
  show = show;
  scale = scale;
  common_from = lit≤ tt;
  common_to = lit≤ tt;
  from = lit≤ tt;
  to = lit≤ tt;
  shown = shown;
  scaled = scaled;
}

abbrev pub row : (kind : Kind) (show : Show) → IsTrue (is_shown_by kind show) → IsTrue (is_scaled show || true) → Row
row kind show = row_with one_to_one kind show

abbrev pub binary_row : Row
binary_row = row kinds.Binary shows.Single refl refl

abbrev pub output_row : Row
output_row = row kinds.Output shows.Single refl refl

abbrev pub double_row : Row
double_row = row kinds.Double shows.Double refl refl

abbrev pub scaled_row : Row
scaled_row = row kinds.Analog shows.Scaled refl refl

-- half of the value, and 32767 times the value
abbrev pub halved_row : Row
halved_row = row_with halved kinds.Analog shows.Scaled refl refl

abbrev pub enlarged_row : Row
enlarged_row = row_with most kinds.Analog shows.Scaled refl refl

abbrev pub word_row : Row
word_row = row kinds.Analog shows.Word refl refl

abbrev pub counter_row : Row
counter_row = row kinds.Counter shows.Total refl refl

-- what is shown at address 4101
abbrev pub observation : Value → Quality → Observation
observation value quality = record { common = 1; address = 4101; value = value; quality = quality; stamp = Untimed }

-- no bit set, and some
abbrev pub good : Quality
good = record { iv = false; nt = false; sb = false; bl = false; ov = false; cy = false; ca = false }

abbrev pub invalid : Quality
invalid = record good { iv = true }

abbrev pub overflow : Quality
overflow = record good { ov = true }
