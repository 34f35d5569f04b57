-- What a settings file is read as: its meaning, where there is no complaint of it, or else the first complaint.
use Rattle.std.specs.Prelude.{ℕ, List, [], ◌∷◌, map, codes, Option, Some, None, Result, Ok, Err}
use Rattle.toml.specs.Data.{Members}
use Rattle.toml.specs.Parse.{parse_document}
use Rattle.gw_map.specs.Settings.{SetupFields}
use Rattle.gw_entries.specs.Values.{row_of, control_of}
use Rattle.gw_entries.specs.Complaints.{Complaint}
use Rattle.gw_entries.specs.Faults.{Refusal, no_document, refused}
use Rattle.gw_map.specs.Sections.{complaints_of, entries, station_in, outstations_in}

abbrev pub setup_of : Members → SetupFields
setup_of ms = record {
  station = station_in ms;
  outstations = outstations_in ms;
  rows = map (row_of (outstations_in ms)) (entries (codes "point") ms);
  controls = map (control_of (outstations_in ms)) (entries (codes "control") ms);
}

abbrev pub answer_to : {A : Type 0} → List Complaint → A → Result A Refusal
answer_to [] value = Ok value
answer_to (complaint ∷ more) value = Err (refused complaint)

abbrev pub reading_in : Option Members → Result SetupFields Refusal
reading_in None = Err no_document
reading_in (Some ms) = answer_to (complaints_of ms) (setup_of ms)

-- what a text is read as
abbrev pub reading_of : List ℕ → Result SetupFields Refusal
reading_of text = reading_in (parse_document text)
