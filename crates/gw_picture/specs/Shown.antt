-- What every picture shows: for each row, in their order, an observation without time that an ASDU can carry.
use Rattle.std.specs.Prelude.{◌≡◌, ◌≤◌, Bool, true, false, IsTrue, List, [], ◌∷◌}
use Rattle.gw_model.specs.declared.point.Stamp.TheVariants.{Untimed}
use Rattle.gw_model.specs.declared.observation.Value.{Value}
use Rattle.gw_model.specs.declared.observation.Value.TheVariants.{Single, Double, Scaled, Word, Total}
use Rattle.gw_model.specs.declared.observation.Observation.{Observation}
use Rattle.gw_model.specs.Fit.{is_of_element, HasWidth}
use Rattle.gw_model.specs.Keys.{object_of}
use Rattle.gw_entries.specs.declared.row.Row.{Row}
use Rattle.gw_map.specs.Settings.{row_object}
use Rattle.gw_entries.specs.declared.row.Show.{Show}
use Rattle.gw_entries.specs.declared.row.Show.TheVariants as shows

pub record IsShown (x : Observation) : Type 0 where
  pub common : (1 ≤ x.common) × (x.common ≤ 65534)
  pub address : (1 ≤ x.address) × (x.address ≤ 16777215)
  pub element : IsTrue (is_of_element x.value x.quality)
  pub width : HasWidth x.value
  pub untimed : x.stamp ≡ Untimed

-- a value is of the type by which points are shown
abbrev pub is_value_of : Show → Value → Bool
is_value_of shows.Single (Single on) = true
is_value_of shows.Double (Double state) = true
is_value_of shows.Scaled (Scaled number) = true
is_value_of shows.Word (Word word) = true
is_value_of shows.Total (Total count) = true
is_value_of _ _ = false

-- what is shown of a row: a value of its type, of its object
pub record ShowsRow (row : Row) (x : Observation) : Type 0 where
  pub object : object_of x ≡ row_object row
  pub value : IsTrue (is_value_of row.show x.value)

-- one observation of each row, in the order of the rows
abbrev pub ShowsRows : List Row → List Observation → Type 0
ShowsRows [] [] = Unit {0}
ShowsRows (row ∷ rows) (x ∷ picture) = ShowsRow row x × ShowsRows rows picture
ShowsRows _ _ = ⊥
