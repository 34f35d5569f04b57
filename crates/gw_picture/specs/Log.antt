-- The picture of a log of observations, apart from any picture that is kept: of each row what the log shows last,
-- without its time.
use Rattle.std.specs.Prelude.{List, [], ◌∷◌, map, if◌then◌else◌}
use Rattle.gw_model.specs.declared.point.ObjectKey.{ObjectKey}
use Rattle.gw_model.specs.Keys.{object_of, same_object}
use Rattle.gw_entries.specs.declared.row.Row.{Row}
use Rattle.gw_map.specs.Settings.{row_object}
use Rattle.gw_model.specs.declared.observation.Observation.{Observation}
use Rattle.gw_picture.specs.Opening.{opening}
use Rattle.gw_picture.specs.Picture.{without_time}

-- what the log shows last of an object, or what was shown before
abbrev pub last_observation : ObjectKey → Observation → List Observation → Observation
last_observation object shown [] = shown
last_observation object shown (x ∷ xs) =
    last_observation object (if same_object (object_of x) object then without_time x else shown) xs

abbrev pub picture_of : List Row → List Observation → List Observation
picture_of rows log = map (λ row. last_observation (row_object row) (opening row) log) rows
