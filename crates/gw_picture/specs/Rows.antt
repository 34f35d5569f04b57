-- Pictures of the rows of a point map, and what a report changes of one.
use Rattle.std.specs.Prelude.{◌≡◌, ◌≢◌, ℕ, List, map, Some, slice_get}
use Rattle.std.specs.List.{AllByRecursion}
use Rattle.gw_model.specs.declared.point.Report.{Report}
use Rattle.gw_model.specs.declared.point.Stamp.TheVariants.{Untimed}
use Rattle.gw_entries.specs.declared.row.Row.{Row}
use Rattle.gw_model.specs.declared.observation.Observation.{Observation}
use Rattle.gw_model.specs.Keys.{object_of}
use Rattle.gw_model.specs.Clocks.{Clocks}
use Rattle.gw_map.specs.Settings.{row_from, row_object}
use Rattle.gw_translate.specs.Image.{image_of}
use Rattle.gw_picture.specs.Picture.{without_time}

-- at each row's place an observation of the row's object, without time
pub record IsPictureOf (rows : List Row) (picture : List Observation) : Type 0 where
  pub objects : map object_of picture ≡ map row_object rows
  pub untimed : AllByRecursion (λ (x : Observation). x.stamp ≡ Untimed) picture

-- x is the image of a report by the row of its point. At that row's place the second picture shows x without its time,
-- elsewhere what the first one shows
pub record ShowsImage
    (clocks : Clocks) (rows : List Row) (r : Report) (x : Observation) (before after : List Observation) : Type 0 where
  pub place : ℕ
  pub row : Row
  pub found : row_from 0 r.key rows ≡ Some (place, row)
  pub image : x ≡ image_of clocks row r
  pub here : slice_get after place ≡ Some (without_time x)
  pub elsewhere : (n : ℕ) → n ≢ place → slice_get after n ≡ slice_get before n
