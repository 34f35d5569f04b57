-- The image of a report: what clients are shown of it; and whether it is news.
use Rattle.std.specs.Prelude.{ℤ, pos, negsuc, Bool, ◌||◌, not, List, Option, is_some, if◌then◌else◌}
use Rattle.std.specs.Option.{option_map}
use Rattle.std.specs.Int.{w32, int_min, int_max, cast_unsigned}
use Rattle.std.specs.Ordering.{int_eq}
use Rattle.gw_model.specs.declared.point.Raw.{Raw}
use Rattle.gw_model.specs.declared.point.Raw.TheVariants.{Bit, Two, Count, Number}
use Rattle.gw_model.specs.declared.point.Stamp.{Stamp}
use Rattle.gw_model.specs.declared.point.Stamp.TheVariants.{Untimed}
use Rattle.gw_model.specs.declared.point.Report.{Report}
use Rattle.gw_model.specs.declared.point.ObjectKey.{ObjectKey}
use Rattle.gw_entries.specs.declared.row.Row.{Row}
use Rattle.gw_entries.specs.Scaling.{scaled_by}
use Rattle.gw_entries.specs.declared.row.Scale.{Scale}
use Rattle.gw_entries.specs.declared.row.Show.{Show}
use Rattle.gw_entries.specs.declared.row.Show.TheVariants as shows
use Rattle.gw_model.specs.declared.observation.Value.{Value}
use Rattle.gw_model.specs.declared.observation.Value.TheVariants.{Single, Double, Scaled, Word, Total}
use Rattle.gw_model.specs.declared.observation.Quality.{Quality}
use Rattle.gw_model.specs.declared.observation.Observation.{Observation}
use Rattle.gw_model.specs.Keys.{same_shown}
use Rattle.gw_model.specs.Clocks.{Clocks}
use Rattle.gw_map.specs.Settings.{row_from, row_object}
use Rattle.gw_time.specs.Spelling.{tag_of}
use Rattle.gw_translate.specs.Quality.{quality_of}

-- the nearest value of 16 bits
abbrev pub nearest_scaled_value : ℤ → ℤ
nearest_scaled_value z = int_min (int_max z (negsuc 32767)) (pos 32767)

-- the quality with OV set as well where a test says so
abbrev pub quality_with_overflow : Bool → Quality → Quality
quality_with_overflow ov q = record q { ov = q.ov || ov }

-- what is shown of an information object
abbrev pub observation_of : ObjectKey → Value → Quality → Stamp → Observation
observation_of object value q stamp = record {
  common = object.common_address;
  address = object.address;
  value = value;
  quality = q;
  stamp = stamp;
}

-- a value as the scaled one that is nearest, with OV where that isn't the value itself
abbrev pub scaled_image : ℤ → Quality → ObjectKey → Stamp → Observation
scaled_image z q object stamp =
    observation_of object (Scaled (nearest_scaled_value z))
    (quality_with_overflow (not (int_eq (nearest_scaled_value z) z)) q) stamp

-- an analog value shown by a type: the 32 bits of its two's complement, or a scaled value
abbrev pub analog_image : Show → Scale → ℤ → Quality → ObjectKey → Stamp → Observation
analog_image shows.Word scale z q object stamp = observation_of object (Word (cast_unsigned w32 z)) q stamp
analog_image _ scale z q object stamp = scaled_image (scaled_by scale z) q object stamp

-- a raw value shown by a type
abbrev pub raw_image : Show → Scale → Raw → Quality → ObjectKey → Stamp → Observation
raw_image show scale (Bit on) q object stamp = observation_of object (Single on) q stamp
raw_image show scale (Two state) q object stamp = observation_of object (Double state) q stamp
raw_image show scale (Count n) q object stamp = observation_of object (Total n) q stamp
raw_image show scale (Number z) q object stamp = analog_image show scale z q object stamp

-- the time that is shown: none where the clocks of the station don't show one of the years 2000 to
-- 2099
abbrev pub stamp_image : Clocks → Stamp → Stamp
stamp_image clocks stamp = if is_some (tag_of clocks stamp) then stamp else Untimed

-- the image of a report by its own row, by the clocks of the station
abbrev pub image_of : Clocks → Row → Report → Observation
image_of clocks row report =
    let quality : Quality = quality_of report.key.kind report.flags in
    raw_image row.show row.scale report.raw quality (row_object row) (stamp_image clocks report.stamp)

-- the image of a report by the rows of a point map: none for a point without a row
abbrev pub image_in : Clocks → List Row → Report → Option Observation
image_in clocks rows report = option_map (λ found. image_of clocks found.1 report) (row_from 0 report.key rows)

-- an event always, a static value where value or quality isn't what was shown before
abbrev pub is_news_of : Report → Observation → Observation → Bool
is_news_of report before image = report.event || not (same_shown before image)
