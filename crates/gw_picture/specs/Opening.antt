-- What is shown of a row before anything was reported: zero, invalid and not topical; a binary counter reading has no
-- NT (IEC 60870-5-101, 7.2.6.9), so a total is invalid alone.
use Rattle.std.specs.Prelude.{pos, true, false, not}
use Rattle.gw_model.specs.declared.point.Stamp.TheVariants.{Untimed}
use Rattle.gw_entries.specs.declared.row.Row.{Row}
use Rattle.gw_entries.specs.declared.row.Show.{Show}
use Rattle.gw_entries.specs.declared.row.Show.TheVariants as shows
use Rattle.gw_entries.specs.Shown.{is_total}
use Rattle.gw_model.specs.declared.observation.Value.{Value}
use Rattle.gw_model.specs.declared.observation.Value.TheVariants.{Single, Double, Scaled, Word, Total}
use Rattle.gw_model.specs.declared.observation.Quality.{Quality}
use Rattle.gw_model.specs.declared.observation.Observation.{Observation}

abbrev pub quality_at_first : Show → Quality
quality_at_first show = record {
  iv = true;
  nt = not (is_total show);
  sb = false;
  bl = false;
  ov = false;
  cy = false;
  ca = false;
}

abbrev pub value_at_first : Show → Value
value_at_first shows.Single = Single false
value_at_first shows.Double = Double 0
value_at_first shows.Scaled = Scaled (pos 0)
value_at_first shows.Word = Word 0
value_at_first shows.Total = Total 0

abbrev pub opening : Row → Observation
opening row = record {
  common = row.common_address;
  address = row.address;
  value = value_at_first row.show;
  quality = quality_at_first row.show;
  stamp = Untimed;
}
