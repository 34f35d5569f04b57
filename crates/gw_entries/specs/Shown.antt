-- By which types points are shown.
use Rattle.std.specs.Prelude.{Bool, true, false}
use Rattle.gw_model.specs.declared.point.Kind.{Kind}
use Rattle.gw_model.specs.declared.point.Kind.TheVariants as kind
use Rattle.gw_entries.specs.declared.row.Show.{Show}
use Rattle.gw_entries.specs.declared.row.Show.TheVariants as show

-- the types by which points of a kind may be shown
abbrev pub is_shown_by : Kind → Show → Bool
is_shown_by kind.Binary show.Single = true
is_shown_by kind.Output show.Single = true
is_shown_by kind.Double show.Double = true
is_shown_by kind.Counter show.Total = true
is_shown_by kind.Analog show.Scaled = true
is_shown_by kind.Analog show.Word = true
is_shown_by _ _ = false

-- the type by which points of a kind are shown where nothing else is said
abbrev pub usual_show : Kind → Show
usual_show kind.Binary = show.Single
usual_show kind.Output = show.Single
usual_show kind.Double = show.Double
usual_show kind.Counter = show.Total
usual_show kind.Analog = show.Scaled

-- only scaled values have a scale
abbrev pub is_scaled : Show → Bool
is_scaled show.Scaled = true
is_scaled _ = false

-- a row is shown as a total
abbrev pub is_total : Show → Bool
is_total show.Total = true
is_total _ = false
