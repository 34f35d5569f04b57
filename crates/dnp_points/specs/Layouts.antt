-- How the layouts of the code are those of the table of variations.
use Rattle.std.specs.Prelude.{ℕ, ◌+◌}
use Rattle.dnp_objects.specs.Library.{Time as Instant, Timeless, Absolute, Relative, time_octets}
use Rattle.dnp_points.specs.declared.object.Time.{Time}
use Rattle.dnp_points.specs.declared.object.Time.TheVariants as times
use Rattle.dnp_points.specs.declared.object.Layout.{Layout}
use Rattle.dnp_points.specs.Objects.{flags_octets}

abbrev pub time_of : Time → Instant
time_of times.Timeless = Timeless
time_of times.Absolute = Absolute
time_of times.Relative = Relative

-- how many octets an object of a layout has
abbrev pub octets_of : Layout → ℕ
octets_of layout = flags_octets layout.flags + layout.value + time_octets (time_of layout.time)
