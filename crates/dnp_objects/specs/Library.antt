-- The object library as data: what is known of each object variation (IEEE Std 1815, Annex A).
use Rattle.std.specs.Prelude.{ℕ, ◌+◌, Bool, true, false, not, ◌&&◌, ◌||◌, ◌==◌, nat_lt}
use Rattle.std.specs.Prelude.{List, [], ◌∷◌, Option, Some, None, if◌then◌else◌}
use Rattle.std.specs.Option.{option_map}
use Rattle.gw_model.specs.declared.point.Kind.{Kind}
use Rattle.gw_model.specs.declared.point.Kind.TheVariants.{Binary, Output, Double, Counter, Analog}
use Rattle.dnp_objects.specs.declared.object.Size.{Size}
use Rattle.dnp_objects.specs.declared.object.Size.TheVariants.{Octets, Bits}
use Rattle.dnp_objects.specs.declared.object.Access.{Access}
use Rattle.dnp_objects.specs.declared.object.Access.TheVariants.{Ranges, Counts, Indexes, RangesAndIndexes}
use Rattle.dnp_objects.specs.declared.object.Form.{Form}

-- what an object is for: a point of a kind, the common time of the objects after it, the echo of a command,
-- or nothing, since it is stepped over by its length
pub data Role : Type 0 where
  Point : Kind → Role
  CommonTime : Role
  Echo : Role
  SteppedOver : Role

-- the time at the end of an object: none, 48 bits of milliseconds since 1970, or 16 bits of milliseconds
-- since the common time
pub data Time : Type 0 where
  Timeless : Time
  Absolute : Time
  Relative : Time

-- the parts of an object: bits alone; or a flags octet or none, the octets of its value, and a time
pub data Parts : Type 0 where
  Packed : (bits : ℕ) → Parts
  Whole : (flags : Bool) (value : ℕ) (time : Time) → Parts

-- a variation: group, number, what it is for, event or static, its parts, and its qualifiers
pub record Variation : Type 0 where
  pub group : ℕ
  pub number : ℕ
  pub role : Role
  pub event : Bool
  pub parts : Parts
  pub access : Access

abbrev pub entry : ℕ → ℕ → Role → Bool → Parts → Access → Variation
entry group number role event parts access =
    record { group = group; number = number; role = role; event = event; parts = parts; access = access }

-- words of the table
abbrev pub static : Bool
static = false

abbrev pub events : Bool
events = true

abbrev pub flags : Bool
flags = true

abbrev pub plain : Bool
plain = false

-- the variations that are known
abbrev pub objects : List Variation
objects =
    -- binary inputs, and their events
    entry 1 1 (Point Binary) static (Packed 1) Ranges
    ∷ entry 1 2 (Point Binary) static (Whole flags 0 Timeless) RangesAndIndexes
    ∷ entry 2 1 (Point Binary) events (Whole flags 0 Timeless) RangesAndIndexes
    ∷ entry 2 2 (Point Binary) events (Whole flags 0 Absolute) RangesAndIndexes
    ∷ entry 2 3 (Point Binary) events (Whole flags 0 Relative) RangesAndIndexes
    -- double-bit binary inputs, and their events
    ∷ entry 3 1 (Point Double) static (Packed 2) Ranges
    ∷ entry 3 2 (Point Double) static (Whole flags 0 Timeless) RangesAndIndexes
    ∷ entry 4 1 (Point Double) events (Whole flags 0 Timeless) RangesAndIndexes
    ∷ entry 4 2 (Point Double) events (Whole flags 0 Absolute) RangesAndIndexes
    ∷ entry 4 3 (Point Double) events (Whole flags 0 Relative) RangesAndIndexes
    -- binary output status, and its events
    ∷ entry 10 1 (Point Output) static (Packed 1) Ranges
    ∷ entry 10 2 (Point Output) static (Whole flags 0 Timeless) RangesAndIndexes
    ∷ entry 11 1 (Point Output) events (Whole flags 0 Timeless) RangesAndIndexes
    ∷ entry 11 2 (Point Output) events (Whole flags 0 Absolute) RangesAndIndexes
    -- control relay output blocks: code, count, on-time, off-time, status
    ∷ entry 12 1 Echo static (Whole plain 11 Timeless) Indexes
    -- binary output command events
    ∷ entry 13 1 SteppedOver events (Whole flags 0 Timeless) RangesAndIndexes
    ∷ entry 13 2 SteppedOver events (Whole flags 0 Absolute) RangesAndIndexes
    -- counters
    ∷ entry 20 1 (Point Counter) static (Whole flags 4 Timeless) RangesAndIndexes
    ∷ entry 20 2 (Point Counter) static (Whole flags 2 Timeless) RangesAndIndexes
    ∷ entry 20 5 (Point Counter) static (Whole plain 4 Timeless) RangesAndIndexes
    ∷ entry 20 6 (Point Counter) static (Whole plain 2 Timeless) RangesAndIndexes
    -- frozen counters
    ∷ entry 21 1 SteppedOver static (Whole flags 4 Timeless) RangesAndIndexes
    ∷ entry 21 2 SteppedOver static (Whole flags 2 Timeless) RangesAndIndexes
    ∷ entry 21 5 SteppedOver static (Whole flags 4 Absolute) RangesAndIndexes
    ∷ entry 21 6 SteppedOver static (Whole flags 2 Absolute) RangesAndIndexes
    ∷ entry 21 9 SteppedOver static (Whole plain 4 Timeless) RangesAndIndexes
    ∷ entry 21 10 SteppedOver static (Whole plain 2 Timeless) RangesAndIndexes
    -- counter events
    ∷ entry 22 1 (Point Counter) events (Whole flags 4 Timeless) RangesAndIndexes
    ∷ entry 22 2 (Point Counter) events (Whole flags 2 Timeless) RangesAndIndexes
    ∷ entry 22 5 (Point Counter) events (Whole flags 4 Absolute) RangesAndIndexes
    ∷ entry 22 6 (Point Counter) events (Whole flags 2 Absolute) RangesAndIndexes
    -- frozen counter events
    ∷ entry 23 1 SteppedOver events (Whole flags 4 Timeless) RangesAndIndexes
    ∷ entry 23 2 SteppedOver events (Whole flags 2 Timeless) RangesAndIndexes
    ∷ entry 23 5 SteppedOver events (Whole flags 4 Absolute) RangesAndIndexes
    ∷ entry 23 6 SteppedOver events (Whole flags 2 Absolute) RangesAndIndexes
    -- analog inputs; 5 and 6 are floating point
    ∷ entry 30 1 (Point Analog) static (Whole flags 4 Timeless) RangesAndIndexes
    ∷ entry 30 2 (Point Analog) static (Whole flags 2 Timeless) RangesAndIndexes
    ∷ entry 30 3 (Point Analog) static (Whole plain 4 Timeless) RangesAndIndexes
    ∷ entry 30 4 (Point Analog) static (Whole plain 2 Timeless) RangesAndIndexes
    ∷ entry 30 5 SteppedOver static (Whole flags 4 Timeless) RangesAndIndexes
    ∷ entry 30 6 SteppedOver static (Whole flags 8 Timeless) RangesAndIndexes
    -- analog input events; 5 to 8 are floating point
    ∷ entry 32 1 (Point Analog) events (Whole flags 4 Timeless) RangesAndIndexes
    ∷ entry 32 2 (Point Analog) events (Whole flags 2 Timeless) RangesAndIndexes
    ∷ entry 32 3 (Point Analog) events (Whole flags 4 Absolute) RangesAndIndexes
    ∷ entry 32 4 (Point Analog) events (Whole flags 2 Absolute) RangesAndIndexes
    ∷ entry 32 5 SteppedOver events (Whole flags 4 Timeless) RangesAndIndexes
    ∷ entry 32 6 SteppedOver events (Whole flags 8 Timeless) RangesAndIndexes
    ∷ entry 32 7 SteppedOver events (Whole flags 4 Absolute) RangesAndIndexes
    ∷ entry 32 8 SteppedOver events (Whole flags 8 Absolute) RangesAndIndexes
    -- analog output status
    ∷ entry 40 1 SteppedOver static (Whole flags 4 Timeless) RangesAndIndexes
    ∷ entry 40 2 SteppedOver static (Whole flags 2 Timeless) RangesAndIndexes
    ∷ entry 40 3 SteppedOver static (Whole flags 4 Timeless) RangesAndIndexes
    ∷ entry 40 4 SteppedOver static (Whole flags 8 Timeless) RangesAndIndexes
    -- analog outputs: value, status
    ∷ entry 41 2 Echo static (Whole plain 3 Timeless) Indexes
    -- analog output events
    ∷ entry 42 1 SteppedOver events (Whole flags 4 Timeless) RangesAndIndexes
    ∷ entry 42 2 SteppedOver events (Whole flags 2 Timeless) RangesAndIndexes
    ∷ entry 42 3 SteppedOver events (Whole flags 4 Absolute) RangesAndIndexes
    ∷ entry 42 4 SteppedOver events (Whole flags 2 Absolute) RangesAndIndexes
    ∷ entry 42 5 SteppedOver events (Whole flags 4 Timeless) RangesAndIndexes
    ∷ entry 42 6 SteppedOver events (Whole flags 8 Timeless) RangesAndIndexes
    ∷ entry 42 7 SteppedOver events (Whole flags 4 Absolute) RangesAndIndexes
    ∷ entry 42 8 SteppedOver events (Whole flags 8 Absolute) RangesAndIndexes
    -- common time of occurrence: 1 of a synchronized clock, 2 of one that isn't
    ∷ entry 51 1 CommonTime static (Whole plain 0 Absolute) Counts
    ∷ entry 51 2 CommonTime static (Whole plain 0 Absolute) Counts
    ∷ []

-- octet strings and their events: each variation from 1 on has as many octets as its number says
abbrev pub octet_string : ℕ → ℕ → Option Variation
octet_string group number =
    if ((group == 110) || (group == 111)) && nat_lt 0 number
    then Some (entry group number SteppedOver (group == 111) (Whole plain number Timeless) RangesAndIndexes)
    else None

-- the row of a list for a group and a variation number, or an octet string
abbrev pub object_among : List Variation → ℕ → ℕ → Option Variation
object_among [] group number = octet_string group number
object_among (v ∷ vs) group number =
    if (group == v.group) && (number == v.number) then Some v else object_among vs group number

-- what is known of a group and a variation number
unfoldable pub object_of : ℕ → ℕ → Option Variation
object_of group number = object_among objects group number

-- ---- what follows from the table

abbrev pub time_octets : Time → ℕ
time_octets Timeless = 0
time_octets Absolute = 6
time_octets Relative = 2

abbrev pub size_of_parts : Parts → Size
size_of_parts (Packed bits) = Bits bits
size_of_parts (Whole true value time) = Octets (1 + value + time_octets time)
size_of_parts (Whole false value time) = Octets (value + time_octets time)

-- the room that an object takes
abbrev pub size_of : Variation → Size
size_of v = size_of_parts v.parts

-- group, number and size of each row
abbrev pub sizes : List Variation → List (ℕ × ℕ × Size)
sizes [] = []
sizes (v ∷ vs) = (v.group, v.number, size_of v) ∷ sizes vs

abbrev pub form_of_row : Variation → Form
form_of_row v = record { size = size_of v; access = v.access }

-- how the objects of a group and a variation number stand in a part
abbrev pub form_of : ℕ → ℕ → Option Form
form_of group number = option_map form_of_row (object_of group number)

-- a row of the list has this group and number
abbrev pub has_row : ℕ → ℕ → List Variation → Bool
has_row group number [] = false
has_row group number (v ∷ vs) = ((group == v.group) && (number == v.number)) || has_row group number vs

-- no two rows of the list have one group and one number
abbrev pub is_table : List Variation → Bool
is_table [] = true
is_table (v ∷ vs) = not (has_row v.group v.number vs) && is_table vs
