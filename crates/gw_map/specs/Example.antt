-- Settings to compute with: a station, one outstation, three points and two controls.
use Prim.Native.String.{String as Name}
use Rattle.std.specs.Prelude.{ℕ, pos, true, List, [], ◌∷◌, codes}
use Rattle.toml.specs.Data.{Data, string, integer, boolean, array, table, Items, no_items, item, Members, no_members, member}
use Rattle.gw_entries.specs.Setup.{OutstationSetup}

-- one table's line
abbrev pub is : Name → Data → Members → Members
is name value more = member (codes name) value more

abbrev pub whole : ℕ → Data
whole n = integer (pos n)

abbrev pub text : Name → Data
text name = string (codes name)

abbrev pub items : List Members → Items
items [] = no_items
items (ms ∷ more) = item (table ms) (items more)

abbrev pub list : List Members → Data
list tables = array (items tables)

-- keys stand in the order of their octets
abbrev pub station : Members
station = is "common_address" (whole 1) no_members

abbrev pub outstation : Members
outstation = is "address" (whole 1) no_members

-- one with a common address of its own
abbrev pub own_outstation : Data → Members
own_outstation common = is "address" (whole 1) (is "common_address" common no_members)

-- of the outstation at a position
abbrev pub point_of : ℕ → ℕ → ℕ → Name → Members
point_of position address index kind =
    is "address" (whole address)
    (is "index" (whole index) (is "kind" (text kind) (is "outstation" (whole position) no_members)))

abbrev pub point : ℕ → ℕ → Name → Members
point address index kind = point_of 0 address index kind

-- an outstation of another common address
abbrev pub with_common : OutstationSetup → ℕ → OutstationSetup
with_common outstation n = record outstation { common_address = n }

abbrev pub binary : Members
binary = point 4101 5 "binary"

abbrev pub analog : Members
analog = point 4201 0 "analog"

abbrev pub counter : Members
counter = point 4301 0 "counter"

abbrev pub switch : Members
switch =
    is "address" (whole 5001) (is "index" (whole 3) (is "outstation" (whole 0)
    (is "select" (boolean true) (is "show" (text "single") no_members))))

abbrev pub setpoint : Members
setpoint =
    is "address" (whole 5002) (is "index" (whole 4) (is "mode" (text "sbo")
    (is "outstation" (whole 0) (is "show" (text "setpoint") no_members))))

-- settings with a station's table and points
abbrev pub settings : Members → List Members → Members
settings station points =
    is "control" (list (switch ∷ setpoint ∷ [])) (is "outstation" (list (outstation ∷ []))
    (is "point" (list points) (is "station" (table station) no_members)))

-- settings with outstations and points, and no control
abbrev pub several : List Members → List Members → Members
several outstations points =
    is "outstation" (list outstations) (is "point" (list points) (is "station" (table station) no_members))

-- settings with outstations, each with a point at the same address
abbrev pub alike : Members → Members → Members
alike first second =
    several (first ∷ second ∷ []) (point_of 0 4101 5 "binary" ∷ point_of 1 4101 5 "binary" ∷ [])

abbrev pub usual : Members
usual = settings station (binary ∷ analog ∷ counter ∷ [])
