-- What is wrong with a settings file: all complaints, in the order in which they are made. The first one is told.
use Rattle.std.specs.Prelude.{ℕ, ◌+◌, ◌-◌, Bool, nat_lt, nat_le, List, [], ◌∷◌, ◌++◌, length, map}
use Rattle.std.specs.Prelude.{codes, Option, Some, None, unwrap_or, option_map, if◌then◌else◌}
use Rattle.std.specs.List.{list_any}
use Rattle.toml.specs.Data.{Data, array, table, Items, no_items, item, Members, no_members, get_member}
use Rattle.gw_model.specs.declared.point.PointKey.{PointKey}
use Rattle.gw_model.specs.declared.point.ObjectKey.{ObjectKey}
use Rattle.gw_model.specs.Keys.{same_key, same_object}
use Rattle.gw_entries.specs.declared.fault.Fault.TheVariants.{Missing, WrongType, OutOfRange, UnknownKey, DoubleSource, DoubleAddress}
use Rattle.gw_entries.specs.declared.fault.Section.{Section}
use Rattle.gw_entries.specs.declared.fault.Section.TheVariants.{Top, Station, Outstation, Point, Control}
use Rattle.gw_entries.specs.Complaints.{Wrong, Complaint, complaint, placed, wrong_at, unknown_keys}
use Rattle.gw_entries.specs.Complaints.{table_wrongs, no_mismatches, point_mismatches, control_mismatches}
use Rattle.gw_entries.specs.Setup.{StationSetup, OutstationSetup, common_at}
use Rattle.gw_entries.specs.Tables.{KeyRule, top_keys, station_keys, outstation_keys, point_keys, control_keys, outstation_limit, row_limit}
use Rattle.gw_entries.specs.Values.{number_in, station_of, outstation_of, source_of}

-- ---- the sections

-- items as tables, where they are all tables
abbrev pub tables_of : Items → Option (List Members)
tables_of no_items = Some []
tables_of (item (table ms) more) = option_map (λ tables. ms ∷ tables) (tables_of more)
tables_of (item _ more) = None

-- the entries of a section: none where it's left out
abbrev pub listed : Option Data → Option (List Members)
listed None = Some []
listed (Some (array items)) = tables_of items
listed (Some _) = None

abbrev pub entries : List ℕ → Members → List Members
entries key ms = unwrap_or (listed (get_member key ms)) []

-- the station's table: an empty one where there is none
abbrev pub table_at : Option Data → Members
table_at (Some (table ms)) = ms
table_at _ = no_members

-- what they mean
abbrev pub station_in : Members → StationSetup
station_in ms = station_of (table_at (get_member (codes "station") ms))

abbrev pub outstations_in : Members → List OutstationSetup
outstations_in ms = map (outstation_of (station_in ms).common_address) (entries (codes "outstation") ms)

-- the complaints of each entry, from a position on
unfoldable pub each_from : ℕ → (ℕ → Members → List Complaint) → List Members → List Complaint
each_from position complaints [] = []
each_from position complaints (ms ∷ more) = complaints position ms ++ each_from (position + 1) complaints more

-- a section has no more entries than there is room for
abbrev pub count_wrongs : ℕ → List Members → List Wrong
count_wrongs room tables = if nat_le (length tables) room then [] else (OutOfRange, codes "count") ∷ []

-- the complaints of a section as a whole
abbrev pub list_complaints : Section → List ℕ → ℕ → Option (List Members) → List Complaint
list_complaints of key room None = placed Top 0 ((WrongType, key) ∷ [])
list_complaints of key room (Some tables) = placed of 0 (count_wrongs room tables)

-- the complaints of a section, and then of each of its entries
unfoldable pub section_complaints : Section → List ℕ → ℕ → (Members → List Wrong) → Members → List Complaint
section_complaints section key room wrongs ms =
    list_complaints section key room (listed (get_member key ms))
    ++ each_from 0 (λ position entry. placed section position (wrongs entry)) (entries key ms)

abbrev pub outstation_complaints : Members → List Complaint
outstation_complaints =
    section_complaints Outstation (codes "outstation") outstation_limit (table_wrongs 0 outstation_keys no_mismatches)

-- where there are so many outstations
abbrev pub point_complaints : ℕ → Members → List Complaint
point_complaints outstations =
    section_complaints Point (codes "point") row_limit (table_wrongs outstations point_keys point_mismatches)

-- where there are so many outstations and points
abbrev pub control_complaints : ℕ → ℕ → Members → List Complaint
control_complaints outstations points =
    section_complaints Control (codes "control") (row_limit - points)
    (table_wrongs outstations control_keys control_mismatches)

unfoldable pub station_complaints : Option Data → List Complaint
station_complaints None = placed Top 0 ((Missing, codes "station") ∷ [])
station_complaints (Some (table ms)) = placed Station 0 (table_wrongs 0 station_keys no_mismatches ms)
station_complaints (Some _) = placed Top 0 ((WrongType, codes "station") ∷ [])

-- ---- what stands twice

-- the places, from n on, of the elements that stood before, among those before or earlier
unfoldable pub repeated : {A : Type 0} → (A → A → Bool) → ℕ → List A → List A → List ℕ
repeated same n before [] = []
repeated same n before (x ∷ xs) =
    (if list_any (same x) before then n ∷ [] else []) ++ repeated same (n + 1) (before ++ x ∷ []) xs

-- the points whose source stood before
abbrev pub double_sources : List PointKey → List Complaint
double_sources keys = map (λ n. complaint Point n (DoubleSource, codes "index")) (repeated same_key 0 [] keys)

-- the information object of an entry with these rules: its outstation's common address, and its own address
abbrev pub object_in : List KeyRule → List OutstationSetup → Members → ObjectKey
object_in rules outstations ms = record {
  common_address = common_at (number_in rules "outstation" ms) outstations;
  address = number_in rules "address" ms;
}

-- the place n among points and controls, of which so many are points
abbrev pub double_address : ℕ → ℕ → Complaint
double_address points n =
    if nat_lt n points then complaint Point n (DoubleAddress, codes "address")
    else complaint Control (n - points) (DoubleAddress, codes "address")

-- the points and controls whose information object stood before: those of the points come first
abbrev pub double_addresses : List ObjectKey → List ObjectKey → List Complaint
double_addresses points controls =
    map (double_address (length points)) (repeated same_object 0 [] (points ++ controls))

-- ---- the whole

-- the complaints of the sections, each by itself
abbrev pub sections_complaints : Members → List Complaint
sections_complaints ms =
    placed Top 0 (wrong_at UnknownKey (unknown_keys top_keys ms))
    ++ (station_complaints (get_member (codes "station") ms)
    ++ (outstation_complaints ms
    ++ (point_complaints (length (outstations_in ms)) ms
    ++ control_complaints (length (outstations_in ms)) (length (entries (codes "point") ms)) ms)))

-- the complaints of what stands twice
abbrev pub repeat_complaints : List PointKey → List ObjectKey → List ObjectKey → List Complaint
repeat_complaints sources points controls = double_sources sources ++ double_addresses points controls

abbrev pub complaints_of : Members → List Complaint
complaints_of ms =
    let outstations = outstations_in ms in
    let points = entries (codes "point") ms in
    let controls = entries (codes "control") ms in
    sections_complaints ms
    ++ repeat_complaints (map source_of points) (map (object_in point_keys outstations) points)
    (map (object_in control_keys outstations) controls)
