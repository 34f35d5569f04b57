-- The settings as the other parts see them, and the look-ups in them.
use Rattle.std.specs.Prelude.{◌≡◌, IsTrue, ℕ, ◌+◌, ◌<◌, Bool, false, not, ◌==◌, ◌&&◌, List}
use Rattle.std.specs.Prelude.{[], ◌∷◌, ◌++◌, map, filter, Option, Some, None, if◌then◌else◌}
use Rattle.std.specs.List.{list_any, position_from, AllByRecursion}
use Rattle.std.specs.Map.{lookup, values_of}
use Rattle.gw_model.specs.declared.point.PointKey.{PointKey}
use Rattle.gw_model.specs.declared.point.ObjectKey.{ObjectKey}
use Rattle.gw_model.specs.Keys.{same_key, same_object}
use Rattle.gw_model.specs.Clocks.{Clocks}
use Rattle.gw_time.specs.Rule.{clocks_by}
use Rattle.gw_entries.specs.declared.row.Row.{Row}
use Rattle.gw_entries.specs.declared.control.Control.{Control}
use Rattle.gw_map.specs.Sections.{repeated, repeat_complaints}
use Rattle.gw_entries.specs.Complaints.{Complaint}
use Rattle.gw_entries.specs.Setup.{StationSetup, OutstationSetup, RowFields, ControlFields}
use Rattle.gw_entries.specs.Fields.{row_fields, control_fields}
use Rattle.gw_entries.specs.Ranges.{IsWithin}

-- as plain values, without the facts that the types of rows and controls keep
pub record SetupFields : Type 0 where
  pub station : StationSetup
  pub outstations : List OutstationSetup
  pub rows : List RowFields
  pub controls : List ControlFields

pub record Setup : Type 0 where
  pub station : StationSetup
  pub outstations : List OutstationSetup
  -- the rows of the point map, and the controls, in the order of the file
  pub rows : List Row
  pub controls : List Control

abbrev pub setup_fields : Setup → SetupFields
setup_fields s = record {
  station = s.station;
  outstations = s.outstations;
  rows = map row_fields s.rows;
  controls = map control_fields s.controls;
}

-- ---- the station

-- what its clocks show
unfoldable pub station_clocks : StationSetup → Clocks
station_clocks station = clocks_by station.offset_minutes station.rule

-- ---- common addresses

-- the first of each
abbrev pub distinct : List ℕ → List ℕ
distinct [] = []
distinct (n ∷ more) = n ∷ filter (λ m. not (m == n)) (distinct more)

-- those of the outstations; without an outstation, the station's alone
abbrev pub known_in : StationSetup → List OutstationSetup → List ℕ
known_in station [] = station.common_address ∷ []
known_in station outstations = distinct (map (λ outstation. outstation.common_address) outstations)

-- those that clients may use
abbrev pub known_addresses : Setup → List ℕ
known_addresses s = known_in s.station s.outstations

abbrev pub is_among : List ℕ → ℕ → Bool
is_among addresses n = list_any (λ address. address == n) addresses

abbrev pub is_known : Setup → ℕ → Bool
is_known s n = is_among (known_addresses s) n

-- no address stands twice
abbrev pub AreDistinct : List ℕ → Type 0
AreDistinct [] = Unit {0}
AreDistinct (address ∷ more) = (is_among more address ≡ false) × AreDistinct more

-- addresses of 16 bits
abbrev pub AreShort : List ℕ → Type 0
AreShort addresses = AllByRecursion (λ n. n < 65536) addresses

abbrev pub HasShortAddresses : Setup → Type 0
HasShortAddresses setup = AreShort (known_addresses setup)

-- ---- look-ups

-- the first of some that passes the test, with its position, which is counted from n on
abbrev pub first_from : {A : Type 0} → (A → Bool) → ℕ → List A → Option (ℕ × A)
first_from test n [] = None
first_from test n (x ∷ xs) = if test x then Some (n, x) else first_from test (n + 1) xs

-- the first row for a key
abbrev pub row_from : ℕ → PointKey → List Row → Option (ℕ × Row)
row_from n key rows = first_from (λ row. same_key row.key key) n rows

-- the first row, and the first control, with a common address and an address
abbrev pub row_at_from : ℕ → ℕ → ℕ → List Row → Option (ℕ × Row)
row_at_from n common address rows =
    first_from (λ row. (common == row.common_address) && (address == row.address)) n rows

abbrev pub control_at_from : ℕ → ℕ → ℕ → List Control → Option (ℕ × Control)
control_at_from n common address controls =
    first_from (λ control. (common == control.common_address) && (address == control.address)) n controls

-- ---- what holds of all settings

-- the information objects of a row and of a control; those of points, then of controls
abbrev pub row_object : Row → ObjectKey
row_object row = record { common_address = row.common_address; address = row.address }

abbrev pub control_object : Control → ObjectKey
control_object control = record { common_address = control.common_address; address = control.address }

abbrev pub objects_of : List Row → List Control → List ObjectKey
objects_of rows controls = map row_object rows ++ map control_object controls

-- the complaints of what stands twice
abbrev pub repeats_in : Setup → List Complaint
repeats_in s = repeat_complaints (map (λ row. row.key) s.rows) (map row_object s.rows) (map control_object s.controls)

-- no two rows have one point
abbrev pub HasSingleSources : List Row → Type 0
HasSingleSources rows = repeated same_key 0 [] (map (λ row. row.key) rows) ≡ []

-- no two rows or controls have one common address and address
abbrev pub HasSingleAddresses : List Row → List Control → Type 0
HasSingleAddresses rows controls = repeated same_object 0 [] (objects_of rows controls) ≡ []

-- each key is found at the first place where it stands among these, and no other is found
abbrev pub IsIndex : {K : Type 0} → (K → K → Bool) → List (K × ℕ) → List K → Type 0
IsIndex {K} same entries keys = (key : K) → lookup (same key) entries ≡ position_from (same key) 0 keys

-- rows by their points, in the same order
abbrev pub by_point : List Row → List (PointKey × Row)
by_point rows = map (λ row. (row.key, row)) rows

-- what is kept: the rows by their points, and the positions of rows and of controls by their information objects
pub record IsKept (points : List (PointKey × Row)) (controls : List Control)
    (row_objects control_objects : List (ObjectKey × ℕ)) : Type 0 where
  pub keyed : points ≡ by_point (values_of points)
  pub by_object : IsIndex same_object row_objects (map row_object (values_of points))
  pub control_by_object : IsIndex same_object control_objects (map control_object controls)
  pub sources : HasSingleSources (values_of points)
  pub single : HasSingleAddresses (values_of points) controls

-- these are the known addresses, in their range
pub record AreKnown (station : StationSetup) (outstations : List OutstationSetup) (addresses : List ℕ) : Type 0 where
  pub known : addresses ≡ known_in station outstations
  pub within : AllByRecursion (IsWithin 1 65534) (known_in station outstations)

-- each point's and each control's common address is a known one
pub record AreUnderKnown (station : StationSetup) (outstations : List OutstationSetup) (rows : List Row)
    (controls : List Control) : Type 0 where
  pub each_row : AllByRecursion
      (λ (row : Row). IsTrue (is_among (known_in station outstations) row.common_address)) rows
  pub each_control : AllByRecursion
      (λ (control : Control). IsTrue (is_among (known_in station outstations) control.common_address)) controls
