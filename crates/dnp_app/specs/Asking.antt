-- What a request asks for, read from its octets (IEEE Std 1815, 4.2.2, 4.4 and Annex A), apart from how this master
-- writes one.
use Rattle.std.specs.Prelude.{ℕ, ◌-◌, ◌%◌, Bool, true, false, ◌&&◌, ◌==◌, nat_le, List, []}
use Rattle.std.specs.Prelude.{◌∷◌, length, Option, Some, None, option_map, if◌then◌else◌}
use Rattle.dnp_objects.specs.Headers.{number}
use Rattle.dnp_app.specs.declared.response.ApplicationControl.{ApplicationControl}
use Rattle.dnp_app.specs.Control.{control_of}

pub data Asks : Type 0 where
  -- the objects of these classes, 0 for static values
  Read : List ℕ → Asks
  -- unsolicited responses with events of these classes, or none
  EnableUnsolicited : List ℕ → Asks
  DisableUnsolicited : List ℕ → Asks
  -- a new value of an internal indication, by its number
  WriteIndication : ℕ → Bool → Asks
  -- the outstation keeps the moment at which it got the request; then this is that moment's time, in milliseconds since
  -- 1970 in UTC
  RecordTime : Asks
  WriteTime : ℕ → Asks

-- with its application control
pub record Asking : Type 0 where
  pub control : ApplicationControl
  pub asks : Asks

-- ---- classes

-- variation 1 of group 60 is class 0, variations 2 to 4 are classes 1 to 3
abbrev pub class_of : ℕ → Option ℕ
class_of variation = if nat_le 1 variation && nat_le variation 4 then Some (variation - 1) else None

abbrev pub with_class : Option ℕ → Option (List ℕ) → Option (List ℕ)
with_class None more = None
with_class (Some class) more = option_map (λ classes. class ∷ classes) more

-- headers of group 60 under qualifier 06
abbrev pub classes_in : List ℕ → Option (List ℕ)
classes_in [] = Some []
classes_in (group ∷ variation ∷ qualifier ∷ rest) =
    if (group == 60) && (qualifier == 6) then with_class (class_of variation) (classes_in rest) else None
classes_in _ = None

-- ---- what is written

-- one packed bit of group 80 under qualifier 00
abbrev pub indication_in : List ℕ → Option Asks
indication_in (start ∷ stop ∷ octet ∷ []) =
    if start == stop then Some (WriteIndication start (octet % 2 == 1)) else None
indication_in _ = None

-- one time of six octets under qualifier 07
abbrev pub time_in : List ℕ → Option Asks
time_in [] = None
time_in (count ∷ octets) = if (count == 1) && (length octets == 6) then Some (WriteTime (number octets)) else None

abbrev pub written_in : List ℕ → Option Asks
written_in (group ∷ variation ∷ qualifier ∷ rest) =
    if (group == 80) && (variation == 1) && (qualifier == 0) then indication_in rest
    else if (group == 50) && (variation == 3) && (qualifier == 7) then time_in rest
    else None
written_in _ = None

abbrev pub nothing_in : List ℕ → Option Asks
nothing_in [] = Some RecordTime
nothing_in (octet ∷ rest) = None

-- ---- the whole request

abbrev pub asked_by : ℕ → List ℕ → Option Asks
asked_by function objects =
    if function == 1 then option_map Read (classes_in objects)
    else if function == 2 then written_in objects
    else if function == 20 then option_map EnableUnsolicited (classes_in objects)
    else if function == 21 then option_map DisableUnsolicited (classes_in objects)
    else if function == 24 then nothing_in objects
    else None

abbrev pub asking_of : List ℕ → Option Asking
asking_of (octet ∷ function ∷ objects) =
    option_map (λ asks. record { control = control_of octet; asks = asks }) (asked_by function objects)
asking_of _ = None

-- a request of one fragment that asks for no confirmation
abbrev pub asks_for : ℕ → Asks → Option Asking
asks_for sequence asks =
    Some (record {
      control = record { fir = true; fin = true; con = false; uns = false; sequence = sequence };
      asks = asks;
    })
