-- How a refusal of settings is told.
use Rattle.std.specs.Prelude.{ℕ, Bool, true, false, List, codes, string_bytes}
use Rattle.gw_entries.specs.declared.fault.Fault.{Fault}
use Rattle.gw_entries.specs.declared.fault.Section.{Section}
use Rattle.gw_entries.specs.declared.fault.Section.TheVariants.{Top, Station, Outstation, Point, Control}
use Rattle.gw_entries.specs.declared.fault.KeyName.{KeyName}
use Rattle.gw_entries.specs.declared.fault.KeyName.TheVariants.{Known, Unknown}
use Rattle.gw_entries.specs.declared.fault.SettingsFault.{SettingsFault}
use Rattle.gw_entries.specs.declared.fault.SettingsFault.TheVariants.{Toml, Refused, Memory}
use Rattle.gw_entries.specs.declared.fault.KeyPlace.{KeyPlace}
use Rattle.gw_entries.specs.Complaints.{Complaint}

abbrev pub key_text : KeyName → List ℕ
key_text (Known name) = name.now
key_text (Unknown name) = string_bytes name

abbrev pub complaint_at : Fault → KeyPlace → Complaint
complaint_at fault place =
    record { fault = fault; section = place.section; position = place.position; key = key_text place.key }

-- why settings are refused, as it is told
pub data Refusal : Type 0 where
  no_document : Refusal
  refused : Complaint → Refusal
  no_memory : Refusal

abbrev pub refusal_of : SettingsFault → Refusal
refusal_of (Toml error) = no_document
refusal_of (Refused fault place) = refused (complaint_at fault place)
refusal_of Memory = no_memory

abbrev pub is_no_memory : Refusal → Bool
is_no_memory no_document = false
is_no_memory (refused complaint) = false
is_no_memory no_memory = true

abbrev pub section_name : Section → List ℕ
section_name Top = codes "top"
section_name Station = codes "station"
section_name Outstation = codes "outstation"
section_name Point = codes "point"
section_name Control = codes "control"
