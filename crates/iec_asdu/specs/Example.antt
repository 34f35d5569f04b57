-- Short words for the worked examples: qualities, observations, ASDUs of originator 0, and what octets mean.
use Rattle.std.specs.Prelude.{ℕ, Bool, true, false, List, [], ◌∷◌, map, Option, Result}
use Rattle.gw_model.specs.declared.point.Stamp.TheVariants.{Untimed, At, Doubtful}
use Rattle.gw_model.specs.declared.observation.Value.{Value}
use Rattle.gw_model.specs.declared.observation.Value.TheVariants.{Single, Double}
use Rattle.gw_model.specs.declared.observation.Quality.{Quality}
use Rattle.gw_model.specs.declared.observation.Observation.{Observation}
use Rattle.gw_model.specs.Clocks.{utc}
use Rattle.iec_asdu.specs.declared.fault.AsduFault.{AsduFault}
use Rattle.iec_asdu.specs.Types.{type_length}
use Rattle.iec_asdu.specs.Asdu.{Asdu, element_kinds, monitor_types, asdu_meaning}
use Rattle.iec_asdu.specs.Packing.{room_apart, room_in_sequence, is_in_sequence, taken_of}
use Rattle.iec_asdu.specs.Reading.{asdu_read}

-- no bit set
abbrev pub good : Quality
good = record { iv = false; nt = false; sb = false; bl = false; ov = false; cy = false; ca = false }

-- IV
abbrev pub invalid : Quality
invalid = record { iv = true; nt = false; sb = false; bl = false; ov = false; cy = false; ca = false }

-- NT
abbrev pub not_topical : Quality
not_topical = record { iv = false; nt = true; sb = false; bl = false; ov = false; cy = false; ca = false }

-- IV and NT
abbrev pub invalid_not_topical : Quality
invalid_not_topical = record { iv = true; nt = true; sb = false; bl = false; ov = false; cy = false; ca = false }

-- IV, NT, SB and BL
abbrev pub all_flags : Quality
all_flags = record { iv = true; nt = true; sb = true; bl = true; ov = false; cy = false; ca = false }

-- OV
abbrev pub overflow : Quality
overflow = record { iv = false; nt = false; sb = false; bl = false; ov = true; cy = false; ca = false }

-- CY
abbrev pub carry : Quality
carry = record { iv = false; nt = false; sb = false; bl = false; ov = false; cy = true; ca = false }

-- an observation without time, under the common address 1
abbrev pub untimed_observation : ℕ → Value → Quality → Observation
untimed_observation address value quality =
    record { common = 1; address = address; value = value; quality = quality; stamp = Untimed }

-- the same under another common address
abbrev pub under : ℕ → Observation → Observation
under common x = record x { common = common }

-- a single-point and a double-point that are on
abbrev pub single_on : ℕ → Observation
single_on address = untimed_observation address (Single true) good

abbrev pub double_on : ℕ → Observation
double_on address = untimed_observation address (Double 2) good

-- an observation at an instant, and one in doubt
abbrev pub timed_observation : ℕ → Value → Quality → ℕ → Observation
timed_observation address value quality t =
    record { common = 1; address = address; value = value; quality = quality; stamp = At t }

abbrev pub doubtful_observation : ℕ → Value → Quality → ℕ → Observation
doubtful_observation address value quality t =
    record { common = 1; address = address; value = value; quality = quality; stamp = Doubtful t }

-- a single-point with time
abbrev pub single_event : ℕ → Observation
single_event address = timed_observation address (Single true) good 1700000000000

-- the front of an ASDU: one single-point with time, spontaneous, of common address 1 and address 4101
abbrev pub event_front : List ℕ
event_front = 0x1E ∷ 0x01 ∷ 0x03 ∷ 0x00 ∷ 0x01 ∷ 0x00 ∷ 0x05 ∷ 0x10 ∷ 0x00 ∷ []

-- type identification, cause, common address and observations
abbrev pub asdu : ℕ → ℕ → ℕ → List Observation → Asdu
asdu identification cause common observations = record {
  identification = identification;
  cause = cause;
  originator = 0;
  common_address = common;
  observations = observations;
}

-- what octets mean at a station whose clocks show UTC, and their first fault
abbrev pub meaning : List ℕ → Option Asdu
meaning octets = asdu_meaning (monitor_types utc) octets

abbrev pub reading : List ℕ → Result Asdu AsduFault
reading octets = asdu_read (monitor_types utc) octets

-- how many observations one ASDU carries, and whether under SQ 1, at a station whose clocks show UTC
abbrev pub packing : List Observation → Bool × ℕ
packing xs = (is_in_sequence utc xs, taken_of utc xs)

-- how many objects of each element fit, under SQ 0 without time and with time, and under SQ 1
abbrev pub rooms_apart : Bool → List ℕ
rooms_apart timed = map (λ kind. room_apart (type_length (record { element = kind; timed = timed }))) element_kinds

abbrev pub rooms_in_sequence : List ℕ
rooms_in_sequence =
    map (λ kind. room_in_sequence (type_length (record { element = kind; timed = false }))) element_kinds
