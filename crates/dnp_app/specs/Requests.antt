-- The requests of this master by their octets (IEEE Std 1815, 4.2.2 and 4.4): one fragment each, which asks for no
-- confirmation.
use Rattle.std.specs.Prelude.{ℕ, ◌+◌, ◌-◌, ◌/◌, ◌%◌, Bool, List, [], ◌∷◌, ◌++◌}
use Rattle.std.specs.Prelude.{length, replicate, take, Some, None, if◌then◌else◌}
use Rattle.std.specs.Int.{w16, w32, to_le_bytes, cast_unsigned}
use Rattle.gw_model.specs.declared.control.Shape.{Shape}
use Rattle.gw_model.specs.declared.control.Shape.TheVariants.{Latch, Pulse}
use Rattle.gw_model.specs.declared.control.Act.{Act}
use Rattle.gw_model.specs.declared.control.Act.TheVariants.{Switch, Set}
use Rattle.dnp_app.specs.declared.operation.Operation.{Operation}
use Rattle.dnp_app.specs.declared.operation.Operation.TheVariants.{Select, Operate, DirectOperate}
use Rattle.dnp_app.specs.declared.request.Request.{Request}

-- application control, FIR and FIN with the sequence number, and the function code
abbrev pub request_header : ℕ → ℕ → List ℕ
request_header sequence function = (192 + sequence) ∷ function ∷ []

-- objects of events of classes 1, 2 and 3 (group 60, variations 2 to 4), and of static values, which are class 0
-- (variation 1), each under qualifier 06: all of them
abbrev pub event_classes : List ℕ
event_classes = 0x3C ∷ 2 ∷ 6 ∷ 0x3C ∷ 3 ∷ 6 ∷ 0x3C ∷ 4 ∷ 6 ∷ []

abbrev pub all_classes : List ℕ
all_classes = event_classes ++ 0x3C ∷ 1 ∷ 6 ∷ []

-- READ: an integrity poll asks for all classes, an event poll for events
abbrev pub read_octets : Bool → ℕ → List ℕ
read_octets integrity sequence = request_header sequence 1 ++ (if integrity then all_classes else event_classes)

-- ENABLE_UNSOLICITED and DISABLE_UNSOLICITED for the events of all classes
abbrev pub enable_octets : ℕ → List ℕ
enable_octets sequence = request_header sequence 20 ++ event_classes

abbrev pub disable_octets : ℕ → List ℕ
disable_octets sequence = request_header sequence 21 ++ event_classes

-- WRITE of internal indication 7, device restart: group 80 variation 1, from 7 to 7, a packed 0
abbrev pub clear_restart_octets : ℕ → List ℕ
clear_restart_octets sequence = request_header sequence 2 ++ 0x50 ∷ 1 ∷ 0 ∷ 7 ∷ 7 ∷ 0 ∷ []

-- RECORD_CURRENT_TIME
abbrev pub record_time_octets : ℕ → List ℕ
record_time_octets sequence = request_header sequence 24

-- the low 48 bits of a time, low octet first
abbrev pub time_octets : ℕ → List ℕ
time_octets time =
    time % 256 ∷ (time / 256) % 256 ∷ (time / 65536) % 256 ∷ (time / 16777216) % 256 ∷ (time / 4294967296) % 256
    ∷ (time / 1099511627776) % 256 ∷ []

-- WRITE of the time at which RECORD_CURRENT_TIME was sent: group 50 variation 3, one of them
abbrev pub write_time_octets : ℕ → ℕ → List ℕ
write_time_octets time sequence = request_header sequence 2 ++ 0x32 ∷ 3 ∷ 7 ∷ 1 ∷ time_octets time

-- ---- controls

-- SELECT, OPERATE and DIRECT_OPERATE
abbrev pub function_code : Operation → ℕ
function_code Select = 3
function_code Operate = 4
function_code DirectOperate = 5

-- a control relay output block, or a 16-bit analog output block
abbrev pub group_of : Act → ℕ
group_of (Switch on shape) = 12
group_of (Set value) = 41

abbrev pub variation_of : Act → ℕ
variation_of (Switch on shape) = 1
variation_of (Set value) = 2

-- LATCH_ON and LATCH_OFF; CLOSE and TRIP, each with PULSE_ON
abbrev pub relay_code : Bool → Shape → ℕ
relay_code on Latch = if on then 0x03 else 0x04
relay_code on (Pulse milliseconds) = if on then 0x41 else 0x81

abbrev pub on_time : Shape → ℕ
on_time Latch = 0
on_time (Pulse milliseconds) = milliseconds

-- a command's object: control code, count 1, on-time and off-time 0, or a value in two's complement; and status 0
abbrev pub command_object : Act → List ℕ
command_object (Switch on shape) =
    relay_code on shape ∷ 1 ∷ (to_le_bytes w32 (on_time shape) ++ 0 ∷ 0 ∷ 0 ∷ 0 ∷ 0 ∷ [])
command_object (Set value) = to_le_bytes w16 (cast_unsigned w16 value) ++ 0 ∷ []

-- SELECT, OPERATE or DIRECT_OPERATE of one object: qualifier 28 hex, a count of 1 in two octets, an index of two octets
abbrev pub control_octets : Operation → ℕ → Act → ℕ → List ℕ
control_octets operation index act sequence =
    request_header sequence (function_code operation)
    ++ (group_of act ∷ variation_of act ∷ 0x28 ∷ 1 ∷ 0 ∷ (to_le_bytes w16 index ++ command_object act))

-- ---- requests

-- a request of octets, zeros behind them, that carries no control
abbrev pub request : List ℕ → Request
request octets = record { octets = octets ++ replicate (32 - length octets) 0; len = length octets; bond = None }

-- one that carries the control of a number
abbrev pub bound_request : ℕ → List ℕ → Request
bound_request number octets = record (request octets) { bond = Some number }

-- the octets of a request
abbrev pub octets_of : Request → List ℕ
octets_of r = take r.len r.octets
