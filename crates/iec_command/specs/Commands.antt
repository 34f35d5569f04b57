-- Commands: ASDUs in control direction with one information object (IEC 60870-5-101, 7.3.2 and 7.3.4), how they are
-- spelled, and what octets tell.
use Rattle.std.specs.Prelude.{ℕ, ◌+◌, ◌*◌, ◌/◌, ◌%◌, ◌^◌, ◌<◌, Bool, not, ◌||◌, ◌==◌}
use Rattle.std.specs.Prelude.{nat_lt, List, [], ◌∷◌, ◌++◌, length, take, drop, slice_index, slice_set}
use Rattle.std.specs.Prelude.{Option, Some, None, Result, Ok, Err, FitsSigned, if◌then◌else◌}
use Rattle.std.specs.Int.{w16, w32, to_le_bytes, from_le_bytes, cast_signed, cast_unsigned}
use Rattle.gw_model.specs.Bits.{bit, is_set}
use Rattle.gw_model.specs.First.{when, first_of}
use Rattle.iec_command.specs.declared.command.SingleCommand.{SingleCommand}
use Rattle.iec_command.specs.declared.command.DoubleCommand.{DoubleCommand}
use Rattle.iec_command.specs.declared.command.SetpointCommand.{SetpointCommand}
use Rattle.iec_command.specs.declared.command.Action.{Action}
use Rattle.iec_command.specs.declared.command.Action.TheVariants.{Single, Double, Setpoint, Interrogation, CounterInterrogation, Read}
use Rattle.iec_command.specs.declared.command.Command.{Command}
use Rattle.iec_command.specs.declared.fault.CommandFault.{CommandFault}
use Rattle.iec_command.specs.declared.fault.CommandFault.TheVariants.{Short, Long, UnknownType, Count}

-- ---- octets

-- cause of transmission (7.2.3): bits 0 to 5 the cause, bit 6 P/N, bit 7 T
abbrev pub cause_octet : ℕ → Bool → Bool → ℕ
cause_octet cause negative test = cause % 64 + bit 6 negative + bit 7 test

-- SCO (7.2.6.15): bit 0 the state, bit 1 reserved, bits 2 to 6 QU, bit 7 S/E
abbrev pub single_octet : SingleCommand → ℕ
single_octet x = bit 0 x.on + bit 1 x.reserved + 4 * (x.qualifier % 32) + bit 7 x.select

abbrev pub single_of : ℕ → SingleCommand
single_of sco = record { on = is_set 0 sco; reserved = is_set 1 sco; qualifier = sco / 4 % 32; select = is_set 7 sco }

-- DCO (7.2.6.16): bits 0 and 1 the state, bits 2 to 6 QU, bit 7 S/E
abbrev pub double_octet : DoubleCommand → ℕ
double_octet x = x.state % 4 + 4 * (x.qualifier % 32) + bit 7 x.select

abbrev pub double_of : ℕ → DoubleCommand
double_of dco = record { state = dco % 4; qualifier = dco / 4 % 32; select = is_set 7 dco }

-- SVA (7.2.6.7), 16 bits in two's complement, and QOS (7.2.6.39): bits 0 to 6 QL, bit 7 S/E
abbrev pub setpoint_octets : SetpointCommand → List ℕ
setpoint_octets x = to_le_bytes w16 (cast_unsigned w16 x.value) ++ (x.qualifier % 128 + bit 7 x.select) ∷ []

abbrev pub setpoint_of : List ℕ → SetpointCommand
setpoint_of element =
    let qos = slice_index element 2 in
    record { value = cast_signed w16 (from_le_bytes w16 element); qualifier = qos % 128; select = is_set 7 qos }

-- ---- a command's octets

-- C_SC_NA_1, C_DC_NA_1, C_SE_NB_1, C_IC_NA_1, C_CI_NA_1 and C_RD_NA_1
abbrev pub type_of : Action → ℕ
type_of (Single x) = 45
type_of (Double x) = 46
type_of (Setpoint x) = 49
type_of (Interrogation qualifier) = 100
type_of (CounterInterrogation qualifier) = 101
type_of Read = 102

-- the information element: QOI and QCC are an octet, a read command has none
abbrev pub element_of : Action → List ℕ
element_of (Single x) = single_octet x ∷ []
element_of (Double x) = double_octet x ∷ []
element_of (Setpoint x) = setpoint_octets x
element_of (Interrogation qualifier) = qualifier ∷ []
element_of (CounterInterrogation qualifier) = qualifier ∷ []
element_of Read = []

-- type identification; variable structure qualifier, SQ 0 and one object; cause; originator; common address, address
-- and element, low octet first
abbrev pub spelling : Command → List ℕ
spelling c =
    type_of c.action ∷ 1 ∷ cause_octet c.cause c.negative c.test ∷ c.originator
    ∷ (to_le_bytes w16 c.common_address ++ take 3 (to_le_bytes w32 c.address) ++ element_of c.action)

-- ---- what octets tell

abbrev pub is_known : ℕ → Bool
is_known identification =
    (identification == 45) || (identification == 46) || (identification == 49)
    || (identification == 100) || (identification == 101) || (identification == 102)

-- how many octets the element of a known type has
abbrev pub element_length : ℕ → ℕ
element_length identification = if identification == 49 then 3 else if identification == 102 then 0 else 1

-- what the element of a known type asks for
abbrev pub action_of : ℕ → List ℕ → Action
action_of identification element =
    let first = slice_index element 0 in
    if identification == 45 then Single (single_of first)
    else if identification == 46 then Double (double_of first)
    else if identification == 49 then Setpoint (setpoint_of element)
    else if identification == 100 then Interrogation first
    else if identification == 101 then CounterInterrogation first
    else Read

-- what the octets of a whole command tell
abbrev pub command_in : List ℕ → Command
command_in octets =
    let cause = slice_index octets 2 in
    record {
      cause = cause % 64;
      negative = is_set 6 cause;
      test = is_set 7 cause;
      originator = slice_index octets 3;
      common_address = slice_index octets 4 + 256 * slice_index octets 5;
      address = slice_index octets 6 + 256 * slice_index octets 7 + 65536 * slice_index octets 8;
      action = action_of (slice_index octets 0) (drop 9 octets);
    }

-- what may be wrong: the first comes first
abbrev pub faults : List ℕ → List (Option CommandFault)
faults octets =
    let whole = 9 + element_length (slice_index octets 0) in
    when (nat_lt (length octets) 6) Short
    ∷ when (not (is_known (slice_index octets 0))) UnknownType
    ∷ when (not (slice_index octets 1 == 1)) Count
    ∷ when (nat_lt (length octets) whole) Short
    ∷ when (nat_lt whole (length octets)) Long
    ∷ []

abbrev pub unless : Option CommandFault → Command → Result Command CommandFault
unless None c = Ok c
unless (Some fault) c = Err fault

-- the command that octets spell, or their first fault
unfoldable pub command_of : List ℕ → Result Command CommandFault
command_of octets = unless (first_of (faults octets)) (command_in octets)

-- ---- a command whose fields have the bits of their places

abbrev pub IsWholeAction : Action → Type 0
IsWholeAction (Single x) = x.qualifier < 32
IsWholeAction (Double x) = (x.state < 4) × (x.qualifier < 32)
IsWholeAction (Setpoint x) = FitsSigned w16 x.value × (x.qualifier < 128)
IsWholeAction (Interrogation qualifier) = qualifier < 256
IsWholeAction (CounterInterrogation qualifier) = qualifier < 256
IsWholeAction Read = Unit {0}

pub record IsWhole (c : Command) : Type 0 where
  pub cause : c.cause < 2 ^ 6
  pub originator : c.originator < 2 ^ 8
  pub common_address : c.common_address < 2 ^ 16
  pub address : c.address < 2 ^ 24
  pub action : IsWholeAction c.action

-- ---- an answer

-- the same octets with this cause and P/N; T as it came
abbrev pub mirrored : ℕ → Bool → List ℕ → List ℕ
mirrored cause negative octets =
    slice_set octets 2 (cause_octet cause negative (is_set 7 (slice_index octets 2)))
