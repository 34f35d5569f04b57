-- What steps are about, and what an APDU of a client is, as far as its operator is told.
use Rattle.std.specs.Prelude.{ℕ, Bool, true, false, List, [], ◌∷◌, take, slice_get}
use Rattle.std.specs.Prelude.{Option, Some, None, Result, Ok, Err, if◌then◌else◌}
use Rattle.std.specs.Int.{w16, w32, from_le_bytes}
use Rattle.iec_apci.specs.declared.apdu.Apdu.{Apdu}
use Rattle.iec_apci.specs.declared.apdu.Apdu.TheVariants.{I, S, U}
use Rattle.iec_command.specs.declared.command.Action.{Action}
use Rattle.iec_command.specs.declared.command.Action.TheVariants.{Single, Double, Setpoint, Interrogation, CounterInterrogation, Read}
use Rattle.iec_command.specs.declared.command.Command.{Command}
use Rattle.iec_command.specs.declared.fault.CommandFault.{CommandFault}
use Rattle.iec_command.specs.declared.fault.CommandFault.TheVariants as faults
use Rattle.iec_command.specs.Commands.{command_of}
use Rattle.gw_steps.specs.declared.apdu_kind.ApduKind.{ApduKind}
use Rattle.gw_steps.specs.declared.apdu_kind.ApduKind.TheVariants as kinds
use Rattle.gw_steps.specs.declared.step.Step.{Step}
use Rattle.gw_steps.specs.declared.step.Step.TheVariants as steps
use Rattle.gw_steps.specs.declared.step.StepKind.{StepKind}
use Rattle.gw_steps.specs.declared.step.StepKind.TheVariants as about

-- ---- steps

abbrev pub step_kind : Step → StepKind
step_kind (steps.OutstationUp o moment) = about.OutstationUp o
step_kind (steps.OutstationDown o moment) = about.OutstationDown o
step_kind (steps.Fragment f moment) = about.Fragment f.outstation
step_kind (steps.Poll o moment wall) = about.Poll o
step_kind (steps.ClientUp c moment) = about.ClientUp c
step_kind (steps.ClientDown c moment) = about.ClientDown c
step_kind (steps.Frame c apdu moment) = about.Frame c
step_kind (steps.Pump c moment) = about.Pump c
step_kind (steps.Tick moment) = about.Tick

-- ---- APDUs

-- a command operates a control
abbrev pub operates : Action → Bool
operates (Single x) = true
operates (Double x) = true
operates (Setpoint x) = true
operates (Interrogation qualifier) = false
operates (CounterInterrogation qualifier) = false
operates Read = false

-- the address of an object, by its three octets, low octet first
abbrev pub object_address : Option ℕ → Option ℕ → Option ℕ → Option ℕ
object_address (Some low) (Some middle) (Some high) = Some (from_le_bytes w32 (low ∷ middle ∷ high ∷ 0 ∷ []))
object_address _ _ _ = None

-- an I format with an ASDU of an unknown type, by its type, its common address and the address of its first object
abbrev pub unknown_by : Option ℕ → Option ℕ → Option ℕ → Option ℕ → ApduKind
unknown_by (Some identification) (Some low) (Some high) address = kinds.Unknown (record {
  identification = identification;
  common_address = from_le_bytes w16 (low ∷ high ∷ []);
  address = address;
})
unknown_by _ _ _ address = kinds.Other

abbrev pub unknown_in : List ℕ → ApduKind
unknown_in octets =
    unknown_by (slice_get octets 0) (slice_get octets 4) (slice_get octets 5)
    (object_address (slice_get octets 6) (slice_get octets 7) (slice_get octets 8))

-- an I format with these octets of an ASDU, which were read so
abbrev pub kind_refused : List ℕ → CommandFault → ApduKind
kind_refused octets faults.UnknownType = unknown_in octets
kind_refused octets faults.Short = kinds.Other
kind_refused octets faults.Long = kinds.Other
kind_refused octets faults.Count = kinds.Other

abbrev pub kind_read : List ℕ → Result Command CommandFault → ApduKind
kind_read octets (Ok command) = if operates command.action then kinds.Command command else kinds.Other
kind_read octets (Err fault) = kind_refused octets fault

abbrev pub kind_in : List ℕ → ApduKind
kind_in octets = kind_read octets (command_of octets)

-- what an APDU is
abbrev pub kind_of : Apdu → ApduKind
kind_of (I ns nr asdu) = kind_in (take asdu.len asdu.octets)
kind_of (S nr) = kinds.SFormat
kind_of (U signal) = kinds.UFormat signal
