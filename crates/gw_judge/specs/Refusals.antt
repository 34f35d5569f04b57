-- With which cause of transmission an ASDU is sent back (IEC 60870-5-101, 7.2.3), and which closes the connection: by what
-- it spells, apart from the order of the refusals and from how rows and controls are looked up.
use Rattle.std.specs.Prelude.{◌≡◌, ◌≢◌, ℕ, ◌<◌, ◌≤◌, ◌⊎◌, List, length, slice_index, Ok}
use Rattle.gw_map.specs.Settings.{Setup}
use Rattle.iec_command.specs.declared.command.Command.{Command}
use Rattle.iec_command.specs.declared.command.Action.{Action}
use Rattle.iec_command.specs.Commands.{command_of, type_of}
use Rattle.gw_judge.specs.Acceptable.{HasKnownCause, IsFor, HasObject, object_for}

-- its type is that of a command
abbrev pub HasKnownType : List ℕ → Type 0
HasKnownType octets = (action : Action) × (slice_index octets 0 ≡ type_of action)

-- it is shorter than its header; or its type is that of a command, and it spells none
abbrev pub IsMalformed : List ℕ → Type 0
IsMalformed octets =
    (length octets < 6) ⊎ (HasKnownType octets × ((c : Command) → command_of octets ≢ Ok c))

-- 44: it has a whole header, and a type that is no command's
pub record HasUnknownType (octets : List ℕ) : Type 0 where
  pub header : 6 ≤ length octets
  pub unknown : HasKnownType octets → ⊥

-- 45: it spells a command, whose cause of transmission isn't known
pub record HasUnknownCause (octets : List ℕ) (c : Command) : Type 0 where
  pub spelled : command_of octets ≡ Ok c
  pub unknown : HasKnownCause c → ⊥

-- 46: it spells a command with a known cause, whose common address isn't known
pub record HasUnknownStation (setup : Setup) (octets : List ℕ) (c : Command) : Type 0 where
  pub spelled : command_of octets ≡ Ok c
  pub cause : HasKnownCause c
  pub unknown : IsFor setup c.action c.common_address → ⊥

-- 47: it spells a command with a known cause and a known common address, whose object isn't there
pub record HasUnknownObject (setup : Setup) (octets : List ℕ) (c : Command) : Type 0 where
  pub spelled : command_of octets ≡ Ok c
  pub cause : HasKnownCause c
  pub station : IsFor setup c.action c.common_address
  pub unknown : HasObject setup c.action (object_for c) → ⊥

-- an ASDU comes back with a cause
abbrev pub ComesBackWith : Setup → List ℕ → ℕ → Type 0
ComesBackWith setup octets cause =
    ((cause ≡ 44) × HasUnknownType octets)
    ⊎ ((c : Command) × (((cause ≡ 45) × HasUnknownCause octets c)
    ⊎ (((cause ≡ 46) × HasUnknownStation setup octets c) ⊎ ((cause ≡ 47) × HasUnknownObject setup octets c))))
