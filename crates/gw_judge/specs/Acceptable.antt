-- Which commands are acceptable, apart from the order of the refusals and from how rows and controls are looked up.
use Rattle.std.specs.Prelude.{◌≡◌, ◌≢◌, ◌⊎◌, ℕ, false, [], Any}
use Rattle.gw_entries.specs.declared.row.Show.TheVariants.{Total}
use Rattle.gw_entries.specs.declared.control.Pulses.{Pulses}
use Rattle.gw_entries.specs.declared.row.Scale.{Scale}
use Rattle.gw_entries.specs.declared.control.Operates.{Operates}
use Rattle.gw_entries.specs.declared.control.Operates.TheVariants as operated
use Rattle.gw_map.specs.Settings.{Setup, row_object, control_object}
use Rattle.gw_model.specs.declared.point.ObjectKey.{ObjectKey}
use Rattle.iec_command.specs.declared.command.Command.{Command}
use Rattle.iec_command.specs.declared.command.Action.{Action}
use Rattle.iec_command.specs.declared.command.Action.TheVariants.{Single, Double, Setpoint, Interrogation, CounterInterrogation, Read}

-- a read is a request; everything else is an activation or a deactivation
abbrev pub IsCauseOf : Action → ℕ → Type 0
IsCauseOf Read cause = cause ≡ 5
IsCauseOf _ cause = (cause ≡ 6) ⊎ (cause ≡ 8)

-- a common address that some outstation has, or that of the station where there is no outstation
abbrev pub HasAddress : Setup → ℕ → Type 0
HasAddress setup common =
    Any (λ outstation. outstation.common_address ≡ common) setup.outstations
    ⊎ ((setup.outstations ≡ []) × (common ≡ setup.station.common_address))

-- a command and a read are for a common address that is known, an interrogation for one or for all stations
abbrev pub IsFor : Setup → Action → ℕ → Type 0
IsFor setup (Interrogation qualifier) common = HasAddress setup common ⊎ (common ≡ 65535)
IsFor setup (CounterInterrogation qualifier) common = HasAddress setup common ⊎ (common ≡ 65535)
IsFor setup _ common = HasAddress setup common

-- some control of an object is operated so
abbrev pub HasControl : Setup → ObjectKey → (Operates → Type 0) → Type 0
HasControl setup object IsSo = Any (λ control. (control_object control ≡ object) × IsSo control.operates) setup.controls

-- an interrogation is for no object; a read is for a row that isn't shown as a total, a command for a control of its
-- type
abbrev pub HasObject : Setup → Action → ObjectKey → Type 0
HasObject setup (Interrogation qualifier) object = object.address ≡ 0
HasObject setup (CounterInterrogation qualifier) object = object.address ≡ 0
HasObject setup Read object = Any (λ row. (row_object row ≡ object) × (row.show ≢ Total)) setup.rows
HasObject setup (Single command) object = HasControl setup object (λ o. (p : Pulses) × (o ≡ operated.Single p))
HasObject setup (Double command) object = HasControl setup object (λ o. (p : Pulses) × (o ≡ operated.Double p))
HasObject setup (Setpoint command) object = HasControl setup object (λ o. (s : Scale) × (o ≡ operated.Setpoint s))

-- the object that a command is for
abbrev pub object_for : Command → ObjectKey
object_for c = record { common_address = c.common_address; address = c.address }

-- neither P/N nor T is set, and the cause of transmission is one of its type
pub record HasKnownCause (c : Command) : Type 0 where
  pub positive : c.negative ≡ false
  pub real : c.test ≡ false
  pub cause : IsCauseOf c.action c.cause

pub record IsAcceptable (setup : Setup) (c : Command) : Type 0 where
  pub cause : HasKnownCause c
  pub station : IsFor setup c.action c.common_address
  pub object : HasObject setup c.action (object_for c)
