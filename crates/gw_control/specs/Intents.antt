-- What a command asks of an outstation, by the control that it is for.
use Rattle.std.specs.Prelude.{ℕ, ℤ, pos, negsuc, int_le, Bool, true, false}
use Rattle.std.specs.Prelude.{◌&&◌, ◌==◌, Option, Some, None, option_map, if◌then◌else◌}
use Rattle.gw_model.specs.Optional.{◌>>=◌}
use Rattle.gw_model.specs.declared.control.Shape.{Shape}
use Rattle.gw_model.specs.declared.control.Shape.TheVariants.{Latch, Pulse}
use Rattle.gw_model.specs.declared.control.Act.{Act}
use Rattle.gw_model.specs.declared.control.Act.TheVariants.{Switch, Set}
use Rattle.gw_model.specs.declared.control.Intent.{Intent}
use Rattle.gw_entries.specs.declared.control.Control.{Control}
use Rattle.gw_entries.specs.declared.control.Operates.{Operates}
use Rattle.gw_entries.specs.declared.control.Operates.TheVariants as operated
use Rattle.gw_entries.specs.declared.control.Pulses.{Pulses}
use Rattle.gw_entries.specs.declared.control.Rest.{Rest}
use Rattle.gw_entries.specs.declared.control.Rest.TheVariants as rests
use Rattle.gw_entries.specs.Scaling.{scaled_by}
use Rattle.gw_entries.specs.declared.row.Scale.{Scale}
use Rattle.gw_map.specs.Settings.{Setup, control_at_from}
use Rattle.iec_command.specs.declared.command.Action.{Action}
use Rattle.iec_command.specs.declared.command.Action.TheVariants.{Single, Double, Setpoint}
use Rattle.iec_command.specs.declared.command.Command.{Command}

-- ---- the control

-- controls that a type operates
abbrev pub is_of_type : Action → Operates → Bool
is_of_type (Single command) (operated.Single pulses) = true
is_of_type (Double command) (operated.Double pulses) = true
is_of_type (Setpoint command) (operated.Setpoint scale) = true
is_of_type _ _ = false

abbrev pub if_of_type : Action → Option (ℕ × Control) → Option (ℕ × Control)
if_of_type action None = None
if_of_type action (Some found) = if is_of_type action found.1.operates then Some found else None

-- the control that a command is for, with its position: it has the addresses, and is operated by the type
abbrev pub control_for : Setup → Command → Option (ℕ × Control)
control_for setup c = if_of_type c.action (control_at_from 0 c.common_address c.address setup.controls)

-- ---- the act

-- QU 0, no additional definition: as the control rests
abbrev pub shape_at_rest : Rest → ℕ → Shape
shape_at_rest rests.Latch short_ms = Latch
shape_at_rest rests.Short short_ms = Pulse short_ms

-- QU (IEC 60870-5-101, 7.2.6.26): 1 a short pulse, 2 a long pulse, 3 persistent output; no other one is permitted
abbrev pub shape_of : ℕ → Pulses → Option Shape
shape_of qualifier pulses =
    if qualifier == 0 then Some (shape_at_rest pulses.rest pulses.short_ms)
    else if qualifier == 1 then Some (Pulse pulses.short_ms)
    else if qualifier == 2 then Some (Pulse pulses.long_ms)
    else if qualifier == 3 then Some Latch
    else None

-- DCS (7.2.6.16): 1 off, 2 on; no other one is permitted
abbrev pub state_of : ℕ → Option Bool
state_of state = if state == 1 then Some false else if state == 2 then Some true else None

abbrev pub switched : Bool → ℕ → Pulses → Option Act
switched on qualifier pulses = option_map (Switch on) (shape_of qualifier pulses)

abbrev pub has_16_bits : ℤ → Bool
has_16_bits z = int_le (negsuc 32767) z && int_le z (pos 32767)

-- a set point multiplied so, where that has 16 bits
abbrev pub value_of : ℤ → Scale → Option ℤ
value_of z scale = if has_16_bits (scaled_by scale z) then Some (scaled_by scale z) else None

-- what a command does to a control that operates so; nothing where DCS, QU or QL isn't permitted, or where a set point
-- leaves 16 bits. QL (7.2.6.39) has to be 0
abbrev pub act_of : Action → Operates → Option Act
act_of (Single command) (operated.Single pulses) = switched command.on command.qualifier pulses
act_of (Double command) (operated.Double pulses) =
    state_of command.state >>= λ on. switched on command.qualifier pulses
act_of (Setpoint command) (operated.Setpoint scale) =
    if command.qualifier == 0 then option_map Set (value_of command.value scale) else None
act_of _ _ = None

-- ---- the intent

-- an act on the point of a control
abbrev pub intent_of : Control → Act → Intent
intent_of control act = record { outstation = control.outstation; index = control.index; act = act }

-- what a command asks of the outstation of a control
abbrev pub command_intent : Control → Command → Option Intent
command_intent control c = option_map (intent_of control) (act_of c.action control.operates)
