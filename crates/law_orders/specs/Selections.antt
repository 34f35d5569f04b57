-- Which controls are selected, and by whom, by steps and replies alone. A select that is confirmed begins a selection,
-- in place of any other. It ends by its client's deactivation or execute, and with its client's session. It stands for
-- a time; then another client may select the control. When two commands ask for the same, and whether one is permitted,
-- is said here apart from the words that the code is proved by.
use Rattle.std.specs.Prelude.{ℕ, ◌-◌, ℤ, pos, negsuc, ◌*ℤ◌, int_div, int_le, Bool, false, ◌&&◌, ◌||◌, ◌==◌}
use Rattle.std.specs.Prelude.{is_none, nat_le, nat_lt, List, [], ◌∷◌, Option, Some, None, option_map, if◌then◌else◌}
use Rattle.std.specs.Ordering.{int_eq}
use Rattle.gw_model.specs.First.{when}
use Rattle.gw_entries.specs.declared.control.Control.{Control}
use Rattle.gw_entries.specs.declared.control.Operates.{Operates}
use Rattle.gw_entries.specs.declared.control.Operates.TheVariants as operated
use Rattle.gw_map.specs.Settings.{Setup}
use Rattle.iec_command.specs.declared.command.Action.{Action}
use Rattle.iec_command.specs.declared.command.Action.TheVariants.{Single, Double, Setpoint}
use Rattle.iec_command.specs.declared.command.Command.{Command}
use Rattle.iec_command.specs.Commands.{type_of}
use Rattle.gw_control.specs.Intents.{control_for}
use Rattle.gw_control.specs.Selections.{is_select}
use Rattle.gw_station.specs.Frames.{command_in}
use Rattle.gw_steps.specs.declared.step.Step.{Step}
use Rattle.gw_steps.specs.declared.step.Step.TheVariants as steps
use Rattle.gw_steps.specs.declared.step.Reply.{Reply}
use Rattle.gw_steps.specs.declared.step.Reply.TheVariants as replies
use Rattle.gw_steps.specs.State.{later}
use Rattle.gw_steps.specs.Steps.{moment_of}
use Rattle.gw_steps.specs.Runs.{Entry, unless_fault}
use Rattle.law_history.specs.Accepted.{moment_after}
use Rattle.law_orders.specs.Sessions.{ends_session}

-- ---- commands

-- the command for a control that is taken in a step, with its client
abbrev pub command_taken : Setup → Step → Reply → Option (ℕ × Command)
command_taken setup (steps.Frame c apdu moment) replies.Taken =
    option_map {U = ℕ × Command} (λ command. (c, command)) (command_in setup apdu)
command_taken setup _ reply = None

-- the moment of a step, which is never before the last one
abbrev pub moment_at : List Entry → Step → ℕ
moment_at past step = later (moment_after past) (moment_of step)

-- types 45, 46 and 49 (IEC 60870-5-101, 7.3.2)
abbrev pub commands_control : Action → Bool
commands_control action = (type_of action == 45) || (type_of action == 46) || (type_of action == 49)

-- SCS (7.2.6.15), DCS (7.2.6.16) or SVA (7.2.6.7)
abbrev pub value_in : Action → ℤ
value_in (Single command) = if command.on then pos 1 else pos 0
value_in (Double command) = pos command.state
value_in (Setpoint command) = command.value
value_in _ = pos 0

-- QU (7.2.6.26) or QL (7.2.6.39)
abbrev pub qualifier_in : Action → ℕ
qualifier_in (Single command) = command.qualifier
qualifier_in (Double command) = command.qualifier
qualifier_in (Setpoint command) = command.qualifier
qualifier_in _ = 0

-- two commands ask for the same: type, value and qualifier, whatever their S/E
abbrev pub is_same : Action → Action → Bool
is_same x y =
    commands_control x && (type_of x == type_of y) && int_eq (value_in x) (value_in y)
    && (qualifier_in x == qualifier_in y)

-- from -32768 to 32767
abbrev pub has_16_bits : ℤ → Bool
has_16_bits z = int_le (negsuc 32767) z && int_le z (pos 32767)

-- what may be asked of a control: QU from 0 to 3; DCS 1 or 2; QL 0, and SVA * num / den, truncated toward zero, has 16
-- bits
abbrev pub permits : Operates → Action → Bool
permits (operated.Single pulses) (Single command) = nat_le command.qualifier 3
permits (operated.Double pulses) (Double command) =
    ((command.state == 1) || (command.state == 2)) && nat_le command.qualifier 3
permits (operated.Setpoint scale) (Setpoint command) =
    (command.qualifier == 0) && has_16_bits (int_div (command.value *ℤ pos scale.num) (pos scale.den))
permits _ _ = false

abbrev pub is_permitted : Control → Command → Bool
is_permitted control command = permits control.operates command.action

-- a deactivation has cause 8
abbrev pub is_deactivation : Command → Bool
is_deactivation command = command.cause == 8

-- ---- one control's selection

pub record Selected : Type 0 where
  pub client : ℕ
  -- what it was selected for
  pub action : Action
  pub since : ℕ

-- it stands at a moment
abbrev pub if_fresh : Setup → ℕ → Option Selected → Option Selected
if_fresh setup moment None = None
if_fresh setup moment (Some x) = when (nat_lt (moment - x.since) setup.station.select_ms) x

-- this client has the control selected
abbrev pub is_selected_by : ℕ → Option Selected → Bool
is_selected_by c None = false
is_selected_by c (Some x) = x.client == c

-- no other client has
abbrev pub is_free_for : ℕ → Option Selected → Bool
is_free_for c x = is_none x || is_selected_by c x

-- this client has, for the same
abbrev pub is_selected_for : ℕ → Action → Option Selected → Bool
is_selected_for c action None = false
is_selected_for c action (Some x) = (x.client == c) && is_same x.action action

-- a select is confirmed
abbrev pub may_select : Setup → ℕ → ℕ → Control → Command → Option Selected → Bool
may_select setup c moment control command x =
    is_permitted control command && is_free_for c (if_fresh setup moment x)

-- ---- how it changes

-- dropped where its client is one of these
abbrev pub unless_by : (ℕ → Bool) → Option Selected → Option Selected
unless_by left None = None
unless_by left (Some x) = if left x.client then None else Some x

-- a client's command for the control came at a moment
abbrev pub selected_after : Setup → ℕ → ℕ → Control → Command → Option Selected → Option Selected
selected_after setup c moment control command x =
    if is_deactivation command then unless_by (λ d. d == c) x
    else if is_select command.action
    then (if may_select setup c moment control command x
    then Some (record { client = c; action = command.action; since = moment }) else x)
    else unless_by (λ d. d == c) x

-- a command came that may be for the control at a position
abbrev pub selected_if : Setup → ℕ → ℕ → ℕ → Command → Option (ℕ × Control) → Option Selected → Option Selected
selected_if setup position c moment command None x = x
selected_if setup position c moment command (Some found) x =
    if found.0 == position then selected_after setup c moment found.1 command x else x

abbrev pub selected_by : Setup → ℕ → ℕ → Option (ℕ × Command) → Option Selected → Option Selected
selected_by setup position moment None x = x
selected_by setup position moment (Some came) x =
    selected_if setup position came.0 moment came.1 (control_for setup came.1) x

abbrev pub selected_with : Setup → ℕ → List Entry → Step → Option Selected → Reply → Option Selected
selected_with setup position past step x reply =
    selected_by setup position (moment_at past step) (command_taken setup step reply)
    (unless_by (ends_session step reply) x)

-- the selection of the control at a position, whether it is old or not
abbrev pub selected : Setup → ℕ → List Entry → Option Selected
selected setup position [] = None
selected setup position (e ∷ past) =
    let x = selected setup position past in
    unless_fault x (selected_with setup position past e.step x) e.reply

-- the one that stands at a moment
abbrev pub standing : Setup → ℕ → ℕ → List Entry → Option Selected
standing setup position moment past = if_fresh setup moment (selected setup position past)
