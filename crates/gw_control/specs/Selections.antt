-- Clients' selections of controls: when they stand, and what they are good for.
use Rattle.std.specs.Prelude.{ℕ, ◌-◌, Bool, false, not, ◌&&◌, ◌==◌, nat_lt, List}
use Rattle.std.specs.Prelude.{slice_get, Option, Some, None, if◌then◌else◌}
use Rattle.std.proofs.Math.Bool.{beq}
use Rattle.std.specs.Ordering.{int_eq}
use Rattle.gw_model.specs.First.{when}
use Rattle.iec_command.specs.declared.command.Action.{Action}
use Rattle.iec_command.specs.declared.command.Action.TheVariants.{Single, Double, Setpoint}
use Rattle.iec_command.specs.declared.command.Command.{Command}
use Rattle.gw_control.specs.declared.asked.AskedCommand.{AskedCommand}
use Rattle.gw_control.specs.declared.selection.Selection.{Selection}

-- ---- commands

-- a command of a client in a session, whose outstation is up or not, at a moment
abbrev pub asked : ℕ → ℕ → Command → Bool → ℕ → AskedCommand
asked client session command up moment =
    record { client = client; session = session; command = command; up = up; moment = moment }

-- S/E (IEC 60870-5-101, 7.2.6.26 and 7.2.6.39): select, or else execute
abbrev pub is_select : Action → Bool
is_select (Single command) = command.select
is_select (Double command) = command.select
is_select (Setpoint command) = command.select
is_select _ = false

-- two commands ask for the same: type, value and QU. S/E and the reserved bit of an SCO don't count
abbrev pub asks_same : Action → Action → Bool
asks_same (Single a) (Single b) = beq a.on b.on && (a.qualifier == b.qualifier)
asks_same (Double a) (Double b) = (a.state == b.state) && (a.qualifier == b.qualifier)
asks_same (Setpoint a) (Setpoint b) = int_eq a.value b.value && (a.qualifier == b.qualifier)
asks_same _ _ = false

-- ---- which selection stands

abbrev pub is_session : ℕ → Option (Option ℕ) → Bool
is_session session (Some (Some current)) = current == session
is_session session _ = false

-- its session hasn't ended: for each client there is the session that stands
abbrev pub is_open : List (Option ℕ) → Selection → Bool
is_open sessions s = is_session s.session (slice_get sessions s.client)

-- less than so many milliseconds passed
abbrev pub is_fresh : ℕ → ℕ → Selection → Bool
is_fresh limit moment s = nat_lt (moment - s.since) limit

abbrev pub stands : ℕ → ℕ → List (Option ℕ) → Selection → Bool
stands limit moment sessions s = is_open sessions s && is_fresh limit moment s

abbrev pub standing_in : ℕ → ℕ → List (Option ℕ) → Option (Option Selection) → Option Selection
standing_in limit moment sessions (Some (Some s)) = when (stands limit moment sessions s) s
standing_in limit moment sessions _ = None

-- ---- whose it is

-- another client has the control selected
abbrev pub is_taken : AskedCommand → Option Selection → Bool
is_taken a None = false
is_taken a (Some s) = not (s.client == a.client)

-- the client has it selected, in its session
abbrev pub is_own : AskedCommand → Option Selection → Bool
is_own a None = false
is_own a (Some s) = (s.client == a.client) && (s.session == a.session)

-- and for what the command asks
abbrev pub is_selected : AskedCommand → Option Selection → Bool
is_selected a None = false
is_selected a (Some s) = is_own a (Some s) && asks_same s.action a.command.action

-- ---- how it changes

-- a control that the client had selected isn't selected any more
abbrev pub unselected_by : ℕ → Option Selection → Option Selection
unselected_by client None = None
unselected_by client (Some s) = if s.client == client then None else Some s

-- the client's selection by a command
abbrev pub selection_by : AskedCommand → Selection
selection_by a =
    record { client = a.client; session = a.session; action = a.command.action; since = a.moment }
