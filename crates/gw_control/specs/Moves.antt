-- What may happen to selections and orders, one thing after the other, and what the laws say of it.
use Rattle.std.specs.Prelude.{◌≡◌, ℕ, ◌+◌, ◌≤◌, Bool, true, false, not, ◌&&◌, ◌||◌}
use Rattle.std.specs.Prelude.{◌==◌, is_some, List, [], ◌∷◌, length, slice_get, Option, Some, None}
use Rattle.std.specs.List.{AllByRecursion}
use Rattle.gw_model.specs.declared.control.Ended.{Ended}
use Rattle.gw_entries.specs.declared.control.Control.{Control}
use Rattle.gw_map.specs.Settings.{Setup}
use Rattle.iec_command.specs.declared.command.Action.{Action}
use Rattle.iec_command.specs.declared.command.Action.TheVariants.{Single, Double, Setpoint}
use Rattle.iec_command.specs.declared.command.Command.{Command}
use Rattle.iec_command.specs.Commands.{IsWhole}
use Rattle.gw_control.specs.declared.asked.AskedCommand.{AskedCommand}
use Rattle.gw_control.specs.declared.accepted.Accepted.{Accepted}
use Rattle.gw_control.specs.declared.accepted.UnderWay.{UnderWay}
use Rattle.gw_control.specs.declared.selection.Selection.{Selection}
use Rattle.gw_control.specs.Intents.{control_for}
use Rattle.gw_control.specs.Orders.{Outgoing}
use Rattle.gw_control.specs.Controls.{Controls, clients, controls_after_command, controls_after_end}
use Rattle.gw_control.specs.Controls.{controls_after_ended, controls_after_lost}
use Rattle.gw_control.specs.Controls.{controls_after_taking, outcome_ended_at, AreInOrder}

pub data Move : Type 0 where
  -- a command comes
  Comes : AskedCommand → Move
  -- the next order is given for an outstation
  Takes : ℕ → Move
  -- the order under way to an outstation ends
  Ends : ℕ → Ended → Move
  -- an outstation is lost: the oldest order that waits fails
  Loses : ℕ → Move
  -- a client's session ends
  Leaves : ℕ → Move

abbrev pub after_move : Setup → Move → Controls → Controls
after_move setup (Comes a) v = controls_after_command setup a v
after_move setup (Takes outstation) v = controls_after_taking outstation v
after_move setup (Ends outstation ended) v = controls_after_ended outstation ended v
after_move setup (Loses outstation) v = controls_after_lost outstation v
after_move setup (Leaves client) v = controls_after_end client v

-- ---- outcomes

abbrev pub one_if : Bool → ℕ
one_if true = 1
one_if false = 0

abbrev pub has_number : ℕ → Option Accepted → Bool
has_number n None = false
has_number n (Some x) = x.order.number == n

-- the oldest that waits has this number
abbrev pub is_oldest : ℕ → Option Outgoing → Bool
is_oldest n None = false
is_oldest n (Some o) = has_number n (slice_get o.waiting 0)

-- how many outcomes of the order with a number something brings
abbrev pub outcomes_by : ℕ → Move → Controls → ℕ
outcomes_by n (Comes a) v = 0
outcomes_by n (Takes outstation) v = 0
outcomes_by n (Ends outstation ended) v =
    one_if ((ended.number == n) && is_some (outcome_ended_at ended (slice_get v.outgoing outstation)))
outcomes_by n (Loses outstation) v = one_if (is_oldest n (slice_get v.outgoing outstation))
outcomes_by n (Leaves client) v = 0

-- how many all of these do, the first one first
abbrev pub outcomes_told : Setup → ℕ → List Move → Controls → ℕ
outcomes_told setup n [] v = 0
outcomes_told setup n (m ∷ ms) v = outcomes_by n m v + outcomes_told setup n ms (after_move setup m v)

-- ---- selections

abbrev pub is_at : ℕ → Option (ℕ × Control) → Bool
is_at position None = false
is_at position (Some found) = found.0 == position

-- a command is of another client, or for another control in the same session
abbrev pub is_apart : Setup → AskedCommand → ℕ → Selection → Bool
is_apart setup a position s =
    not (s.client == a.client) || ((s.session == a.session) && not (is_at position (control_for setup a.command)))

-- something leaves a selection of a control alone, up to a moment
abbrev pub Spares : Setup → ℕ → ℕ → Selection → Move → Type 0
Spares setup moment position s (Comes a) = (a.moment ≤ moment) × (is_apart setup a position s ≡ true)
Spares setup moment position s (Takes outstation) = Unit {0}
Spares setup moment position s (Ends outstation ended) = Unit {0}
Spares setup moment position s (Loses outstation) = Unit {0}
Spares setup moment position s (Leaves client) = (s.client == client) ≡ false

-- ---- what is kept

-- by settings: a place for each client, control and outstation, and the orders of each outstation are in order
pub record IsSoundControls (setup : Setup) (v : Controls) : Type 0 where
  pub sessions : length v.sessions ≡ clients
  pub selections : length v.selections ≡ length setup.controls
  pub outgoing : length v.outgoing ≡ length setup.outstations
  pub orders : AreInOrder v.ordered v.outgoing

-- a type operates controls
abbrev pub is_operating : Action → Bool
is_operating (Single command) = true
is_operating (Double command) = true
is_operating (Setpoint command) = true
is_operating _ = false

-- the command of an order has the bits of its places, and a type that operates controls
pub record IsWholeOrder (c : Command) : Type 0 where
  pub whole : IsWhole c
  pub operating : is_operating c.action ≡ true

-- the command of an order under way has a property, if there is one
abbrev pub OfUnderWay : (Command → Type 0) → Option UnderWay → Type 0
OfUnderWay P None = Unit {0}
OfUnderWay P (Some u) = P u.accepted.command

-- the command of each order of an outstation does
pub record OfOutgoing (P : Command → Type 0) (o : Outgoing) : Type 0 where
  pub waiting : AllByRecursion (λ x. P x.command) o.waiting
  pub under_way : OfUnderWay P o.under_way

-- the command of each order
abbrev pub AllCommands : (Command → Type 0) → Controls → Type 0
AllCommands P v = AllByRecursion (OfOutgoing P) v.outgoing

abbrev pub HasWholeCommands : Controls → Type 0
HasWholeCommands v = AllCommands IsWholeOrder v

-- a command that comes has the bits of its places
abbrev pub IsWholeMove : Move → Type 0
IsWholeMove (Comes a) = IsWhole a.command
IsWholeMove (Takes outstation) = Unit {0}
IsWholeMove (Ends outstation ended) = Unit {0}
IsWholeMove (Loses outstation) = Unit {0}
IsWholeMove (Leaves client) = Unit {0}
