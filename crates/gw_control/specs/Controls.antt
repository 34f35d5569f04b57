-- The core's part for controls, as its contracts see it: the selections and orders of all clients, and what becomes of
-- them.
use Rattle.std.specs.Prelude.{◌≡◌, ℕ, ◌+◌, ◌^◌, ◌<◌, Bool, true, false, not, ◌&&◌}
use Rattle.std.specs.Prelude.{◌==◌, is_none, List, [], ◌∷◌, length, map, replicate, slice_get}
use Rattle.std.specs.Prelude.{Option, Some, None, option_and_then, if◌then◌else◌, IfSome}
use Rattle.std.specs.List.{AllByRecursion}
use Rattle.gw_model.specs.First.{when, first_of}
use Rattle.gw_model.specs.Places.{change}
use Rattle.gw_model.specs.declared.control.Act.{Act}
use Rattle.gw_model.specs.declared.control.Order.{Order}
use Rattle.gw_model.specs.declared.control.Ended.{Ended}
use Rattle.gw_entries.specs.declared.control.Control.{Control}
use Rattle.gw_entries.specs.declared.control.Mode.{Mode}
use Rattle.gw_entries.specs.declared.control.Mode.TheVariants.{Direct, Sbo}
use Rattle.gw_map.specs.Settings.{Setup}
use Rattle.gw_entries.specs.declared.control.Operates.{Operates}
use Rattle.gw_entries.specs.declared.control.Operates.TheVariants as operated
use Rattle.iec_command.specs.declared.command.Action.{Action}
use Rattle.iec_command.specs.declared.command.Action.TheVariants.{Double, Setpoint}
use Rattle.gw_control.specs.declared.asked.AskedCommand.{AskedCommand}
use Rattle.gw_control.specs.declared.accepted.Accepted.{Accepted}
use Rattle.gw_control.specs.declared.answer.Answer.{Answer}
use Rattle.gw_control.specs.declared.answer.Answer.TheVariants.{Confirm, Negative, Unknown, Ordered}
use Rattle.gw_control.specs.declared.answer.Outcome.{Outcome}
use Rattle.gw_control.specs.declared.selection.Selection.{Selection}
use Rattle.gw_control.specs.declared.refusal.Refusal.{Refusal}
use Rattle.gw_control.specs.declared.refusal.Refusal.TheVariants.{Qualifier, NoState, OutOfRange, OutstationDown}
use Rattle.gw_control.specs.declared.refusal.Refusal.TheVariants.{SelectedByAnother, NotSelected, UnlikeSelect, NoPlace}
use Rattle.gw_control.specs.Intents.{act_of, command_intent, control_for, intent_of, state_of}
use Rattle.gw_control.specs.Selections.{asks_same, is_own, is_select, is_selected, is_taken, selection_by, standing_in, unselected_by}
use Rattle.gw_control.specs.Orders.{Outgoing, is_full, nothing_outgoing, order_given, outcome_at}
use Rattle.gw_control.specs.Orders.{outcome_lost, outgoing_after_end, outgoing_after_ended}
use Rattle.gw_control.specs.Orders.{outgoing_after_lost, outgoing_after_taking, outgoing_with, IsInOrder}

pub record Controls : Type 0 where
  -- for each client the session that stands, where a control was selected in it
  pub sessions : List (Option ℕ)
  -- for each control the last selection, whether it stands or not
  pub selections : List (Option Selection)
  -- for each outstation its orders
  pub outgoing : List Outgoing
  -- how many orders there were
  pub ordered : ℕ

-- there can be so many clients
abbrev pub clients : ℕ
clients = 8

-- no selection, and no order that waits, after so many orders
abbrev pub no_controls_after : ℕ → Setup → Controls
no_controls_after ordered setup = record {
  sessions = replicate clients None;
  selections = replicate (length setup.controls) None;
  outgoing = replicate (length setup.outstations) nothing_outgoing;
  ordered = ordered;
}

-- no selection, no order
abbrev pub no_controls : Setup → Controls
no_controls setup = no_controls_after 0 setup

-- the selection of a control that stands at a moment
abbrev pub standing_at : Setup → ℕ → ℕ → Controls → Option Selection
standing_at setup moment position v =
    standing_in setup.station.select_ms moment v.sessions (slice_get v.selections position)

-- ---- why a command is answered negatively

-- what it does to its control
abbrev pub act_by : AskedCommand → Control → Option Act
act_by a control = act_of a.command.action control.operates

-- what of its element isn't permitted, where it does nothing
abbrev pub element_refusal : Action → Operates → Refusal
element_refusal (Double command) (operated.Double pulses) =
    if is_none (state_of command.state) then NoState else Qualifier
element_refusal (Setpoint command) (operated.Setpoint scale) = if command.qualifier == 0 then OutOfRange else Qualifier
element_refusal _ _ = Qualifier

-- the client has it selected for something else, or hasn't
abbrev pub selection_refusal : AskedCommand → Option Selection → Refusal
selection_refusal a standing = if is_own a standing then UnlikeSelect else NotSelected

-- no further order may wait; none may where there is no such outstation
abbrev pub is_full_at : Option Outgoing → Bool
is_full_at None = true
is_full_at (Some o) = is_full o

-- of a deactivation
abbrev pub refusals_of_deactivation : AskedCommand → Option Selection → List (Option Refusal)
refusals_of_deactivation a standing = when (not (is_own a standing)) NotSelected ∷ []

-- of a select
abbrev pub refusals_of_select : AskedCommand → Control → Option Selection → List (Option Refusal)
refusals_of_select a control standing =
    when (is_none (act_by a control)) (element_refusal a.command.action control.operates)
    ∷ when (is_taken a standing) SelectedByAnother
    ∷ []

-- of an execute
abbrev pub refusals_of_execute : AskedCommand → Control → Option Selection → Controls → List (Option Refusal)
refusals_of_execute a control standing v =
    when (is_none (act_by a control)) (element_refusal a.command.action control.operates)
    ∷ when (not a.up) OutstationDown
    ∷ when (is_taken a standing) SelectedByAnother
    ∷ when (control.select && not (is_selected a standing)) (selection_refusal a standing)
    ∷ when (is_full_at (slice_get v.outgoing control.outstation)) NoPlace
    ∷ []

-- ---- what is answered

abbrev pub confirmed_if : Bool → Answer
confirmed_if told = if told then Confirm else Negative

abbrev pub is_selectable : AskedCommand → Control → Option Selection → Bool
is_selectable a control standing = is_none (first_of (refusals_of_select a control standing))

abbrev pub act_unless : Option Refusal → Option Act → Option Act
act_unless None act = act
act_unless (Some why) act = None

-- what an execute that is accepted does to its control
abbrev pub act_accepted : AskedCommand → Control → Option Selection → Controls → Option Act
act_accepted a control standing v =
    act_unless (first_of (refusals_of_execute a control standing v)) (act_by a control)

-- after so many orders
abbrev pub answer_to_act : ℕ → Option Act → Answer
answer_to_act count None = Negative
answer_to_act count (Some act) = Ordered (count + 1)

-- a deactivation has cause 8
abbrev pub is_deactivation : AskedCommand → Bool
is_deactivation a = a.command.cause == 8

abbrev pub answer_for : AskedCommand → Control → Option Selection → Controls → Answer
answer_for a control standing v =
    if is_deactivation a then confirmed_if (is_own a standing)
    else if is_select a.command.action then confirmed_if (is_selectable a control standing)
    else answer_to_act v.ordered (act_accepted a control standing v)

-- why it is answered negatively, if it is
abbrev pub refusal_for : AskedCommand → Control → Option Selection → Controls → Option Refusal
refusal_for a control standing v =
    if is_deactivation a then first_of (refusals_of_deactivation a standing)
    else if is_select a.command.action then first_of (refusals_of_select a control standing)
    else first_of (refusals_of_execute a control standing v)

abbrev pub answer_at : Setup → AskedCommand → Option (ℕ × Control) → Controls → Answer
answer_at setup a None v = Unknown
answer_at setup a (Some found) v = answer_for a found.1 (standing_at setup a.moment found.0 v) v

abbrev pub answer_of : Setup → AskedCommand → Controls → Answer
answer_of setup a v = answer_at setup a (control_for setup a.command) v

-- none where no control of its type has the addresses: that is answered otherwise
abbrev pub refusal_at : Setup → AskedCommand → Option (ℕ × Control) → Controls → Option Refusal
refusal_at setup a None v = None
refusal_at setup a (Some found) v = refusal_for a found.1 (standing_at setup a.moment found.0 v) v

abbrev pub refusal_of : Setup → AskedCommand → Controls → Option Refusal
refusal_of setup a v = refusal_at setup a (control_for setup a.command) v

abbrev pub is_order : Answer → Bool
is_order Confirm = false
is_order Negative = false
is_order Unknown = false
is_order (Ordered number) = true

-- the count of orders can rise where it has to
abbrev pub CanAnswer : Setup → AskedCommand → Controls → Type 0
CanAnswer setup a v = is_order (answer_of setup a v) ≡ true → v.ordered + 1 < 2 ^ 64

-- ---- what becomes of selections and orders

-- the client has a control selected no more
abbrev pub controls_unselecting : AskedCommand → ℕ → Controls → Controls
controls_unselecting a position v =
    record v { selections = change position (unselected_by a.client) v.selections }

-- the client selects a control
abbrev pub controls_selecting : AskedCommand → ℕ → Controls → Controls
controls_selecting a position v = record v {
  sessions = change a.client (λ _. Some a.session) v.sessions;
  selections = change position (λ _. Some (selection_by a)) v.selections;
}

abbrev pub is_sbo : Mode → Bool
is_sbo Direct = false
is_sbo Sbo = true

-- an execute that was accepted, with its number
abbrev pub accepted_by : AskedCommand → Control → Act → ℕ → Accepted
accepted_by a control act number = record {
  order = record { number = number; intent = intent_of control act; sbo = is_sbo control.mode };
  client = a.client;
  session = a.session;
  command = a.command;
}

-- it is an order
abbrev pub controls_ordering : AskedCommand → Control → Option Act → Controls → Controls
controls_ordering a control None v = v
controls_ordering a control (Some act) v = record v {
  outgoing = change control.outstation (outgoing_with (accepted_by a control act (v.ordered + 1))) v.outgoing;
  ordered = v.ordered + 1;
}

-- an execute ends its client's selection, accepted or not
abbrev pub controls_after_for : AskedCommand → ℕ → Control → Option Selection → Controls → Controls
controls_after_for a position control standing v =
    if is_deactivation a then controls_unselecting a position v
    else if is_select a.command.action
    then (if is_selectable a control standing then controls_selecting a position v else v)
    else controls_ordering a control (act_accepted a control standing v) (controls_unselecting a position v)

abbrev pub controls_after_at : Setup → AskedCommand → Option (ℕ × Control) → Controls → Controls
controls_after_at setup a None v = v
controls_after_at setup a (Some found) v =
    controls_after_for a found.0 found.1 (standing_at setup a.moment found.0 v) v

-- a command came
abbrev pub controls_after_command : Setup → AskedCommand → Controls → Controls
controls_after_command setup a v = controls_after_at setup a (control_for setup a.command) v

-- ---- orders on their way

-- the order that is given next for an outstation
abbrev pub order_at : Option Outgoing → Option Order
order_at o = option_and_then order_given o

abbrev pub controls_after_taking : ℕ → Controls → Controls
controls_after_taking outstation v =
    record v { outgoing = change outstation outgoing_after_taking v.outgoing }

-- the order under way to an outstation ended
abbrev pub outcome_ended_at : Ended → Option Outgoing → Option Outcome
outcome_ended_at ended o = option_and_then (outcome_at ended) o

abbrev pub controls_after_ended : ℕ → Ended → Controls → Controls
controls_after_ended outstation ended v =
    record v { outgoing = change outstation (outgoing_after_ended ended) v.outgoing }

-- an outstation is lost
abbrev pub outcome_lost_at : Option Outgoing → Option Outcome
outcome_lost_at o = option_and_then outcome_lost o

abbrev pub controls_after_lost : ℕ → Controls → Controls
controls_after_lost outstation v = record v { outgoing = change outstation outgoing_after_lost v.outgoing }

-- a client's session ended
abbrev pub controls_after_end : ℕ → Controls → Controls
controls_after_end client v = record v {
  sessions = change client (λ _. None) v.sessions;
  outgoing = map (outgoing_after_end client) v.outgoing;
}

-- ---- what is known of an execute that is accepted

-- a client has a control selected in a session, for the same as an action asks
pub record IsSelectedFor (client session : ℕ) (action : Action) (standing : Option Selection) : Type 0 where
  pub selection : Selection
  pub stands : standing ≡ Some selection
  pub is_its : selection.client ≡ client
  pub is_of_session : selection.session ≡ session
  pub is_same : asks_same selection.action action ≡ true

pub record IsAccepted (a : AskedCommand) (control : Control) (standing : Option Selection) (v : Controls) (act : Act)
    : Type 0 where
  -- what its order asks is what the command asks
  pub intent : command_intent control a.command ≡ Some (intent_of control act)
  pub up : a.up ≡ true
  -- no other client has the control selected
  pub free : IfSome standing (λ selection. selection.client ≡ a.client)
  -- where the control wants it, the command's client has, in the session that stands for it, and for the same
  pub selected : control.select ≡ true → IsSelectedFor a.client a.session a.command.action standing
  pub place : is_full_at (slice_get v.outgoing control.outstation) ≡ false

-- ---- what they keep

-- the orders of each outstation are in order
abbrev pub AreInOrder : ℕ → List Outgoing → Type 0
AreInOrder count outgoing = AllByRecursion (IsInOrder count) outgoing
