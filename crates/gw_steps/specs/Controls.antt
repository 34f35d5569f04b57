-- What the controls' part of the state says of commands, and what becomes of orders.
use Rattle.std.specs.Prelude.{ℕ, zero, suc, Bool, false, List, [], ◌∷◌, ◌++◌, slice_get}
use Rattle.std.specs.Prelude.{slice_index, Option, Some, None, option_and_then, if◌then◌else◌}
use Rattle.std.specs.Option.{option_to_list}
use Rattle.gw_model.specs.Places.{change}
use Rattle.gw_model.specs.declared.control.Ended.{Ended}
use Rattle.gw_model.specs.declared.control.Order.{Order}
use Rattle.gw_entries.specs.declared.control.Control.{Control}
use Rattle.gw_map.specs.Settings.{Setup}
use Rattle.dnp_app.specs.Response.{Fragment}
use Rattle.dnp_master.specs.Master.{Master, ended_by_loss, is_ready}
use Rattle.dnp_master.specs.Fragments.{verdict_of}
use Rattle.dnp_master.specs.declared.verdict.Verdict.{Verdict}
use Rattle.dnp_master.specs.declared.verdict.Verdict.TheVariants.{Accepted, Repeated, Ignored}
use Rattle.iec_apci.specs.declared.apdu.Apdu.{Apdu}
use Rattle.iec_apci.specs.declared.apdu.Apdu.TheVariants.{U}
use Rattle.iec_apci.specs.declared.apdu.Signal.TheVariants.{StopAct}
use Rattle.iec_command.specs.declared.command.Command.{Command}
use Rattle.gw_control.specs.declared.asked.AskedCommand.{AskedCommand}
use Rattle.gw_control.specs.declared.answer.Answer.{Answer}
use Rattle.gw_control.specs.declared.answer.Answer.TheVariants as answers
use Rattle.gw_control.specs.declared.answer.Outcome.{Outcome}
use Rattle.gw_control.specs.Intents.{control_for}
use Rattle.gw_control.specs.Orders.{Outgoing}
use Rattle.gw_control.specs.Selections.{asked}
use Rattle.gw_control.specs.Controls.{Controls, answer_of, controls_after_command}
use Rattle.gw_control.specs.Controls.{controls_after_end, controls_after_ended, controls_after_lost}
use Rattle.gw_control.specs.Controls.{order_at, outcome_ended_at, outcome_lost_at}
use Rattle.gw_station.specs.declared.event.Event.{Event}
use Rattle.gw_station.specs.declared.event.Event.TheVariants as events
use Rattle.gw_station.specs.declared.event.Said.{Said}
use Rattle.gw_station.specs.declared.event.Said.TheVariants as saids
use Rattle.gw_station.specs.Client.{Client}
use Rattle.gw_station.specs.Answers.{client_told}
use Rattle.gw_steps.specs.State.{State}

-- ---- commands

abbrev pub is_up_at : Option Master → Bool
is_up_at None = false
is_up_at (Some m) = m.up

-- the outstation of the control that a command is for is up
abbrev pub is_control_up : List Master → Option (ℕ × Control) → Bool
is_control_up outstations None = false
is_control_up outstations (Some found) = is_up_at (slice_get outstations found.1.outstation)

-- a client's command, which came in its session at a moment
abbrev pub asked_by : Setup → State → ℕ → ℕ → Command → AskedCommand
asked_by setup s moment c command =
    asked c (slice_index s.sessions c) command (is_control_up s.outstations (control_for setup command)) moment

-- what the controls answer to it
abbrev pub answer_to : Setup → State → ℕ → ℕ → Command → Answer
answer_to setup s moment c command = answer_of setup (asked_by setup s moment c command) s.controls

-- what is said of it; the station gives no command for an address without a control of its type
abbrev pub said_by : Answer → Said
said_by answers.Confirm = saids.Confirm
said_by answers.Negative = saids.Negative
said_by answers.Unknown = saids.Negative
said_by (answers.Ordered number) = saids.Ordered

-- ---- sessions

-- an APDU that was taken ends the session: STOPDT act
abbrev pub controls_after_taken : ℕ → Apdu → Controls → Controls
controls_after_taken c (U StopAct) v = controls_after_end c v
controls_after_taken c _ v = v

-- an APDU of a client came, and this became of it
abbrev pub controls_after_event : Setup → State → ℕ → ℕ → Apdu → Event → Controls
controls_after_event setup s moment c apdu events.Taken = controls_after_taken c apdu s.controls
controls_after_event setup s moment c apdu (events.Command command) =
    controls_after_command setup (asked_by setup s moment c command) s.controls
controls_after_event setup s moment c apdu (events.Closed why) = controls_after_end c s.controls

-- clients are closed where this is so, the first one has this number
abbrev pub controls_after_closes : ℕ → List Bool → Controls → Controls
controls_after_closes c [] v = v
controls_after_closes c (closed ∷ more) v =
    controls_after_closes (suc c) more (if closed then controls_after_end c v else v)

-- ---- orders that are given

-- where its master is ready, the next order of an outstation is given before all that is due but OPERATE
abbrev pub order_for : Option Master → Option Outgoing → Option Order
order_for None outgoing = None
order_for (Some m) outgoing = if is_ready m then order_at outgoing else None

abbrev pub order_due : State → ℕ → Option Order
order_due s o = order_for (slice_get s.outstations o) (slice_get s.controls.outgoing o)

-- ---- orders that end

-- the order of an outstation that ended, if one did
abbrev pub outcome_ended : ℕ → Option Ended → Controls → Option Outcome
outcome_ended o None v = None
outcome_ended o (Some ended) v = outcome_ended_at ended (slice_get v.outgoing o)

abbrev pub controls_with_ended : ℕ → Option Ended → Controls → Controls
controls_with_ended o None v = v
controls_with_ended o (Some ended) v = controls_after_ended o ended v

-- those of all outstations from one on, in turn
abbrev pub outcomes_ended : ℕ → List (Option Ended) → Controls → List Outcome
outcomes_ended o [] v = []
outcomes_ended o (ended ∷ more) v =
    option_to_list (outcome_ended o ended v) ++ outcomes_ended (suc o) more (controls_with_ended o ended v)

abbrev pub controls_after_all_ended : ℕ → List (Option Ended) → Controls → Controls
controls_after_all_ended o [] v = v
controls_after_all_ended o (ended ∷ more) v = controls_after_all_ended (suc o) more (controls_with_ended o ended v)

-- an outstation is lost: so many orders that wait for it fail, the oldest first
abbrev pub outcomes_lost : ℕ → ℕ → Controls → List Outcome
outcomes_lost zero o v = []
outcomes_lost (suc n) o v =
    option_to_list (outcome_lost_at (slice_get v.outgoing o)) ++ outcomes_lost n o (controls_after_lost o v)

-- the order that ends with a fragment
abbrev pub ended_in : Verdict → Option Ended
ended_in (Accepted confirm end control) = control
ended_in (Repeated confirm) = None
ended_in (Ignored why) = None

abbrev pub ended_by_fragment : Fragment → Option Master → Option Ended
ended_by_fragment f None = None
ended_by_fragment f (Some m) = ended_in (verdict_of m f)

-- and with the loss of an outstation: the one that was given
abbrev pub ended_lost : Option Master → Option Ended
ended_lost m = option_and_then ended_by_loss m

-- ---- outcomes

abbrev pub said_of_outcome : Outcome → Said
said_of_outcome x = if x.done then saids.Done else saids.Failed

abbrev pub client_told_of : Outcome → Client → Client
client_told_of x k = client_told x.command (said_of_outcome x) k

abbrev pub client_told_all : List Outcome → Client → Client
client_told_all [] k = k
client_told_all (x ∷ xs) k = client_told_all xs (client_told_of x k)

-- each client is told of its own
abbrev pub clients_told : List Outcome → List Client → List Client
clients_told [] ks = ks
clients_told (x ∷ xs) ks = clients_told xs (change x.client (client_told_of x) ks)
