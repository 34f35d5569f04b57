-- The commands of orders, and of their outcomes, are for common addresses that are known.
use Rattle.std.specs.Option.{option_to_list}
use Rattle.std.specs.Prelude.{IfSome, slice_get}
use Rattle.std.specs.List.{AllByRecursion}
use Rattle.std.proofs.Common.{ℕ, zero, suc, Bool, true, false, cond, List, []}
use Rattle.std.proofs.Common.{◌∷◌, ◌++◌, map, Option, Some, None, Result, Ok, Err}
use Rattle.gw_model.specs.declared.control.Ended.{Ended}
use Rattle.gw_model.specs.declared.control.Order.{Order}
use Rattle.gw_map.specs.Settings.{Setup}
use Rattle.iec_apci.specs.declared.apdu.Apdu.{Apdu}
use Rattle.iec_apci.specs.declared.apdu.Apdu.TheVariants.{I, S, U}
use Rattle.iec_apci.specs.declared.apdu.Signal.TheVariants.{StartAct, StartCon, StopAct, StopCon, TestAct, TestCon}
use Rattle.iec_command.specs.declared.command.Command.{Command}
use Rattle.gw_control.specs.declared.answer.Outcome.{Outcome}
use Rattle.gw_control.specs.Orders.{places}
use Rattle.gw_control.specs.Controls.{Controls, controls_after_end, controls_after_lost, outcome_lost_at}
use Rattle.gw_control.specs.Held.{controls_after_losses}
use Rattle.gw_control.specs.Moves.{Move, Comes, Takes, Ends, Loses, Leaves, after_move, AllCommands}
use Rattle.iec_apci.specs.declared.why.Why.{Why}
use Rattle.gw_station.specs.Client.{Client, is_timed_out}
use Rattle.gw_station.specs.Frames.{close_of, command_in, event_by}
use Rattle.gw_station.proofs.All.{all-append}
use Rattle.gw_steps.specs.declared.step.Step.{Step}
use Rattle.gw_steps.specs.declared.step.Step.TheVariants as steps
use Rattle.gw_steps.specs.declared.step.Reply.{Reply}
use Rattle.gw_steps.specs.declared.step.StepFault.{StepFault}
use Rattle.gw_steps.specs.State.{State}
use Rattle.gw_steps.specs.Controls.{asked_by, controls_after_all_ended, controls_after_closes}
use Rattle.gw_steps.specs.Controls.{controls_after_event, controls_after_taken, controls_with_ended}
use Rattle.gw_steps.specs.Controls.{ended_lost, order_due, outcome_ended, outcomes_ended, outcomes_lost}
use Rattle.gw_steps.specs.Steps.{after, controls_after_frame, controls_closed, ended_late}
use Rattle.gw_steps.specs.Steps.{is_accepting, latest, order_ended, outcomes_of, outcomes_of_loss}
use Rattle.gw_steps.specs.Steps.{outcomes_of_tick, parts_after_fragment, parts_after_poll}
use Rattle.gw_steps.specs.Runs.{Entry, state_after, unless_fault}
use Rattle.gw_control.proofs.Commands.{OfMove, all_stay, ended_has, lost_has, none_at_first}
use Rattle.law_clients.proofs.KnownCommands.{IsKnownCommand, command_known}

-- the commands of all orders are
abbrev pub HasKnownOrders : Setup → Controls → Type 0
HasKnownOrders setup v = AllCommands (IsKnownCommand setup) v

stay_known : (setup : Setup) (move : Move) (v : Controls) → OfMove (IsKnownCommand setup) setup move v
    → HasKnownOrders setup v → HasKnownOrders setup (after_move setup move v)
stay_known setup move v is k = all_stay (IsKnownCommand setup) setup move v is k

abbrev pub IsKnownOutcome : Setup → Outcome → Type 0
IsKnownOutcome setup x = IsKnownCommand setup x.command

if_any : (setup : Setup) (x : Option Outcome) → IfSome x (IsKnownOutcome setup)
    → AllByRecursion (IsKnownOutcome setup) (option_to_list x)
if_any setup None is = tt
if_any setup (Some x) is = (is, tt)

-- ---- what is told, and what stays

-- all that is told is, and so is what stays
record TellsKnown (setup : Setup) (xs : List Outcome) (v : Controls) : Type 0 where
  told : AllByRecursion (IsKnownOutcome setup) xs
  stays : HasKnownOrders setup v

nothing_told : (setup : Setup) (v : Controls) → HasKnownOrders setup v → TellsKnown setup [] v
nothing_told setup v k = record { told = tt; stays = k }

and_told : (setup : Setup) (xs ys : List Outcome) (v w : Controls) → TellsKnown setup xs v
    → TellsKnown setup ys w → TellsKnown setup (xs ++ ys) w
and_told setup xs ys v w first others = record {
  told = all-append (IsKnownOutcome setup) xs ys first.told others.told;
  stays = others.stays;
}

ended_tells : (setup : Setup) (o : ℕ) (ended : Option Ended) (v : Controls) → HasKnownOrders setup v
    → TellsKnown setup (option_to_list (outcome_ended o ended v)) (controls_with_ended o ended v)
ended_tells setup o None v k = nothing_told setup v k
ended_tells setup o (Some ended) v k = record {
  told = if_any setup (outcome_ended o (Some ended) v) (ended_has (IsKnownCommand setup) o ended v k);
  stays = stay_known setup (Ends o ended) v tt k;
}

lost_tells : (setup : Setup) (n o : ℕ) (v : Controls) → HasKnownOrders setup v
    → TellsKnown setup (outcomes_lost n o v) (controls_after_losses n o v)
lost_tells setup zero o v k = nothing_told setup v k
lost_tells setup (suc n) o v k =
    let next : Controls = controls_after_lost o v in
    let one : TellsKnown setup (option_to_list (outcome_lost_at (slice_get v.outgoing o))) next = record {
      told = if_any setup (outcome_lost_at (slice_get v.outgoing o)) (lost_has (IsKnownCommand setup) o v k);
      stays = stay_known setup (Loses o) v tt k;
    } in
    and_told setup _ (outcomes_lost n o next) next _ one (lost_tells setup n o next one.stays)

all_tell : (setup : Setup) (o : ℕ) (ended : List (Option Ended)) (v : Controls) → HasKnownOrders setup v
    → TellsKnown setup (outcomes_ended o ended v) (controls_after_all_ended o ended v)
all_tell setup o [] v k = nothing_told setup v k
all_tell setup o (e ∷ more) v k =
    let next : Controls = controls_with_ended o e v in
    let one = ended_tells setup o e v k in
    and_told setup _ (outcomes_ended (suc o) more next) next _ one (all_tell setup (suc o) more next one.stays)

closes_keep : (setup : Setup) (c : ℕ) (closed : List Bool) (v : Controls) → HasKnownOrders setup v
    → HasKnownOrders setup (controls_after_closes c closed v)
closes_keep setup c [] v k = k
closes_keep setup c (true ∷ more) v k =
    closes_keep setup (suc c) more (controls_after_end c v) (stay_known setup (Leaves c) v tt k)
closes_keep setup c (false ∷ more) v k = closes_keep setup (suc c) more v k

-- ---- an APDU

taken_keeps : (setup : Setup) (c : ℕ) (apdu : Apdu) (v : Controls) → HasKnownOrders setup v
    → HasKnownOrders setup (controls_after_taken c apdu v)
taken_keeps setup c (U StopAct) v k = stay_known setup (Leaves c) v tt k
taken_keeps setup c (U StartAct) v k = k
taken_keeps setup c (U StartCon) v k = k
taken_keeps setup c (U StopCon) v k = k
taken_keeps setup c (U TestAct) v k = k
taken_keeps setup c (U TestCon) v k = k
taken_keeps setup c (I ns nr asdu) v k = k
taken_keeps setup c (S nr) v k = k

event_keeps : (setup : Setup) (s : State) (moment c : ℕ) (apdu : Apdu) (why : Option Why) (command : Option Command)
    → IfSome command (IsKnownCommand setup) → HasKnownOrders setup s.controls
    → HasKnownOrders setup (controls_after_event setup s moment c apdu (event_by why command))
event_keeps setup s moment c apdu (Some why) command is k = stay_known setup (Leaves c) s.controls tt k
event_keeps setup s moment c apdu None None is k = taken_keeps setup c apdu s.controls k
event_keeps setup s moment c apdu None (Some command) is k =
    stay_known setup (Comes (asked_by setup s moment c command)) s.controls (λ found act accepted. is) k

frame_keeps : (setup : Setup) (s : State) (moment c : ℕ) (apdu : Apdu) (x : Option Client)
    → HasKnownOrders setup s.controls
    → HasKnownOrders setup (controls_after_frame setup s moment c apdu x)
frame_keeps setup s moment c apdu None k = k
frame_keeps setup s moment c apdu (Some client) k =
    event_keeps setup s moment c apdu (close_of setup apdu client) (command_in setup apdu)
    (command_known setup apdu) k

-- ---- steps

poll_keeps : (setup : Setup) (s : State) (moment o wall : ℕ) (order : Option Order)
    → HasKnownOrders setup s.controls
    → HasKnownOrders setup (parts_after_poll s moment o wall order).controls
poll_keeps setup s moment o wall None k = k
poll_keeps setup s moment o wall (Some order) k = stay_known setup (Takes o) s.controls tt k

loss_tells : (setup : Setup) (s : State) (o : ℕ) → HasKnownOrders setup s.controls
    → TellsKnown setup (outcomes_of_loss s o)
    (controls_after_losses places o (controls_with_ended o (ended_lost (slice_get s.outstations o)) s.controls))
loss_tells setup s o k =
    let ended : Option Ended = ended_lost (slice_get s.outstations o) in
    let next : Controls = controls_with_ended o ended s.controls in
    let one = ended_tells setup o ended s.controls k in
    and_told setup _ (outcomes_lost places o next) next _ one (lost_tells setup places o next one.stays)

tick_tells : (setup : Setup) (s : State) (moment : ℕ) → HasKnownOrders setup s.controls
    → TellsKnown setup (outcomes_of_tick s moment)
    (controls_after_all_ended 0 (ended_late s moment) (controls_closed s moment))
tick_tells setup s moment k = all_tell setup 0 (ended_late s moment) (controls_closed s moment)
    (closes_keep setup 0 (map (is_timed_out moment) s.clients) s.controls k)

-- where a fragment is accepted, or not
fragment_told : (setup : Setup) (o : ℕ) (ended : Option Ended) (v : Controls) → HasKnownOrders setup v
    → (accepted : Bool)
    → AllByRecursion (IsKnownOutcome setup) (cond accepted (option_to_list (outcome_ended o ended v)) [])
fragment_told setup o ended v k true = (ended_tells setup o ended v k).told
fragment_told setup o ended v k false = tt

either_keeps : (setup : Setup) (new s : State) → HasKnownOrders setup new.controls → HasKnownOrders setup s.controls
    → (accepted : Bool) → HasKnownOrders setup (cond accepted new s).controls
either_keeps setup new s taken left true = taken
either_keeps setup new s taken left false = left

-- what a step tells of orders
pub outcomes_known : (setup : Setup) (s : State) (step : Step) → HasKnownOrders setup s.controls
    → AllByRecursion (IsKnownOutcome setup) (outcomes_of s step)
outcomes_known setup s (steps.OutstationUp o m) k = tt
outcomes_known setup s (steps.OutstationDown o m) k = (loss_tells setup s o k).told
outcomes_known setup s (steps.Fragment f m) k =
    fragment_told setup f.outstation (order_ended s f) s.controls k (is_accepting s f)
outcomes_known setup s (steps.Poll o m wall) k = tt
outcomes_known setup s (steps.ClientUp c m) k = tt
outcomes_known setup s (steps.ClientDown c m) k = tt
outcomes_known setup s (steps.Frame c apdu m) k = tt
outcomes_known setup s (steps.Pump c m) k = tt
outcomes_known setup s (steps.Tick m) k = (tick_tells setup s (latest s m) k).told

step_keeps : (setup : Setup) (s : State) (step : Step) → HasKnownOrders setup s.controls
    → HasKnownOrders setup (after setup s step).controls
step_keeps setup s (steps.OutstationUp o m) k = k
step_keeps setup s (steps.OutstationDown o m) k = (loss_tells setup s o k).stays
step_keeps setup s (steps.Fragment f m) k =
    either_keeps setup (parts_after_fragment setup s (latest s m) f) s
    (ended_tells setup f.outstation (order_ended s f) s.controls k).stays k (is_accepting s f)
step_keeps setup s (steps.Poll o m wall) k = poll_keeps setup s (latest s m) o wall (order_due s o) k
step_keeps setup s (steps.ClientUp c m) k = k
step_keeps setup s (steps.ClientDown c m) k = stay_known setup (Leaves c) s.controls tt k
step_keeps setup s (steps.Frame c apdu m) k = frame_keeps setup s (latest s m) c apdu (slice_get s.clients c) k
step_keeps setup s (steps.Pump c m) k = k
step_keeps setup s (steps.Tick m) k = (tick_tells setup s (latest s m) k).stays

entry_keeps : (setup : Setup) (s : State) (step : Step) (reply : Result Reply StepFault)
    → HasKnownOrders setup s.controls
    → HasKnownOrders setup (unless_fault s (λ r. after setup s step) reply).controls
entry_keeps setup s step (Ok r) k = step_keeps setup s step k
entry_keeps setup s step (Err f) k = k

-- after every history the commands of all orders are
pub orders_known : (setup : Setup) (past : List Entry) → HasKnownOrders setup (state_after setup past).controls
orders_known setup [] = none_at_first (IsKnownCommand setup) setup 0
orders_known setup (e ∷ past) =
    entry_keeps setup (state_after setup past) e.step e.reply (orders_known setup past)
