-- A poll is due exactly where it would be answered with a request, and a pump where it would be with an APDU.
use Rattle.std.proofs.Common.{◌≡◌, ℕ, Bool, true, false, cond, List, ◌++◌, Option, Some, None, refl, sym, ap, ◌∙◌}
use Rattle.std.specs.Prelude.{◌&&◌, ◌||◌, is_some, nat_lt, option_map, slice_get}
use Rattle.gw_map.specs.Settings.{Setup, station_clocks}
use Rattle.gw_model.specs.declared.control.Order.{Order}
use Rattle.gw_model.specs.Clocks.{Clocks}
use Rattle.dnp_master.specs.declared.exchange.Exchange.{Exchange}
use Rattle.dnp_master.specs.declared.exchange.Exchange.TheVariants.{Idle, Waiting, Selected}
use Rattle.dnp_master.specs.declared.task.Task.{Task}
use Rattle.dnp_master.specs.declared.task.Task.TheVariants.{ClearRestart, RecordTime}
use Rattle.dnp_master.specs.Master.{Master, first_task, if_due, task_given, task_request, tasks_due, time_due}
use Rattle.gw_control.specs.Orders.{Outgoing}
use Rattle.law_orders.specs.Marks.{request_of}
use Rattle.gw_station.specs.declared.sending.Sending.{Sending}
use Rattle.gw_station.specs.Client.{Client, is_up}
use Rattle.gw_station.specs.Pump.{given, offered, content_of}
use Rattle.iec_apci.specs.Apdu.{ApduContent}
use Rattle.gw_steps.specs.declared.step.Step.TheVariants as steps
use Rattle.gw_steps.specs.State.{State, later}
use Rattle.gw_steps.specs.Controls.{order_for}
use Rattle.gw_steps.specs.Steps.{client_reply, client_up, latest, outstation_reply, reply_asking, reply_giving, reply_to, request_polled}
use Rattle.gw_steps.specs.Queries.{gives_apdu, has_offer, is_due, is_poll_due}

-- ---- the wall time makes no difference

front : (clear : Bool) (time : Option ℕ) (record_time : Bool) (wall : ℕ) (rest : List Task)
    → is_some (slice_get (if_due clear ClearRestart
    ++ (time_due time ++ (if_due record_time (RecordTime 0) ++ rest))) 0)
    ≡ is_some (slice_get (if_due clear ClearRestart
    ++ (time_due time ++ (if_due record_time (RecordTime wall) ++ rest))) 0)
front true time record_time wall rest = refl
front false (Some t) record_time wall rest = refl
front false None true wall rest = refl
front false None false wall rest = refl

first : (exchange : Exchange) (moment wall : ℕ) (m : Master)
    → is_some (first_task exchange (tasks_due moment 0 m.poll m.due))
    ≡ is_some (first_task exchange (tasks_due moment wall m.poll m.due))
first Idle moment wall m = front m.due.clear_restart m.due.write_time m.due.record_time wall _
first (Waiting awaited) moment wall m = refl
first (Selected order) moment wall m = refl

still_given : (moment wall : ℕ) (m : Master) → is_some (task_given moment 0 m) ≡ is_some (task_given moment wall m)
still_given moment wall m = by m.up
  where
    by : (up : Bool) → is_some (cond up (first_task m.exchange (tasks_due moment 0 m.poll m.due)) None)
        ≡ is_some (cond up (first_task m.exchange (tasks_due moment wall m.poll m.due)) None)
    by true = first m.exchange moment wall m
    by false = refl

-- ---- what is polled

or_true : (b : Bool) → (b || true) ≡ true
or_true true = refl
or_true false = refl

or_false : (b : Bool) → (b || false) ≡ b
or_false true = refl
or_false false = refl

asked : (sequence : ℕ) (task : Option Task)
    → is_some (request_of (reply_asking (option_map (λ t. task_request t sequence) task))) ≡ is_some task
asked sequence None = refl
asked sequence (Some task) = refl

by_order : (order : Option Order) (moment wall : ℕ) (m : Master)
    → (is_some (task_given moment 0 m) || is_some order)
    ≡ is_some (request_of (reply_asking (request_polled order moment wall m)))
by_order None moment wall m =
    or_false (is_some (task_given moment 0 m))
    ∙ (still_given moment wall m ∙ sym (asked m.sequence (task_given moment wall m)))
by_order (Some order) moment wall m = or_true (is_some (task_given moment 0 m))

by_master : (found : Option Master) (outgoing : Option Outgoing) (moment wall : ℕ)
    → (is_due moment found || is_some (order_for found outgoing))
    ≡ is_some (request_of
    (outstation_reply (λ m. reply_asking (request_polled (order_for found outgoing) moment wall m)) found))
by_master None outgoing moment wall = refl
by_master (Some m) outgoing moment wall = by_order (order_for (Some m) outgoing) moment wall m

same : (moment : ℕ) → moment ≡ later moment moment
same moment = by (nat_lt moment moment)
  where
    by : (b : Bool) → moment ≡ cond b moment moment
    by true = refl
    by false = refl

pub polled : (setup : Setup) (s : State) (outstation wall : ℕ) → is_poll_due s outstation
    ≡ is_some (request_of (reply_to setup s (steps.Poll outstation s.moment wall)))
polled setup s o wall =
    ap (λ (moment : ℕ). is_due moment (slice_get s.outstations o)
    || is_some (order_for (slice_get s.outstations o) (slice_get s.controls.outgoing o))) (same s.moment)
    ∙ by_master (slice_get s.outstations o) (slice_get s.controls.outgoing o) (latest s s.moment) wall

-- ---- what is pumped

gave : (content : Sending → ApduContent) (offer : Option Sending)
    → is_some offer ≡ gives_apdu (reply_giving (option_map content offer))
gave content None = refl
gave content (Some sending) = refl

by_client : (clocks : Clocks) (found : Option Client) (moment : ℕ)
    → option_map (λ k. is_up k.stage) found ≡ Some true
    → has_offer moment found ≡ gives_apdu (client_reply (λ k. reply_giving (given clocks moment k)) found)
by_client clocks None moment e = absurd cc
by_client clocks (Some k) moment e =
    let up : is_up k.stage ≡ true = cc in
    ap (λ (b : Bool). b && is_some (offered moment k)) up ∙ gave (content_of clocks k) (offered moment k)

pub pumped : (setup : Setup) (s : State) (client : ℕ) → client_up s client ≡ Some true
    → has_offer s.moment (slice_get s.clients client) ≡ gives_apdu (reply_to setup s (steps.Pump client s.moment))
pumped setup s c up =
    ap (λ (moment : ℕ). has_offer moment (slice_get s.clients c)) (same s.moment)
    ∙ by_client (station_clocks setup.station) (slice_get s.clients c) (latest s s.moment) up
