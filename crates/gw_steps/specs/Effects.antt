-- What a step does besides what it replies: what came by it, what it ended, and who may have something to do then.
use Rattle.std.specs.Prelude.{ℕ, suc, ◌-◌, Bool, true, false, ◌&&◌, ◌||◌, is_some, List, [], ◌∷◌}
use Rattle.std.specs.Prelude.{◌++◌, length, map, replicate, slice_get, slice_index, Result, Ok}
use Rattle.std.specs.Prelude.{Err, Option, Some, None, option_map, option_and_then, if◌then◌else◌}
use Rattle.std.specs.List.{filter}
use Rattle.std.specs.Option.{option_to_list}
use Rattle.gw_model.specs.First.{when}
use Rattle.gw_model.specs.Places.{change}
use Rattle.gw_model.specs.declared.control.Ended.{Ended}
use Rattle.gw_model.specs.declared.control.Order.{Order}
use Rattle.gw_model.specs.declared.point.Report.{Report}
use Rattle.gw_map.specs.Settings.{Setup}
use Rattle.dnp_app.specs.Response.{Fragment, is_unsolicited}
use Rattle.dnp_app.specs.declared.operation.Operation.{Operation}
use Rattle.dnp_master.specs.Master.{Master, order_task, task_given}
use Rattle.dnp_master.specs.declared.task.Task.{Task}
use Rattle.dnp_master.specs.Answers.{command_answer, is_unanswered, operation_awaited, task_awaited}
use Rattle.dnp_master.specs.declared.answered.Taken.{Taken}
use Rattle.dnp_master.specs.declared.answered.Taken.TheVariants as takens
use Rattle.iec_apci.specs.declared.apdu.Apdu.{Apdu}
use Rattle.iec_apci.specs.declared.apdu.Apdu.TheVariants.{U}
use Rattle.iec_apci.specs.declared.apdu.Signal.TheVariants.{StopAct}
use Rattle.gw_control.specs.declared.accepted.Accepted.{Accepted}
use Rattle.gw_control.specs.declared.accepted.UnderWay.{UnderWay}
use Rattle.gw_control.specs.Controls.{is_order, refusal_of}
use Rattle.gw_control.specs.Orders.{Outgoing, is_named}
use Rattle.gw_station.specs.Client.{Client, is_timed_out}
use Rattle.gw_station.specs.Frames.{event_of}
use Rattle.gw_station.specs.declared.event.Event.{Event}
use Rattle.gw_station.specs.declared.event.Event.TheVariants as events
use Rattle.gw_steps.specs.Kinds.{kind_of}
use Rattle.gw_steps.specs.declared.apdu_kind.ApduKind.{ApduKind}
use Rattle.dnp_master.specs.declared.reported.Reported.{Reported}
use Rattle.dnp_master.specs.declared.fate.Fate.{Fate}
use Rattle.dnp_master.specs.declared.fate.Fate.TheVariants as fates
use Rattle.gw_steps.specs.declared.effects.OrderEnd.{OrderEnd}
use Rattle.gw_steps.specs.declared.effects.Judged.{Judged}
use Rattle.gw_steps.specs.declared.step.Step.{Step}
use Rattle.gw_steps.specs.declared.step.Step.TheVariants as steps
use Rattle.gw_steps.specs.declared.step.Reply.{Reply}
use Rattle.gw_steps.specs.declared.step.StepFault.{StepFault}
use Rattle.gw_steps.specs.State.{State, client_limit}
use Rattle.gw_steps.specs.Queries.{dropped_at, is_poll_due, is_poll_due_of, offers_at, unacknowledged_at}
use Rattle.gw_steps.specs.Controls.{answer_to, asked_by, ended_lost, order_due}
use Rattle.gw_steps.specs.Steps.{after, ended_late, is_accepting, latest, needs, order_ended}

pub record Effects : Type 0 where
  -- what the APDU was that a client sent
  pub apdu : Option ApduKind
  -- what was judged of a client's command for a control
  pub command : Option Judged
  -- the task of the request that a poll gave
  pub task : Option Task
  -- what a fragment said that was accepted
  pub reported : Option Reported
  -- the orders that ended, with what became of each: those that are let go with a session, then by outstation
  pub ended : List OrderEnd
  -- the outstations whose request ended without an answer
  pub unanswered : List ℕ
  -- for each client, how many news were dropped in its session, where that ended
  pub dropped : List ℕ
  -- how many news the step brought
  pub news : ℕ
  -- by how many I formats fewer wait for their acknowledgement than before an APDU of their client
  pub acknowledged : ℕ
  -- the outstations whose writer may have something to do: to which a request is due, or which came or went
  pub due_outstations : List ℕ
  -- and for each client whether its writer may
  pub due_clients : List Bool

-- for none of the clients
abbrev pub no_client : List Bool
no_client = replicate client_limit false

-- nothing
abbrev pub no_effects : Effects
no_effects = record {
  apdu = None;
  command = None;
  task = None;
  reported = None;
  ended = [];
  unanswered = [];
  dropped = replicate client_limit 0;
  news = 0;
  acknowledged = 0;
  due_outstations = [];
  due_clients = no_client;
}

-- what a step did, with room for what it may do to so many outstations
pub record Telling : Type 0 where
  pub told : Effects
  pub room : ℕ

-- and these orders ended besides
abbrev pub with_ends : List OrderEnd → Telling → Telling
with_ends ends t = record t { told = record t.told { ended = t.told.ended ++ ends } }

-- and the writers of these outstations may have something to do besides
abbrev pub with_due : List ℕ → Telling → Telling
with_due outstations t =
    record t { told = record t.told { due_outstations = t.told.due_outstations ++ outstations } }

-- ---- how orders end

abbrev pub order_end : ℕ → Fate → Accepted → OrderEnd
order_end o fate x = record { order = x.order.number; outstation = o; client = x.client; fate = fate }

-- it is of a client whose session ends, where for each client it is told whether it does
abbrev pub is_so : Option Bool → Bool
is_so None = false
is_so (Some so) = so

abbrev pub is_of_leaving : List Bool → Accepted → Bool
is_of_leaving leaving x = is_so (slice_get leaving x.client)

-- their orders that wait are let go, outstation by outstation
abbrev pub let_go : List Bool → ℕ → List Outgoing → List OrderEnd
let_go leaving o [] = []
let_go leaving o (q ∷ qs) =
    map (order_end o fates.LetGo) (filter (is_of_leaving leaving) q.waiting) ++ let_go leaving (suc o) qs

-- the order under way to an outstation, where it is the one that ended
abbrev pub end_of : ℕ → Fate → Ended → Option UnderWay → Option OrderEnd
end_of o fate ended None = None
end_of o fate ended (Some u) = when (is_named ended u) (order_end o fate u.accepted)

abbrev pub end_at : ℕ → Option Fate → Option Ended → Option Outgoing → List OrderEnd
end_at o (Some fate) (Some ended) (Some q) = option_to_list (end_of o fate ended q.under_way)
end_at o _ _ _ = []

-- an outstation is lost: the order under way to it fails, and then those that wait
abbrev pub lost_waiting : ℕ → Option Outgoing → List OrderEnd
lost_waiting o None = []
lost_waiting o (Some q) = map (order_end o fates.Lost) q.waiting

abbrev pub lost_of : ℕ → Option Ended → Option Outgoing → List OrderEnd
lost_of o ended q = end_at o (Some fates.Lost) ended q ++ lost_waiting o q

abbrev pub lost : State → ℕ → List OrderEnd
lost s o = lost_of o (ended_lost (slice_get s.outstations o)) (slice_get s.controls.outgoing o)

-- it was answered: by how the outstation took what was asked
abbrev pub fate_taken : Operation → Taken → Fate
fate_taken operation takens.Done = fates.Done
fate_taken operation (takens.Refused status) = fates.Refused operation status
fate_taken operation takens.Otherwise = fates.Otherwise operation

abbrev pub fate_by : Fragment → Master → Option Fate
fate_by f m = option_map (λ answer. fate_taken answer.operation answer.taken) (command_answer m.exchange f)

abbrev pub answered : State → Fragment → List OrderEnd
answered s f = end_at f.outstation (option_and_then (fate_by f) (slice_get s.outstations f.outstation)) (order_ended s f)
    (slice_get s.controls.outgoing f.outstation)

-- no answer came in time, outstation by outstation
abbrev pub late : ℕ → List Master → List (Option Ended) → List Outgoing → List OrderEnd
late o [] ended qs = []
late o (m ∷ ms) [] qs = []
late o (m ∷ ms) (ended ∷ more) [] = []
late o (m ∷ ms) (ended ∷ more) (q ∷ qs) =
    end_at o (option_map fates.Unanswered (operation_awaited m.exchange)) ended (Some q) ++ late (suc o) ms more qs

-- ---- requests that end unanswered

-- the outstations of which this is so, the first one has this number
abbrev pub where_so : ℕ → List Bool → List ℕ
where_so o [] = []
where_so o (so ∷ more) = if so then o ∷ where_so (suc o) more else where_so (suc o) more

-- ---- commands

abbrev pub judged : Setup → State → ℕ → ℕ → Event → Option Judged
judged setup s moment c events.Taken = None
judged setup s moment c (events.Command command) = Some (record {
  command = command;
  answer = answer_to setup s moment c command;
  refusal = refusal_of setup (asked_by setup s moment c command) s.controls;
})
judged setup s moment c (events.Closed why) = None

-- ---- which sessions end

-- an APDU ends its client's session: STOPDT act, or one that closes the connection
abbrev pub is_stop : Apdu → Bool
is_stop (U StopAct) = true
is_stop _ = false

abbrev pub ends_session : Apdu → Event → Bool
ends_session apdu events.Taken = is_stop apdu
ends_session apdu (events.Command command) = false
ends_session apdu (events.Closed why) = true

-- for each client, whether it is this one
abbrev pub only : ℕ → List Bool
only c = change c (λ _. true) no_client

-- one client's session ends
abbrev pub ending_of : State → ℕ → Effects
ending_of s c = record no_effects {
  ended = let_go (only c) 0 s.controls.outgoing;
  dropped = change c (λ _. dropped_at (slice_get s.clients c)) no_effects.dropped;
  due_clients = only c;
}

-- what was dropped for those whose sessions end
abbrev pub dropped_of : List Bool → List Client → List ℕ
dropped_of [] ks = []
dropped_of (ends ∷ more) [] = []
dropped_of (ends ∷ more) (k ∷ ks) = (if ends then k.dropped else 0) ∷ dropped_of more ks

-- ---- requests

-- the task of the request that a poll gives an outstation for which this order is due, or none
abbrev pub task_by : Option Order → ℕ → ℕ → Option Master → Option Task
task_by (Some order) moment wall m = Some (order_task order)
task_by None moment wall m = option_and_then (task_given moment wall) m

abbrev pub task_polled : State → ℕ → ℕ → ℕ → Option Task
task_polled s o moment wall = task_by (order_due s o) moment wall (slice_get s.outstations o)

-- ---- fragments

-- how many of these are events
abbrev pub event_count : List Report → ℕ
event_count reports = length (filter (λ (r : Report). r.event) reports)

-- the task whose request an accepted response answers; an unsolicited one answers none
abbrev pub task_answered : Fragment → Option Master → Option Task
task_answered f m = if is_unsolicited f then None else option_and_then (λ (it : Master). task_awaited it.exchange) m

abbrev pub reported_by : Fragment → Option Task → Reported
reported_by f answers = record {
  answers = answers;
  indications = slice_index f.octets 2 ∷ slice_index f.octets 3 ∷ [];
  is_unsolicited = is_unsolicited f;
  observations = length f.reports;
  events = event_count f.reports;
}

abbrev pub reported : State → Fragment → Reported
reported s f = reported_by f (task_answered f (slice_get s.outstations f.outstation))

-- ---- what came, and what ended

abbrev pub effects_of_event : Setup → State → ℕ → ℕ → Apdu → Event → Effects
effects_of_event setup s moment c apdu event =
    if ends_session apdu event then ending_of s c
    else record no_effects { command = judged setup s moment c event }

abbrev pub effects_of_apdu : Setup → State → ℕ → ℕ → Apdu → Option Client → Effects
effects_of_apdu setup s moment c apdu None = no_effects
effects_of_apdu setup s moment c apdu (Some k) = effects_of_event setup s moment c apdu (event_of setup apdu k)

abbrev pub effects_of_fragment : State → Fragment → Effects
effects_of_fragment s f =
    if is_accepting s f then record no_effects { reported = Some (reported s f); ended = answered s f } else no_effects

abbrev pub effects_of_tick : State → ℕ → Effects
effects_of_tick s moment =
    let closed = map (is_timed_out moment) s.clients in
    record no_effects {
      ended = let_go closed 0 s.controls.outgoing ++ late 0 s.outstations (ended_late s moment) s.controls.outgoing;
      unanswered = where_so 0 (map (is_unanswered moment) s.outstations);
      dropped = dropped_of closed s.clients;
      due_clients = closed;
    }

-- what a step does by the state before it; the writers of clients that come, go or are closed have to know that
abbrev pub done_by : Setup → State → Step → Effects
done_by setup s (steps.OutstationUp o moment) = no_effects
done_by setup s (steps.OutstationDown o moment) = record no_effects { ended = lost s o }
done_by setup s (steps.Fragment f moment) = effects_of_fragment s f
done_by setup s (steps.Poll o moment wall) = record no_effects { task = task_polled s o (latest s moment) wall }
done_by setup s (steps.ClientUp c moment) = record no_effects { due_clients = only c }
done_by setup s (steps.ClientDown c moment) = ending_of s c
done_by setup s (steps.Frame c apdu moment) =
    record (effects_of_apdu setup s (latest s moment) c apdu (slice_get s.clients c)) { apdu = Some (kind_of apdu) }
done_by setup s (steps.Pump c moment) = no_effects
done_by setup s (steps.Tick moment) = effects_of_tick s (latest s moment)

-- ---- who may have something to do then

-- an outstation, where it is so
abbrev pub one_where : Bool → ℕ → List ℕ
one_where true o = o ∷ []
one_where false o = []

-- the outstations from one on to which a request is due
abbrev pub due_from : ℕ → List Outgoing → ℕ → List Master → List ℕ
due_from moment qs o [] = []
due_from moment qs o (m ∷ ms) =
    one_where (is_poll_due_of moment (slice_get qs o) (Some m)) o ++ due_from moment qs (suc o) ms

abbrev pub all_due : State → List ℕ
all_due s = due_from s.moment s.controls.outgoing 0 s.outstations

-- a command was accepted as an order
abbrev pub is_accepted : Option Judged → Bool
is_accepted None = false
is_accepted (Some judged) = is_order judged.answer

-- in this state: the writer of an outstation that came or went has to know that; a fragment may make a request due to its
-- outstation, and an order or time to any
abbrev pub outstations_due : State → Step → Effects → List ℕ
outstations_due s (steps.OutstationUp o moment) done = one_where (is_some (slice_get s.outstations o)) o
outstations_due s (steps.OutstationDown o moment) done = one_where (is_some (slice_get s.outstations o)) o
outstations_due s (steps.Fragment f moment) done =
    one_where (is_some done.reported && is_poll_due s f.outstation) f.outstation
outstations_due s (steps.Frame c apdu moment) done = if is_accepted done.command then all_due s else []
outstations_due s (steps.Tick moment) done = all_due s
outstations_due s _ done = []

-- a poll, a pump and a fragment that isn't accepted bring nobody anything; all other steps may
abbrev pub brings : Step → Effects → Bool
brings (steps.Fragment f moment) done = is_some done.reported
brings (steps.Poll o moment wall) done = false
brings (steps.Pump c moment) done = false
brings _ done = true

-- each of the clients of which it was so already, or for which something may be put out at a moment
abbrev pub or_offered : ℕ → List Bool → List Client → List Bool
or_offered moment [] ks = []
or_offered moment (so ∷ more) [] = []
or_offered moment (so ∷ more) (k ∷ ks) = (so || offers_at moment k) ∷ or_offered moment more ks

abbrev pub clients_due : State → Step → Effects → List Bool
clients_due s step done =
    if brings step done then or_offered s.moment done.due_clients s.clients else done.due_clients

-- ---- all of it

-- how many I formats wait for their acknowledgement by the client that sends an APDU
abbrev pub waiting_for : State → Step → ℕ
waiting_for s (steps.Frame c apdu moment) = unacknowledged_at (slice_get s.clients c)
waiting_for s _ = 0

-- what a step did that led from one state to another
abbrev pub done_between : Setup → State → State → Step → Effects → Effects
done_between setup s new step done = record done {
  news = (needs setup s step).counts.news;
  acknowledged = waiting_for s step - waiting_for new step;
  due_outstations = outstations_due new step done;
  due_clients = clients_due new step done;
}

-- what a step without a fault does
abbrev pub effects_of : Setup → State → Step → Effects
effects_of setup s step = done_between setup s (after setup s step) step (done_by setup s step)

-- this, where it was answered without a fault: with one it does nothing
abbrev pub told_unless_fault : Result Reply StepFault → Effects → Effects
told_unless_fault (Ok reply) told = told
told_unless_fault (Err fault) told = no_effects

-- and one that was answered so
abbrev pub effects_with : Setup → State → Step → Result Reply StepFault → Effects
effects_with setup s step answer = told_unless_fault answer (effects_of setup s step)
