-- The step relation: what a step answers where memory is never refused, and the state after it, by cases on the step.
use Rattle.std.specs.Option.{option_to_list}
use Rattle.std.specs.Prelude.{◌≡◌, ℕ, ◌+◌, ◌*◌, ◌^◌, Bool, true, false, ◌&&◌, nat_lt}
use Rattle.std.specs.Prelude.{List, [], ◌∷◌, ◌++◌, length, map, slice_get, Option, Some}
use Rattle.std.specs.Prelude.{None, option_map, Result, Ok, Err, IsTrue, if◌then◌else◌}
use Rattle.gw_model.specs.declared.observation.Observation.{Observation}
use Rattle.gw_map.specs.Settings.{Setup, station_clocks}
use Rattle.gw_model.specs.Places.{change}
use Rattle.dnp_app.specs.Response.{Fragment}
use Rattle.dnp_app.specs.declared.request.Request.{Request}
use Rattle.dnp_master.specs.Master.{Master, ended_by_tick, master_down, master_after_up, master_after_next}
use Rattle.dnp_master.specs.Master.{master_after_order, master_after_tick, request_given, request_ordered}
use Rattle.dnp_master.specs.Fragments.{accepts, verdict_of, master_after_fragment}
use Rattle.iec_apci.specs.declared.apdu.Apdu.{Apdu}
use Rattle.iec_apci.specs.Apdu.{ApduContent}
use Rattle.iec_apci.specs.Buffer.{buffer_of}
use Rattle.iec_command.specs.declared.command.Command.{Command}
use Rattle.gw_control.specs.declared.answer.Outcome.{Outcome}
use Rattle.gw_control.specs.Held.{controls_after_losses}
use Rattle.gw_control.specs.Orders.{places}
use Rattle.gw_control.specs.Controls.{Controls, controls_after_end, controls_after_taking, is_order}
use Rattle.gw_model.specs.declared.control.Ended.{Ended}
use Rattle.gw_model.specs.declared.control.Order.{Order}
use Rattle.gw_picture.specs.Picture.{news_of, picture_after}
use Rattle.gw_picture.specs.Loss.{losses_of, picture_after_loss}
use Rattle.gw_station.specs.declared.event.Event.{Event}
use Rattle.gw_station.specs.declared.event.Event.TheVariants as events
use Rattle.gw_station.specs.Client.{Client, is_up, is_timed_out, client_after_up, client_after_close, client_with_news, client_after_tick}
use Rattle.gw_station.specs.declared.event.Said.{Said}
use Rattle.gw_station.specs.Answers.{client_told}
use Rattle.gw_station.specs.Frames.{event_of, client_after_apdu, asks, begins, given_command}
use Rattle.gw_station.specs.Pump.{given, client_after_pump}
use Rattle.gw_steps.specs.declared.step.Step.{Step}
use Rattle.gw_steps.specs.declared.step.Step.TheVariants as steps
use Rattle.gw_steps.specs.declared.step.Reply.{Reply}
use Rattle.gw_steps.specs.declared.step.Reply.TheVariants as replies
use Rattle.gw_steps.specs.declared.step.StepFault.{StepFault}
use Rattle.gw_steps.specs.declared.step.StepFault.TheVariants.{NoOutstation, NoClient, NotUp, AlreadyUp, Memory, Spent}
use Rattle.gw_steps.specs.State.{State, Counts, later}
use Rattle.gw_steps.specs.Controls.{answer_to, clients_told, controls_after_all_ended, controls_after_closes}
use Rattle.gw_steps.specs.Controls.{controls_after_event, controls_with_ended, ended_by_fragment, ended_lost}
use Rattle.gw_steps.specs.Controls.{order_due, outcome_ended, outcomes_ended, outcomes_lost, said_by}

-- ---- faults

-- whether an outstation, or a client, is up; none where there is no such
abbrev pub outstation_up : State → ℕ → Option Bool
outstation_up s o = option_map (λ m. m.up) (slice_get s.outstations o)

abbrev pub client_up : State → ℕ → Option Bool
client_up s c = option_map (λ k. is_up k.stage) (slice_get s.clients c)

-- why a step of an actor that has to be up isn't made
abbrev pub fault_unless_up : StepFault → Option Bool → Option StepFault
fault_unless_up absent None = Some absent
fault_unless_up absent (Some true) = None
fault_unless_up absent (Some false) = Some NotUp

-- of one that has to be down
abbrev pub fault_unless_down : StepFault → Option Bool → Option StepFault
fault_unless_down absent None = Some absent
fault_unless_down absent (Some true) = Some AlreadyUp
fault_unless_down absent (Some false) = None

abbrev pub fault_of : State → Step → Option StepFault
fault_of s (steps.OutstationUp o moment) = fault_unless_down NoOutstation (outstation_up s o)
fault_of s (steps.OutstationDown o moment) = fault_unless_up NoOutstation (outstation_up s o)
fault_of s (steps.Fragment f moment) = fault_unless_up NoOutstation (outstation_up s f.outstation)
fault_of s (steps.Poll o moment wall) = fault_unless_up NoOutstation (outstation_up s o)
fault_of s (steps.ClientUp c moment) = fault_unless_down NoClient (client_up s c)
fault_of s (steps.ClientDown c moment) = fault_unless_up NoClient (client_up s c)
fault_of s (steps.Frame c apdu moment) = fault_unless_up NoClient (client_up s c)
fault_of s (steps.Pump c moment) = fault_unless_up NoClient (client_up s c)
fault_of s (steps.Tick moment) = None

-- ---- what a step needs

-- a fragment's outstation accepts it
abbrev pub accepted_by : Fragment → Option Master → Bool
accepted_by f None = false
accepted_by f (Some m) = accepts m f

abbrev pub is_accepting : State → Fragment → Bool
is_accepting s f = accepted_by f (slice_get s.outstations f.outstation)

-- the news that a fragment brings
abbrev pub news_of_fragment : Setup → State → Fragment → List Observation
news_of_fragment setup s f =
    if is_accepting s f then news_of (station_clocks setup.station) setup.rows s.picture f.reports else []

-- the observations of the loss of an outstation
abbrev pub losses : Setup → State → ℕ → List Observation
losses setup s o = losses_of o setup.rows s.picture

-- an APDU begins a session of its client
abbrev pub begun_by : Apdu → Option Client → Bool
begun_by apdu None = false
begun_by apdu (Some k) = begins apdu k

abbrev pub is_beginning : State → ℕ → Apdu → Bool
is_beginning s c apdu = begun_by apdu (slice_get s.clients c)

-- memory is wanted for an APDU: for the copy of the picture that answers an interrogation
abbrev pub wanted_by : Setup → Apdu → Option Client → Bool
wanted_by setup apdu None = false
wanted_by setup apdu (Some k) = asks setup apdu k

-- the moment of a step
abbrev pub latest : State → ℕ → ℕ
latest s moment = later s.moment moment

-- one where it is so
abbrev pub one_if : Bool → ℕ
one_if true = 1
one_if false = 0

-- a client's command is accepted as an order
abbrev pub is_ordering : Setup → State → ℕ → ℕ → Option Command → Bool
is_ordering setup s moment c None = false
is_ordering setup s moment c (Some command) = is_order (answer_to setup s moment c command)

abbrev pub command_of : Setup → Apdu → Option Client → Option Command
command_of setup apdu None = None
command_of setup apdu (Some k) = given_command setup apdu k

-- memory may be wanted, by how much the counts rise, and whether an order is made
pub record Needs : Type 0 where
  pub memory : Bool
  pub counts : Counts
  pub order : Bool

abbrev pub needs : Setup → State → Step → Needs
needs setup s (steps.Fragment f moment) = record {
  memory = false;
  counts = record { steps = 1; news = length (news_of_fragment setup s f); sessions = 0 };
  order = false;
}
needs setup s (steps.OutstationDown o moment) = record {
  memory = false;
  counts = record { steps = 1; news = length (losses setup s o); sessions = 0 };
  order = false;
}
needs setup s (steps.Frame c apdu moment) = record {
  memory = wanted_by setup apdu (slice_get s.clients c);
  counts = record { steps = 1; news = 0; sessions = one_if (is_beginning s c apdu) };
  order = is_ordering setup s (latest s moment) c (command_of setup apdu (slice_get s.clients c));
}
needs setup s _ =
    record { memory = false; counts = record { steps = 1; news = 0; sessions = 0 }; order = false }

abbrev pub can_rise : Counts → Counts → Bool
can_rise counts more =
    nat_lt (counts.steps + more.steps) (2 ^ 64)
    && nat_lt (counts.news + more.news) (2 ^ 64)
    && nat_lt (counts.sessions + more.sessions) (2 ^ 64)

-- one order more has a number
abbrev pub can_order : Bool → Controls → Bool
can_order false v = true
can_order true v = nat_lt (v.ordered + 1) (2 ^ 64)

-- all that is counted can rise by what a step needs
abbrev pub can_be_counted : State → Needs → Bool
can_be_counted s n = can_rise s.counts n.counts && can_order n.order s.controls

abbrev pub raised : Counts → Counts → Counts
raised counts more = record {
  steps = counts.steps + more.steps;
  news = counts.news + more.news;
  sessions = counts.sessions + more.sessions;
}

-- ---- the answer

-- the reply for a client; Nothing where there is no such
abbrev pub client_reply : (Client → Reply) → Option Client → Reply
client_reply reply None = replies.Nothing
client_reply reply (Some k) = reply k

-- the reply for an outstation; Nothing where there is no such
abbrev pub outstation_reply : (Master → Reply) → Option Master → Reply
outstation_reply reply None = replies.Nothing
outstation_reply reply (Some m) = reply m

-- the request that a poll gives: that of the order which is due, or else of what is due first
abbrev pub request_polled : Option Order → ℕ → ℕ → Master → Option Request
request_polled None moment wall m = request_given moment wall m
request_polled (Some order) moment wall m = Some (request_ordered order m)

-- the reply to a poll that gives this
abbrev pub reply_asking : Option Request → Reply
reply_asking None = replies.Nothing
reply_asking (Some request) = replies.Request request

-- the reply to what became of an APDU
abbrev pub reply_of_event : Event → Reply
reply_of_event events.Taken = replies.Taken
reply_of_event (events.Command command) = replies.Taken
reply_of_event (events.Closed why) = replies.Closed why

-- the reply to a pump that gives this
abbrev pub reply_giving : Option ApduContent → Reply
reply_giving None = replies.Nothing
reply_giving (Some content) = replies.Apdu (buffer_of content)

-- a bit for each, the lowest for the first
abbrev pub bits_of : List Bool → ℕ
bits_of [] = 0
bits_of (b ∷ bs) = one_if b + 2 * bits_of bs

abbrev pub reply_to : Setup → State → Step → Reply
reply_to setup s (steps.OutstationUp o moment) = replies.Done
reply_to setup s (steps.OutstationDown o moment) = replies.Done
reply_to setup s (steps.Poll o moment wall) =
    outstation_reply (λ m. reply_asking (request_polled (order_due s o) (latest s moment) wall m))
    (slice_get s.outstations o)
reply_to setup s (steps.Tick moment) = replies.Ticked (bits_of (map (is_timed_out (latest s moment)) s.clients))
reply_to setup s (steps.Fragment f moment) =
    outstation_reply (λ m. replies.Verdict (verdict_of m f)) (slice_get s.outstations f.outstation)
reply_to setup s (steps.ClientUp c moment) = replies.Done
reply_to setup s (steps.ClientDown c moment) = replies.Done
reply_to setup s (steps.Frame c apdu moment) =
    client_reply (λ k. reply_of_event (event_of setup apdu k)) (slice_get s.clients c)
reply_to setup s (steps.Pump c moment) =
    client_reply
    (λ k. reply_giving (given (station_clocks setup.station) (latest s moment) k))
    (slice_get s.clients c)

-- a fault, or the reply where the counts can rise
abbrev pub answer : Option StepFault → Bool → Reply → Result Reply StepFault
answer (Some fault) rises reply = Err fault
answer None rises reply = if rises then Ok reply else Err Spent

abbrev pub outcome : Setup → State → Step → Result Reply StepFault
outcome setup s step = answer (fault_of s step) (can_be_counted s (needs setup s step)) (reply_to setup s step)

-- ---- the state after a step without a fault

abbrev pub moment_of : Step → ℕ
moment_of (steps.OutstationUp o moment) = moment
moment_of (steps.OutstationDown o moment) = moment
moment_of (steps.Fragment f moment) = moment
moment_of (steps.Poll o moment wall) = moment
moment_of (steps.ClientUp c moment) = moment
moment_of (steps.ClientDown c moment) = moment
moment_of (steps.Frame c apdu moment) = moment
moment_of (steps.Pump c moment) = moment
moment_of (steps.Tick moment) = moment

-- of a command for a control something is said
abbrev pub client_answered : (Command → Said) → Event → Client → Client
client_answered said events.Taken k = k
client_answered said (events.Command command) k = client_told command (said command) k
client_answered said (events.Closed why) k = k

-- an APDU came at a moment, while the picture showed this, and of a command in it this is said
abbrev pub client_after_frame : Setup → List Observation → (Command → Said) → ℕ → Apdu → Client → Client
client_after_frame setup picture said moment apdu k =
    client_answered said (event_of setup apdu k) (client_after_apdu setup picture moment apdu k)

-- what is said of a command of a client
abbrev pub said_to : Setup → State → ℕ → ℕ → Command → Said
said_to setup s moment c command = said_by (answer_to setup s moment c command)

abbrev pub controls_after_frame : Setup → State → ℕ → ℕ → Apdu → Option Client → Controls
controls_after_frame setup s moment c apdu None = s.controls
controls_after_frame setup s moment c apdu (Some k) =
    controls_after_event setup s moment c apdu (event_of setup apdu k)

-- a session that begins has the next number
abbrev pub sessions_with : Bool → ℕ → Counts → List ℕ → List ℕ
sessions_with false c counts sessions = sessions
sessions_with true c counts sessions = change c (λ _. counts.sessions + 1) sessions

abbrev pub parts_after_frame : Setup → State → ℕ → ℕ → Apdu → State
parts_after_frame setup s moment c apdu = record s {
  clients = change c (client_after_frame setup s.picture (said_to setup s moment c) moment apdu) s.clients;
  sessions = sessions_with (is_beginning s c apdu) c s.counts s.sessions;
  controls = controls_after_frame setup s moment c apdu (slice_get s.clients c);
}

-- a poll of an outstation, for which this order is due
abbrev pub parts_after_poll : State → ℕ → ℕ → ℕ → Option Order → State
parts_after_poll s moment o wall None =
    record s { outstations = change o (master_after_next moment wall) s.outstations }
parts_after_poll s moment o wall (Some order) = record s {
  outstations = change o (master_after_order moment order) s.outstations;
  controls = controls_after_taking o s.controls;
}

-- the loss of an outstation: the order that was given fails, and then those that wait
abbrev pub outcomes_of_loss : State → ℕ → List Outcome
outcomes_of_loss s o =
    let ended = ended_lost (slice_get s.outstations o) in
    option_to_list (outcome_ended o ended s.controls)
    ++ outcomes_lost places o (controls_with_ended o ended s.controls)

abbrev pub parts_after_loss : Setup → State → ℕ → State
parts_after_loss setup s o = record s {
  outstations = change o (λ m. master_down m.poll) s.outstations;
  picture = picture_after_loss o setup.rows s.picture;
  clients = clients_told (outcomes_of_loss s o) (map (client_with_news (losses setup s o)) s.clients);
  controls = controls_after_losses places o
      (controls_with_ended o (ended_lost (slice_get s.outstations o)) s.controls);
}

-- the order that ends with a fragment
abbrev pub order_ended : State → Fragment → Option Ended
order_ended s f = ended_by_fragment f (slice_get s.outstations f.outstation)

abbrev pub outcomes_of_fragment : State → Fragment → List Outcome
outcomes_of_fragment s f = option_to_list (outcome_ended f.outstation (order_ended s f) s.controls)

-- what an accepted fragment changes
abbrev pub parts_after_fragment : Setup → State → ℕ → Fragment → State
parts_after_fragment setup s moment f = record s {
  outstations = change f.outstation (master_after_fragment moment f) s.outstations;
  picture = picture_after (station_clocks setup.station) setup.rows s.picture f.reports;
  clients = clients_told (outcomes_of_fragment s f)
      (map (client_with_news (news_of (station_clocks setup.station) setup.rows s.picture f.reports)) s.clients);
  controls = controls_with_ended f.outstation (order_ended s f) s.controls;
}

-- time that has passed closes clients, and then ends orders
abbrev pub controls_closed : State → ℕ → Controls
controls_closed s moment = controls_after_closes 0 (map (is_timed_out moment) s.clients) s.controls

abbrev pub ended_late : State → ℕ → List (Option Ended)
ended_late s moment = map (ended_by_tick moment) s.outstations

abbrev pub outcomes_of_tick : State → ℕ → List Outcome
outcomes_of_tick s moment = outcomes_ended 0 (ended_late s moment) (controls_closed s moment)

abbrev pub parts_after_tick : State → ℕ → State
parts_after_tick s moment = record s {
  outstations = map (master_after_tick moment) s.outstations;
  clients = clients_told (outcomes_of_tick s moment) (map (client_after_tick moment) s.clients);
  controls = controls_after_all_ended 0 (ended_late s moment) (controls_closed s moment);
}

-- what becomes of orders in a step
abbrev pub outcomes_of : State → Step → List Outcome
outcomes_of s (steps.OutstationDown o moment) = outcomes_of_loss s o
outcomes_of s (steps.Fragment f moment) = if is_accepting s f then outcomes_of_fragment s f else []
outcomes_of s (steps.Tick moment) = outcomes_of_tick s (latest s moment)
outcomes_of s _ = []

-- what a step changes at a moment, but for the counts
abbrev pub parts_after : Setup → State → ℕ → Step → State
parts_after setup s moment (steps.OutstationUp o _) =
    record s { outstations = change o (master_after_up moment) s.outstations }
parts_after setup s moment (steps.OutstationDown o _) = parts_after_loss setup s o
parts_after setup s moment (steps.Poll o _ wall) = parts_after_poll s moment o wall (order_due s o)
parts_after setup s moment (steps.Tick _) = parts_after_tick s moment
parts_after setup s moment (steps.Fragment f _) =
    if is_accepting s f then parts_after_fragment setup s moment f else s
parts_after setup s moment (steps.ClientUp c _) = record s { clients = change c (client_after_up moment) s.clients }
parts_after setup s moment (steps.ClientDown c _) = record s {
  clients = change c client_after_close s.clients;
  controls = controls_after_end c s.controls;
}
parts_after setup s moment (steps.Frame c apdu _) = parts_after_frame setup s moment c apdu
parts_after setup s moment (steps.Pump c _) =
    record s { clients = change c (client_after_pump (station_clocks setup.station) moment) s.clients }

abbrev pub after : Setup → State → Step → State
after setup s step = record (parts_after setup s (latest s (moment_of step)) step) {
  counts = raised s.counts (needs setup s step).counts;
  moment = latest s (moment_of step);
}

-- ---- what is allowed

-- memory runs out only in a step that would be made, and that may want some
abbrev pub MayFault : Setup → State → Step → StepFault → Type 0
MayFault setup s step Memory = (outcome setup s step ≡ Ok (reply_to setup s step)) × IsTrue (needs setup s step).memory
MayFault setup s step NoOutstation = outcome setup s step ≡ Err NoOutstation
MayFault setup s step NoClient = outcome setup s step ≡ Err NoClient
MayFault setup s step NotUp = outcome setup s step ≡ Err NotUp
MayFault setup s step AlreadyUp = outcome setup s step ≡ Err AlreadyUp
MayFault setup s step Spent = outcome setup s step ≡ Err Spent

-- a step may answer so and leave the state so
abbrev pub Allowed : Setup → State → Step → Result Reply StepFault → State → Type 0
Allowed setup s step (Ok reply) new = (outcome setup s step ≡ Ok reply) × (new ≡ after setup s step)
Allowed setup s step (Err fault) new = MayFault setup s step fault × (new ≡ s)
