-- What a hub keeps, and what its calls do.
use Rattle.std.specs.Prelude.{◌≡◌, ℕ, ◌+◌, ◌-◌, ◌*◌, ◌^◌, ◌<◌, ◌≤◌, Bool, true, false, ◌==◌, is_some}
use Rattle.std.specs.Prelude.{List, [], length, slice_get, Option, Some, None, Result, Ok, Err, IfSome, if◌then◌else◌}
use Rattle.std.specs.List.{AllByRecursion}
use Rattle.gw_model.specs.declared.point.Report.{Report}
use Rattle.gw_map.specs.Settings.{Setup, station_clocks}
use Rattle.gw_model.specs.declared.observation.Observation.{Observation}
use Rattle.gw_picture.specs.Picture.{news_of, news_of_report}
use Rattle.dnp_app.specs.Response.{Fragment}
use Rattle.dnp_master.specs.declared.verdict.Verdict.{Verdict}
use Rattle.dnp_master.specs.declared.verdict.Verdict.TheVariants.{Ignored}
use Rattle.dnp_master.specs.declared.verdict.Ignored.TheVariants.{NoRequest}
use Rattle.dnp_master.specs.Fragments.{verdict_of}
use Rattle.dnp_master.specs.Master.{Master}
use Rattle.gw_control.specs.declared.answer.Outcome.{Outcome}
use Rattle.iec_command.specs.declared.command.Command.{Command as AnyCommand}
use Rattle.iec_apci.specs.declared.apdu.Apdu.{Apdu}
use Rattle.gw_judge.specs.Judging.{is_execute}
use Rattle.gw_control.specs.declared.asked.AskedCommand.{AskedCommand}
use Rattle.gw_control.specs.Intents.{control_for}
use Rattle.gw_control.specs.Selections.{asked, is_select}
use Rattle.gw_control.specs.Controls.{Controls, answer_of, controls_after_command, controls_after_end, controls_after_taking, CanAnswer}
use Rattle.gw_control.specs.Held.{orders_of}
use Rattle.gw_station.specs.declared.event.Event.{Event}
use Rattle.gw_station.specs.declared.event.Event.TheVariants.{Taken, Command, Closed}
use Rattle.gw_station.specs.declared.event.Said.{Said}
use Rattle.gw_station.specs.Answers.{places, places_taken, CanBeTold}
use Rattle.gw_station.specs.Client.{Client, is_started}
use Rattle.gw_station.specs.Sound.{IsSoundClient}
use Rattle.gw_steps.specs.declared.step.Step.{Step}
use Rattle.gw_steps.specs.declared.step.Step.TheVariants as steps
use Rattle.gw_steps.specs.declared.step.Reply.{Reply}
use Rattle.gw_steps.specs.declared.step.StepFault.{StepFault}
use Rattle.gw_steps.specs.Controls.{controls_after_taken, is_control_up, order_due, said_by, said_of_outcome}
use Rattle.gw_steps.specs.Effects.{Effects, clients_due, outstations_due, waiting_for}
use Rattle.gw_steps.specs.Sound.{IsSoundState}
use Rattle.gw_hub.specs.declared.orders.Sender.{Sender}
use Rattle.gw_hub.specs.declared.tally.Counts.{Counts}
use Rattle.gw_steps.specs.State.{Hub, State, Counts as Tally}
use Rattle.gw_steps.specs.Steps.{Allowed, can_rise, raised, latest, parts_after_fragment}

-- the counts that a hub begins with, but for its orders
abbrev pub tally_of : Counts → Tally
tally_of counts = record { steps = counts.steps; news = counts.news; sessions = counts.sessions }

-- outside of a session no news wait, and none were dropped
pub record KeepsToSession (k : Client) : Type 0 where
  pub outside : is_started k.stage ≡ false → (k.queue ≡ []) × (k.dropped ≡ 0)

-- what a hub keeps in every state, where so many news came to the clients
pub record IsKept (setup : Setup) (s : State) (came : ℕ) : Type 0 where
  pub sound : IsSoundState setup s
  pub sessions : AllByRecursion KeepsToSession s.clients
  pub news : came ≡ s.counts.news

-- a step is answered so, and leads from one hub to the other
abbrev pub Answers : Hub → Step → Result Reply StepFault → Hub → Type 0
Answers old step reply new = Allowed old.setup old.state step reply new.state

-- a step with so many news and sessions that begin
abbrev pub step_with : ℕ → ℕ → Tally
step_with news sessions = record { steps = 1; news = news; sessions = sessions }

-- the news that a report is after a picture: none or one; and those that reports taken in turn are
abbrev pub news_of_one : Setup → List Observation → Report → List Observation
news_of_one setup picture report = news_of_report (station_clocks setup.station) setup.rows picture report

abbrev pub news_of_all : Setup → List Observation → List Report → List Observation
news_of_all setup picture reports = news_of (station_clocks setup.station) setup.rows picture reports

-- how many news these reports are
abbrev pub news_among : Hub → List Report → ℕ
news_among hub reports = length (news_of_all hub.setup hub.state.picture reports)

-- the counts of a hub can rise by a step and by the news that these reports are
abbrev pub can_take : Hub → List Report → Bool
can_take hub reports = can_rise hub.state.counts (step_with (news_among hub reports) 0)

-- they can rise by a step that brings no news and begins no session
abbrev pub can_count : Hub → Bool
can_count hub = can_rise hub.state.counts (step_with 0 0)

-- such a step was counted at a moment
abbrev pub state_counting : ℕ → State → State
state_counting moment s = record s { counts = raised s.counts (step_with 0 0); moment = latest s moment }

-- a step was counted; no client had more I formats than there were steps before
pub record IsCounted (hub : Hub) : Type 0 where
  pub before : ℕ
  pub counted : hub.state.counts.steps ≡ before + 1
  pub few : before + 1 < 2 ^ 64
  pub sound : AllByRecursion (IsSoundClient hub.setup.station before hub.state.counts.news) hub.state.clients

-- the state of a hub that took a response at a moment
abbrev pub state_with_response : Hub → ℕ → Fragment → State
state_with_response hub moment response =
    record (parts_after_fragment hub.setup hub.state (latest hub.state moment) response) {
      counts = raised hub.state.counts (step_with (news_among hub response.reports) 0);
      moment = latest hub.state moment;
    }

-- ---- fragments

-- what becomes of a fragment by the master towards its outstation; where there is none, nothing waits for it
abbrev pub verdict_by : Fragment → Option Master → Verdict
verdict_by f None = Ignored NoRequest
verdict_by f (Some m) = verdict_of m f

-- and of that of a step, if it is one
abbrev pub verdict_in : State → Step → Verdict
verdict_in s (steps.Fragment f moment) = verdict_by f (slice_get s.outstations f.outstation)
verdict_in s _ = Ignored NoRequest

-- ---- orders

-- once the order that is due for an outstation was taken
abbrev pub controls_polled : State → ℕ → Controls
controls_polled s o = if is_some (order_due s o) then controls_after_taking o s.controls else s.controls

-- the command of a sender, as the controls see it
abbrev pub asked_by_sender : Setup → List Master → Sender → AnyCommand → AskedCommand
asked_by_sender setup outstations x command =
    asked x.client x.session command (is_control_up outstations (control_for setup command)) x.moment

-- what is said of it
abbrev pub said_to_sender : Setup → List Master → Sender → Controls → AnyCommand → Said
said_to_sender setup outstations x v command =
    said_by (answer_of setup (asked_by_sender setup outstations x command) v)

-- what becomes of selections and orders
abbrev pub controls_settled : Setup → List Master → Sender → Apdu → Event → Controls → Controls
controls_settled setup outstations x apdu Taken v = controls_after_taken x.client apdu v
controls_settled setup outstations x apdu (Command command) v =
    controls_after_command setup (asked_by_sender setup outstations x command) v
controls_settled setup outstations x apdu (Closed why) v = controls_after_end x.client v

-- a command that is an order has a number
abbrev pub CanOrder : Setup → List Master → Sender → Event → Controls → Type 0
CanOrder setup outstations x Taken v = Unit {0}
CanOrder setup outstations x (Command command) v =
    CanAnswer setup (asked_by_sender setup outstations x command) v
CanOrder setup outstations x (Closed why) v = Unit {0}

-- a command that neither deactivates nor selects executes
abbrev pub IsActEvent : Event → Type 0
IsActEvent Taken = Unit {0}
IsActEvent (Command c) = (c.cause == 8) ≡ false → is_select c.action ≡ false → is_execute c ≡ true
IsActEvent (Closed why) = Unit {0}

-- a client can be told of an outcome
abbrev pub CanTell : List Client → Outcome → Type 0
CanTell clients x = IfSome (slice_get clients x.client) (CanBeTold x.command (said_of_outcome x))

-- each order holds two of its client's places
pub record HoldsPlaces (clients : List Client) (controls : Controls) : Type 0 where
  pub held : (c : ℕ) → IfSome (slice_get clients c) (λ k. k.held ≡ 2 * orders_of c controls)
  pub places : AllByRecursion (λ k. places_taken k ≤ places) clients

-- ---- what a step did

-- this, and what this state tells of a step before which there were so many news, and so many I formats waited
abbrev pub told_behind : State → Step → ℕ → ℕ → Effects → Effects
told_behind s step news waiting done = record done {
  news = s.counts.news - news;
  acknowledged = waiting - waiting_for s step;
  due_outstations = outstations_due s step done;
  due_clients = clients_due s step done;
}

-- why a step is not made, if there is a reason
abbrev pub unless : Option StepFault → Result (Unit {0}) StepFault
unless None = Ok tt
unless (Some fault) = Err fault
