-- What each step is to each client.
use Rattle.std.proofs.Common.{◌≡◌, ℕ, ◌≤◌, Bool, true, false, cond, map, List, [], ◌∷◌, length, Option}
use Rattle.std.proofs.Common.{Some, None, Result, Ok, Err, refl, sym, ap, subst, ◌∙◌, arith, inl, inr}
use Rattle.std.specs.List.{AllByRecursion}
use Rattle.std.specs.Prelude.{slice_get, option_map, IfSome}
use Rattle.std.proofs.lemmas.Bool.{cases_Bool, cases_eq, ne_eqb, eq-eqb}
use Rattle.gw_model.specs.declared.control.Order.{Order}
use Rattle.gw_model.specs.declared.observation.Observation.{Observation}
use Rattle.gw_model.specs.Places.{change}
use Rattle.gw_map.specs.Settings.{Setup, HasSingleAddresses, station_clocks}
use Rattle.gw_picture.proofs.Lists.{change-here, change-there, map-get}
use Rattle.gw_picture.specs.Log.{picture_of}
use Rattle.gw_picture.specs.Loss.{losses_of}
use Rattle.gw_picture.specs.Picture.{news_of}
use Rattle.dnp_app.specs.Response.{Fragment}
use Rattle.dnp_master.specs.Master.{Master}
use Rattle.iec_apci.specs.declared.apdu.Apdu.{Apdu}
use Rattle.iec_apci.specs.Apdu.{ApduContent}
use Rattle.iec_command.specs.declared.command.Command.{Command}
use Rattle.gw_control.specs.declared.answer.Outcome.{Outcome}
use Rattle.gw_control.specs.Controls.{Controls}
use Rattle.gw_station.specs.declared.event.Said.{Said}
use Rattle.iec_apci.specs.declared.why.Why.{Why}
use Rattle.gw_station.specs.declared.sending.Sending.{Sending}
use Rattle.gw_station.specs.Client.{Client, is_up, is_timed_out, client_after_up, client_after_close, client_after_tick, client_with_news}
use Rattle.gw_station.specs.Frames.{close_of, event_by, event_of, command_in, client_by, client_taking}
use Rattle.gw_station.specs.Pump.{line, offered, content_of, given, client_by_offer, client_after_pump}
use Rattle.gw_station.specs.Sound.{CanSend}
use Rattle.gw_station.proofs.Queues.{came-nil}
use Rattle.gw_station.proofs.Sends.{offered_can, line_can, content_fits}
use Rattle.gw_steps.specs.declared.step.Step.{Step}
use Rattle.gw_steps.specs.declared.step.Step.TheVariants as steps
use Rattle.gw_steps.specs.declared.step.Reply.{Reply}
use Rattle.gw_steps.specs.declared.step.Reply.TheVariants as replies
use Rattle.gw_steps.specs.declared.step.StepFault.{StepFault}
use Rattle.gw_steps.specs.declared.step.StepFault.TheVariants.{NoClient, NoOutstation}
use Rattle.gw_steps.specs.State.{State}
use Rattle.gw_steps.specs.Controls.{client_told_all, clients_told, controls_with_ended, order_due}
use Rattle.gw_steps.specs.Steps.{Allowed, outcome, needs, can_be_counted, reply_to, fault_of}
use Rattle.gw_steps.specs.Steps.{client_reply, client_answered, client_after_frame, controls_closed}
use Rattle.gw_steps.specs.Steps.{order_ended, outcomes_of_fragment, outcomes_of_loss, outcomes_of_tick}
use Rattle.gw_steps.specs.Steps.{parts_after_loss, parts_after_poll, parts_after_tick, reply_of_event}
use Rattle.gw_steps.specs.Steps.{reply_giving, is_accepting, bits_of, latest, after}
use Rattle.gw_steps.specs.Runs.{Entry, state_after}
use Rattle.gw_steps.specs.Sound.{IsSoundState, LeavesSound}
use Rattle.gw_steps.proofs.Inversion.{answered, who_is_up, who_is_down}
use Rattle.gw_steps.proofs.Running.{entry}
use Rattle.gw_steps.proofs.Saying.{said-content}
use Rattle.law_history.specs.Accepted.{is_accepted}
use Rattle.law_history.specs.Log.{log_of, news_after_log}
use Rattle.law_history.specs.Life.{Turn, Ends, bringing, nothing_new, has_bit, outcomes_for, outcomes_in, said_in, turn_taking, turn_of}
use Rattle.law_history.proofs.Bits.{t1_passed_at, t1_told}
use Rattle.law_history.proofs.Lives.{Becomes, Came, IsFresh, fresh_up}
use Rattle.law_history.proofs.Masters.{MasterIs, MasterTied, same_accepted}
use Rattle.law_history.proofs.Pictures.{news_same}
use Rattle.law_history.proofs.Tied.{Tied}
use Rattle.law_history.proofs.Told.{IsTold, came_told, closed_few, closed_told, loss_told, sound_at, tick_told, told_ended, told_own}

-- its connection stands anew, or it goes on
abbrev pub Goes : Setup → Option Turn → Client → Client → Type 0
Goes setup None k new = IsFresh setup new
Goes setup (Some t) k new = Becomes setup t k new

-- where there is no such client, there is none later
abbrev pub SlotGoes : Setup → Option Turn → Option Client → Option Client → Type 0
SlotGoes setup turn None new = new ≡ None
SlotGoes setup turn (Some k) new = (next : Client) × (new ≡ Some next) × Goes setup turn k next

abbrev pub AllGo : Setup → List Entry → Entry → State → State → Type 0
AllGo setup past e s new = (d : ℕ) → SlotGoes setup (turn_of setup d past e) (slice_get s.clients d)
    (slice_get new.clients d)

-- nothing happens to it
still : (k : Client) → length k.queue ≤ k.limit → Came (record { news = []; outcomes = [] }) k k
still k few = record { becomes = sym (came-nil k few); stopped = λ stopped. refl; operating = tt }

idle_slot : (setup : Setup) (s : State) (d : ℕ) (turn : Option Turn) → IsSoundState setup s → turn ≡ Some nothing_new
    → SlotGoes setup turn (slice_get s.clients d) (slice_get s.clients d)
idle_slot setup s d turn sound idle = by (slice_get s.clients d) refl
  where
    by : (x : Option Client) → slice_get s.clients d ≡ x → SlotGoes setup turn x x
    by None at = refl
    by (Some k) at =
        let mine = sound_at setup.station s.counts.steps s.counts.news s.clients d k at sound.clients in
        (k, refl, subst (λ (t : Option Turn). Goes setup t k k) (sym idle) (still k mine.few))

nothing_goes : (setup : Setup) (past : List Entry) (e : Entry) (s new : State) → IsSoundState setup s
    → new.clients ≡ s.clients
    → ((d : ℕ) → turn_of setup d past e ≡ Some nothing_new) → AllGo setup past e s new
nothing_goes setup past e s new sound same idle d = rw same
    (idle_slot setup s d (turn_of setup d past e) sound (idle d))

-- news come to all, and they are told what became of their orders
all_come : (setup : Setup) (past : List Entry) (e : Entry) (s new : State) (v : Controls) (xs : List Observation)
    (outcomes : List Outcome) → IsSoundState setup s
    → new.clients ≡ clients_told outcomes (map (client_with_news xs) s.clients)
    → ((d : ℕ) → IsTold d s.controls v outcomes)
    → ((d : ℕ) → turn_of setup d past e ≡ Some (bringing xs (outcomes_for d outcomes))) → AllGo setup past e s new
all_come setup past e s new v xs outcomes sound clients told turn d =
    rw (
      clients,
      turn d,
      told_own d outcomes (map (client_with_news xs) s.clients),
      map-get (client_with_news xs) s.clients d,
    ) (come (slice_get s.clients d) refl)
  where
    come : (x : Option Client) → slice_get s.clients d ≡ x
        → SlotGoes setup (Some (bringing xs (outcomes_for d outcomes))) x
        (option_map (client_told_all (outcomes_for d outcomes)) (option_map (client_with_news xs) x))
    come None at = refl
    come (Some k) at = (
      client_told_all (outcomes_for d outcomes) (client_with_news xs k),
      refl,
      came_told setup s d k s.controls v xs outcomes sound at (omega arith) (told d),
    )

-- the other clients idle
one_client : (setup : Setup) (past : List Entry) (e : Entry) (s new : State) (c : ℕ) (f : Client → Client)
    (k : Client) → IsSoundState setup s
    → slice_get s.clients c ≡ Some k → new.clients ≡ change c f s.clients
    → ((d : ℕ) → (c ≡ d → ⊥) → turn_of setup d past e ≡ Some nothing_new)
    → Goes setup (turn_of setup c past e) k (f k) → AllGo setup past e s new
one_client setup past e s new c f k sound at changed idle own d = rw changed (elim (cases_eq c d) [
  | inl same ↦ subst (λ (x : ℕ). SlotGoes setup (turn_of setup x past e) (slice_get s.clients x)
      (slice_get (change c f s.clients) x)) same
      (rw (change-here c f s.clients, at) (f k, refl, own))
  | inr ne ↦ rw (change-there c d f s.clients ne) (idle_slot setup s d (turn_of setup d past e) sound (idle d ne))
])

-- ---- OutstationDown and Fragment

outstation_down : (setup : Setup) (past : List Entry) (o m : ℕ) (r : Reply)
    → IsSoundState setup (state_after setup past) → Tied setup past (state_after setup past)
    → AllGo setup past (entry (steps.OutstationDown o m) (Ok r)) (state_after setup past)
    (after setup (state_after setup past) (steps.OutstationDown o m))
outstation_down setup past o m r sound tied =
    let s : State = state_after setup past in
    let losses : List Observation → List Observation = λ p. losses_of o setup.rows p in
    all_come setup past (entry (steps.OutstationDown o m) (Ok r)) s (after setup s (steps.OutstationDown o m))
    (parts_after_loss setup s o).controls (losses (picture_of setup.rows (log_of setup past))) (outcomes_of_loss s o)
    sound
    (ap (λ (p : List Observation). clients_told (outcomes_of_loss s o) (map (client_with_news (losses p)) s.clients))
    tied.picture)
    (λ d. loss_told setup s o d sound) (λ d. refl)

fragment : (setup : Setup) (past : List Entry) (f : Fragment) (m : ℕ) (r : Reply)
    → HasSingleAddresses setup.rows setup.controls → IsSoundState setup (state_after setup past)
    → outcome setup (state_after setup past) (steps.Fragment f m) ≡ Ok r → Tied setup past (state_after setup past)
    → AllGo setup past (entry (steps.Fragment f m) (Ok r)) (state_after setup past)
    (after setup (state_after setup past) (steps.Fragment f m))
fragment setup past f m r single sound e tied =
    let s : State = state_after setup past in
    let step : Step = steps.Fragment f m in
    let here : Entry = entry step (Ok r) in
    let log : List Observation = log_of setup past in
    let told = answered (fault_of s step) (can_be_counted s (needs setup s step)) (reply_to setup s step) r e in
    let up = who_is_up (λ (x : Master). x.up) NoOutstation (slice_get s.outstations f.outstation) told.0 in
    let is : MasterIs setup f.outstation past up.0 = subst (MasterTied setup f.outstation past) up.1
    (tied.outstations f.outstation) in
    let same : is_accepting s f ≡ is_accepted setup past f = rw up.1 (same_accepted setup past f up.0 is) in
    let news : news_of (station_clocks setup.station) setup.rows s.picture f.reports
    ≡ news_after_log setup log f.reports =
    ap (λ (p : List Observation). news_of (station_clocks setup.station) setup.rows p f.reports) tied.picture
    ∙ (news_same setup log f.reports single).0 in
    elim (cases_Bool (is_accepted setup past f)) [
      | inl taken ↦ all_come setup past here s (after setup s step)
          (controls_with_ended f.outstation (order_ended s f) s.controls)
          (news_after_log setup log f.reports) (outcomes_of_fragment s f) sound
          (rw (same ∙ taken) (ap (λ (xs : List Observation).
          clients_told (outcomes_of_fragment s f) (map (client_with_news xs) s.clients)) news))
          (λ d. told_ended setup d f.outstation (order_ended s f) s.controls sound.commands)
          (λ d. rw (taken, same ∙ taken) refl)
      | inr left ↦ nothing_goes setup past here s (after setup s step) sound (rw (same ∙ left) refl)
          (λ d. rw (left, same ∙ left) refl)
    ]

-- ---- ClientUp and ClientDown

client_up : (setup : Setup) (past : List Entry) (c m : ℕ) (r : Reply) (s : State) → IsSoundState setup s
    → outcome setup s (steps.ClientUp c m) ≡ Ok r
    → AllGo setup past (entry (steps.ClientUp c m) (Ok r)) s (after setup s (steps.ClientUp c m))
client_up setup past c m r s sound e =
    let step : Step = steps.ClientUp c m in
    let told = answered (fault_of s step) (can_be_counted s (needs setup s step)) (reply_to setup s step) r e in
    let down = who_is_down (λ (k : Client). is_up k.stage) NoClient (slice_get s.clients c) told.0 in
    subst (λ (x : Reply). AllGo setup past (entry step (Ok x)) s (after setup s step)) told.2
    (one_client setup past (entry step (Ok replies.Done)) s (after setup s step) c
    (client_after_up (latest s m)) down.0 sound down.1 refl
    (λ d ne. rw (ne_eqb c d ne) refl)
    (rw (eq-eqb c c refl) (fresh_up setup s.counts.steps s.counts.news (latest s m) down.0
    (sound_at setup.station s.counts.steps s.counts.news s.clients c down.0 down.1 sound.clients))))

client_down : (setup : Setup) (past : List Entry) (c m : ℕ) (r : Reply) (s : State) → IsSoundState setup s
    → outcome setup s (steps.ClientDown c m) ≡ Ok r
    → AllGo setup past (entry (steps.ClientDown c m) (Ok r)) s (after setup s (steps.ClientDown c m))
client_down setup past c m r s sound e =
    let step : Step = steps.ClientDown c m in
    let told = answered (fault_of s step) (can_be_counted s (needs setup s step)) (reply_to setup s step) r e in
    let up = who_is_up (λ (k : Client). is_up k.stage) NoClient (slice_get s.clients c) told.0 in
    subst (λ (x : Reply). AllGo setup past (entry step (Ok x)) s (after setup s step)) told.2
    (one_client setup past (entry step (Ok replies.Done)) s
    (after setup s step) c client_after_close up.0 sound up.1 refl
    (λ d ne. rw (ne_eqb c d ne) refl) (rw (eq-eqb c c refl) refl))

-- ---- Frame

-- the reply to what a command in an APDU is, is that it was taken
pub taken_reply : (command : Option Command) → reply_of_event (event_by None command) ≡ replies.Taken
taken_reply None = refl
taken_reply (Some command) = refl

-- what becomes of its client, by why it closes
frame_own : (setup : Setup) (picture : List Observation) (said : Command → Said) (moment : ℕ) (a : Apdu) (k : Client)
    (why : Option Why) → close_of setup a k ≡ why
    → Goes setup (Some (turn_taking a picture said (reply_of_event (event_by why (command_in setup a))))) k
    (client_answered said (event_by why (command_in setup a))
    (client_by why k (client_taking setup picture moment a k)))
frame_own setup picture said moment a k None opens =
    rw (taken_reply (command_in setup a)) (record { moment = moment; opens = opens; becomes = refl })
frame_own setup picture said moment a k (Some why) closes = refl

frame_apart : (setup : Setup) (past : List Entry) (c d m : ℕ) (a : Apdu) (r : Reply) → (c ≡ d → ⊥)
    → turn_of setup d past (entry (steps.Frame c a m) (Ok r)) ≡ Some nothing_new
frame_apart setup past c d m a r ne =
    ap (λ (here : Bool). Some (cond here (turn_taking a (picture_of setup.rows (log_of setup past))
    (said_in setup d past m) r) nothing_new)) (ne_eqb c d ne)

pub frame_turn : (setup : Setup) (past : List Entry) (c m : ℕ) (a : Apdu) (r : Reply)
    → turn_of setup c past (entry (steps.Frame c a m) (Ok r))
    ≡ Some (turn_taking a (picture_of setup.rows (log_of setup past)) (said_in setup c past m) r)
frame_turn setup past c m a r =
    ap (λ (here : Bool). Some (cond here (turn_taking a (picture_of setup.rows (log_of setup past))
    (said_in setup c past m) r) nothing_new)) (eq-eqb c c refl)

frame : (setup : Setup) (past : List Entry) (c m : ℕ) (a : Apdu) (r : Reply)
    → IsSoundState setup (state_after setup past) → outcome setup (state_after setup past) (steps.Frame c a m) ≡ Ok r
    → (state_after setup past).picture ≡ picture_of setup.rows (log_of setup past)
    → AllGo setup past (entry (steps.Frame c a m) (Ok r)) (state_after setup past)
    (after setup (state_after setup past) (steps.Frame c a m))
frame setup past c m a r sound e picture =
    let s : State = state_after setup past in
    let step : Step = steps.Frame c a m in
    let told = answered (fault_of s step) (can_be_counted s (needs setup s step)) (reply_to setup s step) r e in
    let up = who_is_up (λ (k : Client). is_up k.stage) NoClient (slice_get s.clients c) told.0 in
    let k : Client = up.0 in
    let moment : ℕ = latest s m in
    let said : Command → Said = said_in setup c past m in
    let came : Reply = reply_of_event (event_of setup a k) in
    let reply : came ≡ r =
    sym (ap (client_reply (λ (x : Client). reply_of_event (event_of setup a x))) up.1) ∙ told.2 in
    subst (λ (x : Reply). AllGo setup past (entry step (Ok x)) s (after setup s step)) reply
    (one_client setup past (entry step (Ok came)) s (after setup s step) c
    (client_after_frame setup s.picture said moment a) k sound up.1 refl
    (λ d ne. frame_apart setup past c d m a came ne)
    (subst (λ (t : Option Turn). Goes setup t k (client_after_frame setup s.picture said moment a k))
    (sym (frame_turn setup past c m a came))
    (subst (λ (shown : List Observation).
    Goes setup (Some (turn_taking a (picture_of setup.rows (log_of setup past)) said came)) k
    (client_after_frame setup shown said moment a k)) (sym picture)
    (frame_own setup (picture_of setup.rows (log_of setup past)) said moment a k (close_of setup a k) refl))))

-- ---- Pump

-- what becomes of its client, by what is offered
pump_own : (setup : Setup) (past : List Entry) (c m moment : ℕ) (k : Client) (x : Option Sending)
    → length k.queue ≤ k.limit → offered moment k ≡ x
    → IfSome x (CanSend (station_clocks setup.station)) → AllByRecursion (CanSend (station_clocks setup.station)) (line k)
    → let e : Entry = entry (steps.Pump c m) (Ok (reply_giving
    (option_map (content_of (station_clocks setup.station) k) x))) in
    Goes setup (turn_of setup c past e) k (client_by_offer (station_clocks setup.station) moment x k)
pump_own setup past c m moment k None few first can all = rw (eq-eqb c c refl) (still k few)
pump_own setup past c m moment k (Some sending) few first can all =
    let content : ApduContent = content_of (station_clocks setup.station) k sending in
    let fits = content_fits (station_clocks setup.station) k sending in
    rw (eq-eqb c c refl, said-content (station_clocks setup.station) content fits)
    (record { moment = moment; sending = sending; first = first; can = can; all = all; says = refl; becomes = refl })

pump_apart : (setup : Setup) (past : List Entry) (c d m : ℕ) (given : Option ApduContent) → (c ≡ d → ⊥)
    → turn_of setup d past (entry (steps.Pump c m) (Ok (reply_giving given))) ≡ Some nothing_new
pump_apart setup past c d m None ne = rw (ne_eqb c d ne) refl
pump_apart setup past c d m (Some content) ne = rw (ne_eqb c d ne) refl

pump : (setup : Setup) (past : List Entry) (c m : ℕ) (r : Reply) (s : State) → IsSoundState setup s
    → outcome setup s (steps.Pump c m) ≡ Ok r
    → AllGo setup past (entry (steps.Pump c m) (Ok r)) s (after setup s (steps.Pump c m))
pump setup past c m r s sound e =
    let step : Step = steps.Pump c m in
    let moment : ℕ = latest s m in
    let told = answered (fault_of s step) (can_be_counted s (needs setup s step)) (reply_to setup s step) r e in
    let up = who_is_up (λ (k : Client). is_up k.stage) NoClient (slice_get s.clients c) told.0 in
    let content : Option ApduContent = given (station_clocks setup.station) moment up.0 in
    let reply : reply_giving content ≡ r = sym (ap (client_reply (λ (k : Client). reply_giving
    (given (station_clocks setup.station) moment k))) up.1) ∙ told.2 in
    let mine = sound_at setup.station s.counts.steps s.counts.news s.clients c up.0 up.1 sound.clients in
    let can = offered_can setup.station s.counts.steps s.counts.news moment up.0 mine in
    subst (λ (x : Reply). AllGo setup past (entry step (Ok x)) s (after setup s step)) reply
    (one_client setup past (entry step (Ok (reply_giving content))) s (after setup s step) c
    (client_after_pump (station_clocks setup.station) moment) up.0 sound up.1 refl
    (λ d ne. pump_apart setup past c d m content ne) (pump_own setup past c m moment up.0
    (offered moment up.0) mine.few refl can (line_can setup.station s.counts.steps s.counts.news up.0 mine)))

-- ---- Tick

tick_turn : (setup : Setup) (past : List Entry) (d m bits : ℕ) (closed : Bool) → has_bit d bits ≡ closed
    → turn_of setup d past (entry (steps.Tick m) (Ok (replies.Ticked bits)))
    ≡ Some (cond closed Ends (bringing [] (outcomes_for d (outcomes_in setup past (steps.Tick m)))))
tick_turn setup past d m bits closed e =
    ap (λ (b : Bool). Some (cond b Ends (bringing [] (outcomes_for d (outcomes_in setup past (steps.Tick m)))))) e

-- what becomes of a client, by whether it is closed
tick_own : (setup : Setup) (s : State) (moment d : ℕ) (k : Client) (closed : Bool) → IsSoundState setup s
    → slice_get s.clients d ≡ Some k → is_timed_out moment k ≡ closed
    → let outcomes : List Outcome = outcomes_for d (outcomes_of_tick s moment) in
    Goes setup (Some (cond closed Ends (bringing [] outcomes))) k
    (client_told_all outcomes (cond closed (client_after_close k) k))
tick_own setup s moment d k true sound at passed =
    ap (λ (xs : List Outcome). client_told_all xs (client_after_close k))
    (closed_told setup s moment d k sound at passed)
tick_own setup s moment d k false sound at on =
    let outcomes : List Outcome = outcomes_of_tick s moment in
    let mine = sound_at setup.station s.counts.steps s.counts.news s.clients d k at sound.clients in
    let few = closed_few d 0 (map (is_timed_out moment) s.clients) s.controls in
    subst (λ (x : Client). Came (record { news = []; outcomes = outcomes_for d outcomes }) k
    (client_told_all (outcomes_for d outcomes) x)) (came-nil k mine.few)
    (came_told setup s d k (controls_closed s moment) (parts_after_tick s moment).controls [] outcomes sound at few
    (tick_told setup s moment d sound))

tick_slot : (setup : Setup) (past : List Entry) (m d : ℕ) (x : Option Client)
    → IsSoundState setup (state_after setup past) → slice_get (state_after setup past).clients d ≡ x
    → let s : State = state_after setup past in
    let moment : ℕ = latest s m in
    let bits : ℕ = bits_of (map (is_timed_out moment) s.clients) in
    SlotGoes setup (turn_of setup d past (entry (steps.Tick m) (Ok (replies.Ticked bits)))) x
    (option_map (client_told_all (outcomes_for d (outcomes_of_tick s moment)))
    (option_map (client_after_tick moment) x))
tick_slot setup past m d None sound at = refl
tick_slot setup past m d (Some k) sound at =
    let s : State = state_after setup past in
    let moment : ℕ = latest s m in
    let bits : ℕ = bits_of (map (is_timed_out moment) s.clients) in
    let new : Client = client_told_all (outcomes_for d (outcomes_of_tick s moment)) (client_after_tick moment k) in
    let bit : has_bit d bits ≡ is_timed_out moment k =
    t1_told moment s.clients d ∙ ap (t1_passed_at moment) at in (
      new,
      refl,
      subst (λ (t : Option Turn). Goes setup t k new) (sym (tick_turn setup past d m bits (is_timed_out moment k) bit))
          (tick_own setup s moment d k (is_timed_out moment k) sound at refl),
    )

tick : (setup : Setup) (past : List Entry) (m : ℕ) (r : Reply) → IsSoundState setup (state_after setup past)
    → outcome setup (state_after setup past) (steps.Tick m) ≡ Ok r
    → AllGo setup past (entry (steps.Tick m) (Ok r)) (state_after setup past)
    (after setup (state_after setup past) (steps.Tick m))
tick setup past m r sound e d =
    let s : State = state_after setup past in
    let step : Step = steps.Tick m in
    let moment : ℕ = latest s m in
    let told = answered (fault_of s step) (can_be_counted s (needs setup s step)) (reply_to setup s step) r e in
    subst (λ (x : Reply). SlotGoes setup (turn_of setup d past (entry step (Ok x))) (slice_get s.clients d)
    (slice_get (after setup s step).clients d)) told.2
    (rw (
      told_own d (outcomes_of_tick s moment) (map (client_after_tick moment) s.clients),
      map-get (client_after_tick moment) s.clients d,
    ) (tick_slot setup past m d (slice_get s.clients d) sound refl))

-- ---- each step

-- a poll leaves the clients as they are
polled : (s : State) (moment o wall : ℕ) (order : Option Order)
    → (parts_after_poll s moment o wall order).clients ≡ s.clients
polled s moment o wall None = refl
polled s moment o wall (Some order) = refl

step_goes : (setup : Setup) (past : List Entry) (step : Step) (r : Reply)
    → HasSingleAddresses setup.rows setup.controls → IsSoundState setup (state_after setup past)
    → outcome setup (state_after setup past) step ≡ Ok r → Tied setup past (state_after setup past)
    → AllGo setup past (entry step (Ok r)) (state_after setup past) (after setup (state_after setup past) step)
step_goes setup past (steps.OutstationUp o m) r single sound e tied =
    nothing_goes setup past (entry (steps.OutstationUp o m) (Ok r)) (state_after setup past)
    (after setup (state_after setup past) (steps.OutstationUp o m)) sound refl (λ d. refl)
step_goes setup past (steps.OutstationDown o m) r single sound e tied = outstation_down setup past o m r sound tied
step_goes setup past (steps.Fragment f m) r single sound e tied = fragment setup past f m r single sound e tied
step_goes setup past (steps.Poll o m wall) r single sound e tied =
    let s : State = state_after setup past in
    nothing_goes setup past (entry (steps.Poll o m wall) (Ok r)) s (after setup s (steps.Poll o m wall)) sound
    (polled s (latest s m) o wall (order_due s o)) (λ d. refl)
step_goes setup past (steps.ClientUp c m) r single sound e tied =
    client_up setup past c m r (state_after setup past) sound e
step_goes setup past (steps.ClientDown c m) r single sound e tied =
    client_down setup past c m r (state_after setup past) sound e
step_goes setup past (steps.Frame c apdu m) r single sound e tied = frame setup past c m apdu r sound e tied.picture
step_goes setup past (steps.Pump c m) r single sound e tied = pump setup past c m r (state_after setup past) sound e
step_goes setup past (steps.Tick m) r single sound e tied = tick setup past m r sound e

pub all_go : (setup : Setup) (past : List Entry) (step : Step) (reply : Result Reply StepFault)
    → HasSingleAddresses setup.rows setup.controls → LeavesSound setup past
    → Allowed setup (state_after setup past) step reply (state_after setup (entry step reply ∷ past))
    → Tied setup past (state_after setup past)
    → AllGo setup past (entry step reply) (state_after setup past) (state_after setup (entry step reply ∷ past))
all_go setup past step (Ok r) single sound allowed tied = step_goes setup past step r single sound allowed.0 tied
all_go setup past step (Err f) single sound allowed tied =
    nothing_goes setup past (entry step (Err f)) (state_after setup past)
    (state_after setup past) sound refl (λ d. refl)
