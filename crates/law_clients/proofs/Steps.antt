-- What each step is to the connection of each client.
use Rattle.std.proofs.Common.{◌≡◌, ℕ, zero, suc, Bool, true, false, cond, map, List, [], ◌∷◌, Option}
use Rattle.std.proofs.Common.{Some, None, Result, Ok, Err, refl, sym, ap, subst, ◌∙◌, inl, inr}
use Rattle.std.specs.Prelude.{◌==◌, slice_get, option_map, replicate, IfSome}
use Rattle.std.proofs.lemmas.Bool.{cases_Bool, cases_eq, ne_eqb, eq-eqb, true≢false}
use Rattle.gw_model.specs.Places.{change}
use Rattle.gw_model.specs.declared.observation.Observation.{Observation}
use Rattle.gw_model.specs.Clocks.{Clocks}
use Rattle.gw_map.specs.Settings.{Setup, HasSingleAddresses, station_clocks}
use Rattle.gw_picture.proofs.Lists.{change-here}
use Rattle.gw_picture.specs.Log.{picture_of}
use Rattle.iec_apci.specs.declared.apdu.Apdu.{Apdu}
use Rattle.iec_apci.specs.declared.apdu.Apdu.TheVariants.{I, S, U}
use Rattle.iec_apci.specs.declared.apdu.Signal.{Signal}
use Rattle.iec_apci.specs.declared.apdu.Signal.TheVariants.{StartAct, StartCon, StopAct, StopCon, TestAct, TestCon}
use Rattle.iec_apci.specs.Apdu.{ApduContent}
use Rattle.iec_command.specs.declared.command.Command.{Command}
use Rattle.iec_window.specs.declared.limits.Limits.{Limits}
use Rattle.iec_window.specs.Steps.{counts_at_start}
use Rattle.gw_station.specs.declared.event.Event.{Event}
use Rattle.gw_station.specs.declared.event.Event.TheVariants as events
use Rattle.gw_station.specs.declared.event.Said.{Said}
use Rattle.iec_apci.specs.declared.why.Why.{Why}
use Rattle.gw_station.specs.declared.sending.Sending.{Sending}
use Rattle.gw_station.specs.declared.sending.Sending.TheVariants as sendings
use Rattle.gw_station.specs.Client.{Client, client_down, is_started, is_up, limits_of, client_after_up}
use Rattle.gw_station.specs.Frames.{client_by, client_taking, client_with_signal, close_of, command_in, event_by, event_of, event_taking}
use Rattle.gw_station.specs.Pump.{client_by_offer, client_after_pump, client_with_sent, content_of, given, offered}
use Rattle.gw_station.specs.Sound.{CanSend}
use Rattle.gw_station.proofs.Sends.{offered_can, content_fits}
use Rattle.gw_steps.specs.declared.step.Step.{Step}
use Rattle.gw_steps.specs.declared.step.Step.TheVariants as steps
use Rattle.gw_steps.specs.declared.step.Reply.{Reply}
use Rattle.gw_steps.specs.declared.step.StepFault.{StepFault}
use Rattle.gw_steps.specs.declared.step.StepFault.TheVariants.{NoClient}
use Rattle.gw_steps.specs.State.{State, client_limit}
use Rattle.gw_steps.specs.Steps.{Allowed, after, can_be_counted, client_after_frame, client_answered, client_reply}
use Rattle.gw_steps.specs.Steps.{fault_of, latest, needs, outcome, reply_giving, reply_of_event, reply_to}
use Rattle.gw_steps.specs.Runs.{Entry, AtEach, state_after}
use Rattle.gw_steps.proofs.Inversion.{answered, who_is_up, who_is_down}
use Rattle.gw_steps.proofs.Running.{entry}
use Rattle.gw_steps.proofs.Saying.{said-content}
use Rattle.law_history.specs.Accepted.{moment_after}
use Rattle.law_history.specs.Life.{Brought, Turn, Idle, Takes, PutsOut, Ends, is_closed_in, life}
use Rattle.law_history.specs.Life.{lived, nothing_new, said_in, turn_giving, turn_of, turn_taking}
use Rattle.law_history.specs.Log.{log_of}
use Rattle.gw_steps.specs.Premises.{client_at}
use Rattle.law_history.proofs.Clients.{Goes, SlotGoes, all_go, taken_reply, frame_turn}
use Rattle.law_history.proofs.Tied.{told_moment}
use Rattle.law_history.proofs.Places.{Known, Place, SlotLives}
use Rattle.law_history.proofs.Told.{sound_at}
use Rattle.law_clients.proofs.Numbers.{WindowTied, counts_tied}
use Rattle.law_clients.specs.Connection.{At, Connection, TimedTurn, connection, connection_with, going_on, turn_in, turns}
use Rattle.law_clients.proofs.Links.{AllLinked, ClientLinked, Linked, SlotLinked, Stays, came_stays, confirmations_taking, window_taking}

-- ---- a turn at which nothing happens to the connection, or it ends

abbrev nothing : Brought
nothing = record { news = []; outcomes = [] }

-- one turn more of a client that stays up
one_more : (setup : Setup) (now : ℕ) (t : Turn) (x : Option Connection) (k new : Client)
    → (is_up k.stage ≡ false → is_up new.stage ≡ false)
    → ((began : ℕ) (ts : List TimedTurn) → Linked setup began ts k → WindowTied setup (map turn_in ts) k.window
    → is_up k.stage ≡ true → (is_up new.stage ≡ true) × Linked setup began (At now t ∷ ts) new)
    → IfSome x (λ y. WindowTied setup (turns y) k.window)
    → ClientLinked setup x k → ClientLinked setup (going_on now t x) new
one_more setup now t None k new down up counted linked = down linked
one_more setup now t (Some x) k new down up counted linked = up x.began x.timed linked.1 counted linked.0

stays_linked : (setup : Setup) (now : ℕ) (brought : Brought) (x : Option Connection) (k new : Client) → Stays k new
    → IfSome x (λ y. WindowTied setup (turns y) k.window)
    → ClientLinked setup x k → ClientLinked setup (going_on now (Idle brought) x) new
stays_linked setup now brought x k new stays counted linked =
    one_more setup now (Idle brought) x k new (λ down. ap is_up stays.stage ∙ down)
    (λ began ts so_far tied up. (ap is_up stays.stage ∙ up, (k, so_far, tied, stays))) counted linked

-- the counts that a connection tells are those of its client
abbrev pub Counted : Setup → Option Connection → Option Client → Type 0
Counted setup x None = Unit {0}
Counted setup x (Some k) = IfSome x (λ y. WindowTied setup (turns y) k.window)

rests_client : (setup : Setup) (now : ℕ) (x : Option Connection) (k next : Client) (b : Bool) (brought : Brought)
    → IfSome x (λ y. WindowTied setup (turns y) k.window) → Goes setup (Some (cond b Ends (Idle brought))) k next
    → ClientLinked setup x k → ClientLinked setup (connection_with now (Some (cond b Ends (Idle brought))) x) next
rests_client setup now x k next true brought counted goes linked = ap (λ (y : Client). is_up y.stage) goes
rests_client setup now x k next false brought counted goes linked =
    stays_linked setup now brought x k next (came_stays brought k next goes) counted linked

rests_down : (now : ℕ) (x : Option Connection) (b : Bool) (brought : Brought) → x ≡ None
    → connection_with now (Some (cond b Ends (Idle brought))) x ≡ None
rests_down now x true brought down = refl
rests_down now x false brought down = ap (going_on now (Idle brought)) down

rests : (setup : Setup) (now : ℕ) (x : Option Connection) (s new : Option Client) (turn : Option Turn) (b : Bool)
    (brought : Brought) → turn ≡ Some (cond b Ends (Idle brought)) → Counted setup x s → SlotGoes setup turn s new
    → SlotLinked setup x s → SlotLinked setup (connection_with now turn x) new
rests setup now x None new turn b brought is counted goes linked =
    subst (SlotLinked setup (connection_with now turn x)) (sym goes)
    (ap (λ (t : Option Turn). connection_with now t x) is ∙ rests_down now x b brought linked)
rests setup now x (Some k) new turn b brought is counted goes linked =
    subst (SlotLinked setup (connection_with now turn x)) (sym goes.1)
    (subst (λ (t : Option Turn). ClientLinked setup (connection_with now t x) goes.0) (sym is)
    (rests_client setup now x k goes.0 b brought counted
    (subst (λ (t : Option Turn). Goes setup t k goes.0) is goes.2) linked))

-- ---- Frame

answered_beside : (said : Command → Said) (event : Event) (k : Client) → Stays k (client_answered said event k)
answered_beside said events.Taken k = record { stage = refl; window = refl; confirmations = refl }
answered_beside said (events.Command command) k = record { stage = refl; window = refl; confirmations = refl }
answered_beside said (events.Closed why) k = record { stage = refl; window = refl; confirmations = refl }

-- a control function leaves a client up
signal_up : (moment : ℕ) (signal : Signal) (k : Client) → is_up k.stage ≡ true
    → is_up (client_with_signal moment signal k).stage ≡ true
signal_up moment StartAct k up = elim (cases_Bool (is_started k.stage)) [ inl is ↦ rw is up | inr out ↦ rw out refl ]
signal_up moment StopAct k up = elim (cases_Bool (is_started k.stage)) [ inl is ↦ rw is refl | inr out ↦ rw out up ]
signal_up moment TestAct k up = up
signal_up moment StartCon k up = up
signal_up moment StopCon k up = up
signal_up moment TestCon k up = up

-- an APDU that is taken, before a command in it is answered
taking_up : (setup : Setup) (picture : List Observation) (moment : ℕ) (a : Apdu) (k : Client) → is_up k.stage ≡ true
    → is_up (client_taking setup picture moment a k).stage ≡ true
taking_up setup picture moment (I ns nr asdu) k up = up
taking_up setup picture moment (S nr) k up = up
taking_up setup picture moment (U signal) k up = signal_up moment signal k up

taking_window : (setup : Setup) (picture : List Observation) (moment : ℕ) (a : Apdu) (k : Client)
    → (client_taking setup picture moment a k).window ≡ window_taking moment a k.window
taking_window setup picture moment (I ns nr asdu) k = refl
taking_window setup picture moment (S nr) k = refl
taking_window setup picture moment (U signal) k = refl

taking_confirmations : (setup : Setup) (picture : List Observation) (moment : ℕ) (a : Apdu) (k : Client)
    → (client_taking setup picture moment a k).confirmations ≡ confirmations_taking a k.confirmations
taking_confirmations setup picture moment (I ns nr asdu) k = refl
taking_confirmations setup picture moment (S nr) k = refl
taking_confirmations setup picture moment (U signal) k = refl

framed : (setup : Setup) (picture shown : List Observation) (said told : Command → Said) (now : ℕ) (a : Apdu)
    (x : Option Connection) (k : Client) (why : Option Why) → close_of setup a k ≡ why → is_up k.stage ≡ true
    → IfSome x (λ y. WindowTied setup (turns y) k.window) → ClientLinked setup x k
    → ClientLinked setup (connection_with now
    (Some (turn_taking a shown told (reply_of_event (event_by why (command_in setup a))))) x)
    (client_answered said (event_by why (command_in setup a))
    (client_by why k (client_taking setup picture now a k)))
framed setup picture shown said told now a x k (Some why) closes up counted linked = refl
framed setup picture shown said told now a x k None opens up counted linked =
    let between : Client = client_taking setup picture now a k in
    let same = answered_beside said (event_taking (command_in setup a)) between in
    rw (taken_reply (command_in setup a))
    (one_more setup now (Takes a (record { picture = shown; said = told })) x k
    (client_answered said (event_taking (command_in setup a)) between)
    (λ down. absurd (true≢false (sym up ∙ down)))
    (λ began ts so_far tied was_up. (
      ap is_up same.stage ∙ taking_up setup picture now a k up,
      (
        k,
        so_far,
        tied,
        record {
          opens = opens;
          window = same.window ∙ taking_window setup picture now a k;
          confirmations = same.confirmations ∙ taking_confirmations setup picture now a k;
        },
      ),
    )) counted linked)

-- ---- Pump

sent_up : (clocks : Clocks) (moment : ℕ) (s : Sending) (k : Client) → (client_with_sent clocks moment s k).stage ≡ k.stage
sent_up clocks moment (sendings.Confirm signal) k = refl
sent_up clocks moment sendings.Test k = refl
sent_up clocks moment (sendings.Answer answer) k = refl
sent_up clocks moment (sendings.News x) k = refl
sent_up clocks moment (sendings.Part part) k = refl
sent_up clocks moment sendings.SFormat k = refl

pumped : (setup : Setup) (now : ℕ) (x : Option Connection) (k : Client) (offer : Option Sending)
    → offered now k ≡ offer → IfSome offer (CanSend (station_clocks setup.station))
    → IfSome x (λ y. WindowTied setup (turns y) k.window) → ClientLinked setup x k
    → ClientLinked setup (connection_with now (Some (turn_giving setup (reply_giving
    (option_map (content_of (station_clocks setup.station) k) offer)))) x)
    (client_by_offer (station_clocks setup.station) now offer k)
pumped setup now x k None first can counted linked =
    stays_linked setup now nothing x k k
    (record { stage = refl; window = refl; confirmations = refl }) counted linked
pumped setup now x k (Some sending) first can counted linked =
    let content : ApduContent = content_of (station_clocks setup.station) k sending in
    let fits = content_fits (station_clocks setup.station) k sending in
    rw (said-content (station_clocks setup.station) content fits)
    (one_more setup now (PutsOut _) x k (client_with_sent (station_clocks setup.station) now sending k)
    (λ down. ap is_up (sent_up (station_clocks setup.station) now sending k) ∙ down)
    (λ began ts so_far tied up. (
      ap is_up (sent_up (station_clocks setup.station) now sending k) ∙ up,
      (k, so_far, tied, record { sending = sending; first = first; says = refl; becomes = refl }),
    )) counted linked)

-- ---- turns of a connection are those of the client's life

turn_more : (now : ℕ) (t : Option Turn) (x : Option Connection) (ts : List Turn) → IfSome x (λ y. turns y ≡ ts)
    → IfSome (connection_with now t x) (λ y. turns y ≡ lived t ts)
turn_more now None x ts same = refl
turn_more now (Some Ends) x ts same = tt
turn_more now (Some (Idle brought)) None ts same = tt
turn_more now (Some (Idle brought)) (Some y) ts same = ap (λ (us : List Turn). Idle brought ∷ us) same
turn_more now (Some (Takes a taking)) None ts same = tt
turn_more now (Some (Takes a taking)) (Some y) ts same = ap (λ (us : List Turn). Takes a taking ∷ us) same
turn_more now (Some (PutsOut said)) None ts same = tt
turn_more now (Some (PutsOut said)) (Some y) ts same = ap (λ (us : List Turn). PutsOut said ∷ us) same

pub same_turns : (setup : Setup) (c : ℕ) (past : List Entry)
    → IfSome (connection setup c past) (λ x. turns x ≡ life setup c past)
same_turns setup c [] = tt
same_turns setup c (e ∷ past) =
    turn_more (moment_after (e ∷ past)) (turn_of setup c past e) (connection setup c past) (life setup c past)
    (same_turns setup c past)

counted_by : (setup : Setup) (x : Option Connection) (ts : List Turn) (s : Option Client)
    → IfSome x (λ y. turns y ≡ ts) → (c : ℕ) → SlotLives setup c ts s → Counted setup x s
counted_by setup x ts None same c lives = tt
counted_by setup None ts (Some k) same c lives = tt
counted_by setup (Some y) ts (Some k) same c lives =
    subst (λ (us : List Turn). WindowTied setup us k.window) (sym same) (counts_tied setup ts k lives).window

counted : (setup : Setup) (past : List Entry) (c : ℕ) → Known setup past
    → Counted setup (connection setup c past) (client_at setup c past)
counted setup past c known =
    counted_by setup (connection setup c past) (life setup c past) (client_at setup c past) (same_turns setup c past)
    c (known.lives c)

-- ---- each step

-- what an entry leaves
abbrev pub LinksTo : Setup → List Entry → Entry → State → ℕ → Type 0
LinksTo setup past e new d = SlotLinked setup (connection setup d (e ∷ past)) (slice_get new.clients d)

-- what is known before it of client d
record Before (setup : Setup) (past : List Entry) (d : ℕ) : Type 0 where
  known : Known setup past
  linked : SlotLinked setup (connection setup d past) (client_at setup d past)

-- the connection goes on, or it ends
rested : (setup : Setup) (past : List Entry) (e : Entry) (new : State) (d : ℕ) (b : Bool) (brought : Brought)
    → turn_of setup d past e ≡ Some (cond b Ends (Idle brought)) → Before setup past d
    → SlotGoes setup (turn_of setup d past e) (client_at setup d past) (slice_get new.clients d)
    → LinksTo setup past e new d
rested setup past e new d b brought is before goes =
    rests setup (moment_after (e ∷ past)) (connection setup d past) (client_at setup d past)
    (slice_get new.clients d) (turn_of setup d past e) b brought is (counted setup past d before.known) goes
    before.linked

-- a step of client c
frame_apart : (setup : Setup) (past : List Entry) (c d m : ℕ) (a : Apdu) (r : Reply) → (c ≡ d → ⊥)
    → turn_of setup d past (entry (steps.Frame c a m) (Ok r)) ≡ Some (cond false Ends (Idle nothing))
frame_apart setup past c d m a r ne =
    ap (λ (here : Bool). Some (cond here (turn_taking a (picture_of setup.rows (log_of setup past))
    (said_in setup d past m) r) nothing_new)) (ne_eqb c d ne)

pump_apart : (setup : Setup) (past : List Entry) (c d m : ℕ) (r : Reply) → (c ≡ d → ⊥)
    → turn_of setup d past (entry (steps.Pump c m) (Ok r)) ≡ Some (cond false Ends (Idle nothing))
pump_apart setup past c d m r ne =
    ap (λ (here : Bool). Some (cond here (turn_giving setup r) nothing_new)) (ne_eqb c d ne)

pump_turn : (setup : Setup) (past : List Entry) (c m : ℕ) (r : Reply)
    → turn_of setup c past (entry (steps.Pump c m) (Ok r)) ≡ Some (turn_giving setup r)
pump_turn setup past c m r =
    ap (λ (here : Bool). Some (cond here (turn_giving setup r) nothing_new)) (eq-eqb c c refl)

-- what is there of client c, where it changed
changed : (c : ℕ) (f : Client → Client) (ks : List Client) (k : Client) → slice_get ks c ≡ Some k
    → slice_get (change c f ks) c ≡ Some (f k)
changed c f ks k at = change-here c f ks ∙ ap (option_map f) at

-- a turn of client c led to this
led : (setup : Setup) (past : List Entry) (e : Entry) (new : State) (c now : ℕ) (turn : Option Turn) (next : Client)
    → turn_of setup c past e ≡ turn → now ≡ moment_after (e ∷ past) → slice_get new.clients c ≡ Some next
    → ClientLinked setup (connection_with now turn (connection setup c past)) next → LinksTo setup past e new c
led setup past e new c now turn next is moment at linked =
    subst (SlotLinked setup (connection setup c (e ∷ past))) (sym at)
    (subst (λ (n : ℕ). ClientLinked setup (connection_with n (turn_of setup c past e) (connection setup c past)) next)
    moment
    (subst (λ (t : Option Turn). ClientLinked setup (connection_with now t (connection setup c past)) next) (sym is)
    linked))

-- of a client that is there
here_linked : (setup : Setup) (x : Option Connection) (s : Option Client) (k : Client) → s ≡ Some k
    → SlotLinked setup x s → ClientLinked setup x k
here_linked setup x s k at linked = subst (SlotLinked setup x) at linked

here_counted : (setup : Setup) (x : Option Connection) (s : Option Client) (k : Client) → s ≡ Some k
    → Counted setup x s → IfSome x (λ y. WindowTied setup (turns y) k.window)
here_counted setup x s k at is = subst (Counted setup x) at is

frame_own : (setup : Setup) (past : List Entry) (c m : ℕ) (a : Apdu) (r : Reply)
    → outcome setup (state_after setup past) (steps.Frame c a m) ≡ Ok r → Before setup past c
    → LinksTo setup past (entry (steps.Frame c a m) (Ok r)) (after setup (state_after setup past) (steps.Frame c a m)) c
frame_own setup past c m a r e before =
    let s : State = state_after setup past in
    let step : Step = steps.Frame c a m in
    let told = answered (fault_of s step) (can_be_counted s (needs setup s step)) (reply_to setup s step) r e in
    let up = who_is_up (λ (k : Client). is_up k.stage) NoClient (slice_get s.clients c) told.0 in
    let k : Client = up.0 in
    let said : Command → Said = said_in setup c past m in
    let came : Reply = reply_of_event (event_of setup a k) in
    let reply : came ≡ r =
    sym (ap (client_reply (λ (x : Client). reply_of_event (event_of setup a x))) up.1) ∙ told.2 in
    subst (λ (x : Reply). LinksTo setup past (entry step (Ok x)) (after setup s step) c) reply
    (led setup past (entry step (Ok came)) (after setup s step) c (latest s m)
    (Some (turn_taking a (picture_of setup.rows (log_of setup past)) said came))
    (client_after_frame setup s.picture said (latest s m) a k) (frame_turn setup past c m a came)
    (told_moment setup past s m before.known.tied)
    (changed c (client_after_frame setup s.picture said (latest s m) a) s.clients k up.1)
    (framed setup s.picture (picture_of setup.rows (log_of setup past)) said said (latest s m) a
    (connection setup c past) k (close_of setup a k) refl up.2
    (here_counted setup (connection setup c past) (slice_get s.clients c) k up.1 (counted setup past c before.known))
    (here_linked setup (connection setup c past) (slice_get s.clients c) k up.1 before.linked)))

pump_own : (setup : Setup) (past : List Entry) (c m : ℕ) (r : Reply)
    → outcome setup (state_after setup past) (steps.Pump c m) ≡ Ok r → Before setup past c
    → LinksTo setup past (entry (steps.Pump c m) (Ok r)) (after setup (state_after setup past) (steps.Pump c m)) c
pump_own setup past c m r e before =
    let s : State = state_after setup past in
    let step : Step = steps.Pump c m in
    let now : ℕ = latest s m in
    let told = answered (fault_of s step) (can_be_counted s (needs setup s step)) (reply_to setup s step) r e in
    let up = who_is_up (λ (k : Client). is_up k.stage) NoClient (slice_get s.clients c) told.0 in
    let k : Client = up.0 in
    let content : Option ApduContent = given (station_clocks setup.station) now k in
    let reply : reply_giving content ≡ r = sym (ap (client_reply (λ (x : Client). reply_giving
    (given (station_clocks setup.station) now x))) up.1) ∙ told.2 in
    let mine = sound_at setup.station s.counts.steps s.counts.news s.clients c k up.1 before.known.sound.clients in
    subst (λ (x : Reply). LinksTo setup past (entry step (Ok x)) (after setup s step) c) reply
    (led setup past (entry step (Ok (reply_giving content))) (after setup s step) c now
    (Some (turn_giving setup (reply_giving content))) (client_after_pump (station_clocks setup.station) now k)
    (pump_turn setup past c m (reply_giving content)) (told_moment setup past s m before.known.tied)
    (changed c (client_after_pump (station_clocks setup.station) now) s.clients k up.1)
    (pumped setup now (connection setup c past) k (offered now k) refl
    (offered_can setup.station s.counts.steps s.counts.news now k mine)
    (here_counted setup (connection setup c past) (slice_get s.clients c) k up.1 (counted setup past c before.known))
    (here_linked setup (connection setup c past) (slice_get s.clients c) k up.1 before.linked)))

up_turn : (setup : Setup) (past : List Entry) (c m : ℕ) (r : Reply)
    → turn_of setup c past (entry (steps.ClientUp c m) (Ok r)) ≡ None
up_turn setup past c m r = ap (λ (here : Bool). cond here None (Some nothing_new)) (eq-eqb c c refl)

up_apart : (setup : Setup) (past : List Entry) (c d m : ℕ) (r : Reply) → (c ≡ d → ⊥)
    → turn_of setup d past (entry (steps.ClientUp c m) (Ok r)) ≡ Some (cond false Ends (Idle nothing))
up_apart setup past c d m r ne = ap (λ (here : Bool). cond here None (Some nothing_new)) (ne_eqb c d ne)

up_own : (setup : Setup) (past : List Entry) (c m : ℕ) (r : Reply)
    → outcome setup (state_after setup past) (steps.ClientUp c m) ≡ Ok r → Before setup past c
    → LinksTo setup past (entry (steps.ClientUp c m) (Ok r))
    (after setup (state_after setup past) (steps.ClientUp c m)) c
up_own setup past c m r e before =
    let s : State = state_after setup past in
    let step : Step = steps.ClientUp c m in
    let told = answered (fault_of s step) (can_be_counted s (needs setup s step)) (reply_to setup s step) r e in
    let down = who_is_down (λ (k : Client). is_up k.stage) NoClient (slice_get s.clients c) told.0 in
    let mine = sound_at setup.station s.counts.steps s.counts.news s.clients c down.0 down.1
    before.known.sound.clients in
    led setup past (entry step (Ok r)) (after setup s step) c (latest s m) None (client_after_up (latest s m) down.0)
    (up_turn setup past c m r) (told_moment setup past s m before.known.tied)
    (changed c (client_after_up (latest s m)) s.clients down.0 down.1) (
      refl,
      record {
        window = ap (λ (l : Limits). counts_at_start l (latest s m)) mine.window.limits;
        confirmations = refl;
      },
    )

links_made : (setup : Setup) (past : List Entry) (step : Step) (r : Reply) (d : ℕ)
    → outcome setup (state_after setup past) step ≡ Ok r → Before setup past d
    → SlotGoes setup (turn_of setup d past (entry step (Ok r))) (client_at setup d past)
    (slice_get (after setup (state_after setup past) step).clients d)
    → LinksTo setup past (entry step (Ok r)) (after setup (state_after setup past) step) d
links_made setup past (steps.OutstationUp o m) r d e before goes =
    let step : Step = steps.OutstationUp o m in
    rested setup past (entry step (Ok r)) (after setup (state_after setup past) step) d false _ refl before goes
links_made setup past (steps.OutstationDown o m) r d e before goes =
    let step : Step = steps.OutstationDown o m in
    rested setup past (entry step (Ok r)) (after setup (state_after setup past) step) d false _ refl before goes
links_made setup past (steps.Fragment f m) r d e before goes =
    let step : Step = steps.Fragment f m in
    rested setup past (entry step (Ok r)) (after setup (state_after setup past) step) d false _ refl before goes
links_made setup past (steps.Poll o m wall) r d e before goes =
    let step : Step = steps.Poll o m wall in
    rested setup past (entry step (Ok r)) (after setup (state_after setup past) step) d false _ refl before goes
links_made setup past (steps.ClientDown c m) r d e before goes =
    let step : Step = steps.ClientDown c m in
    rested setup past (entry step (Ok r)) (after setup (state_after setup past) step) d (c == d) _ refl before goes
links_made setup past (steps.Tick m) r d e before goes =
    let step : Step = steps.Tick m in
    rested setup past (entry step (Ok r)) (after setup (state_after setup past) step) d (is_closed_in d r) _ refl
    before goes
links_made setup past (steps.ClientUp c m) r d e before goes =
    let step : Step = steps.ClientUp c m in
    let s : State = state_after setup past in
    elim (cases_eq c d) [
      | inl same ↦ subst (λ (x : ℕ). Before setup past x
          → LinksTo setup past (entry step (Ok r)) (after setup s step) x) same (up_own setup past c m r e) before
      | inr ne ↦ rested setup past (entry step (Ok r)) (after setup s step) d false nothing
          (up_apart setup past c d m r ne) before goes
    ]
links_made setup past (steps.Frame c a m) r d e before goes =
    let step : Step = steps.Frame c a m in
    let s : State = state_after setup past in
    elim (cases_eq c d) [
      | inl same ↦ subst (λ (x : ℕ). Before setup past x
          → LinksTo setup past (entry step (Ok r)) (after setup s step) x) same (frame_own setup past c m a r e) before
      | inr ne ↦ rested setup past (entry step (Ok r)) (after setup s step) d false nothing
          (frame_apart setup past c d m a r ne) before goes
    ]
links_made setup past (steps.Pump c m) r d e before goes =
    let step : Step = steps.Pump c m in
    let s : State = state_after setup past in
    elim (cases_eq c d) [
      | inl same ↦ subst (λ (x : ℕ). Before setup past x
          → LinksTo setup past (entry step (Ok r)) (after setup s step) x) same (pump_own setup past c m r e) before
      | inr ne ↦ rested setup past (entry step (Ok r)) (after setup s step) d false nothing
          (pump_apart setup past c d m r ne) before goes
    ]

links_more : (setup : Setup) (past : List Entry) (step : Step) (reply : Result Reply StepFault) (d : ℕ)
    → HasSingleAddresses setup.rows setup.controls
    → Allowed setup (state_after setup past) step reply (state_after setup (entry step reply ∷ past))
    → Before setup past d
    → LinksTo setup past (entry step reply) (state_after setup (entry step reply ∷ past)) d
links_more setup past step (Ok r) d single allowed before =
    links_made setup past step r d allowed.0 before
    (all_go setup past step (Ok r) single before.known.sound allowed before.known.tied d)
links_more setup past step (Err f) d single allowed before =
    rested setup past (entry step (Err f)) (state_after setup past) d false nothing refl before
    (all_go setup past step (Err f) single before.known.sound allowed before.known.tied d)

-- ---- each place

-- at first all are down
first_linked : (setup : Setup) (n d : ℕ)
    → SlotLinked setup None (slice_get (replicate n (client_down (limits_of setup.station) setup.station.queue)) d)
first_linked setup zero d = refl
first_linked setup (suc n) zero = refl
first_linked setup (suc n) (suc d) = first_linked setup n d

pub links : (setup : Setup) (past : List Entry) → AtEach (Place setup) past → AllLinked setup past
links setup [] at d = first_linked setup client_limit d
links setup (e ∷ past) at d =
    links_more setup past e.step e.reply d at.0.given.settings.addresses at.0.last.0
    (record { known = at.0.last.1; linked = links setup past at.1 d })
