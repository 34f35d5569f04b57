-- A tick closes where t1 has passed, and a pump gives what is due first.
use Rattle.std.proofs.Common.{◌≡◌, ℕ, Bool, true, false, cond, List, [], ◌∷◌, length, Option}
use Rattle.std.proofs.Common.{Some, None, Result, Ok, Err, refl, sym, ap, subst, ◌∙◌, arith}
use Rattle.std.specs.Prelude.{◌&&◌, ◌||◌, is_some, nat_le, nat_lt, option_map, slice_get, IfSome}
use Rattle.std.proofs.lemmas.Bool.{lt-ltb, true≢false}
use Rattle.gw_model.specs.First.{when, first_of}
use Rattle.gw_entries.specs.Setup.{StationSetup}
use Rattle.gw_map.specs.Settings.{Setup, station_clocks}
use Rattle.iec_apci.specs.Apdu.{ApduContent}
use Rattle.iec_apci.specs.declared.apdu.Signal.{Signal}
use Rattle.iec_apci.specs.declared.apdu.Signal.TheVariants.{TestAct}
use Rattle.iec_window.specs.declared.limits.Limits.{Limits}
use Rattle.iec_window.specs.Timers.{has_passed as is_passed, owes_ack, owes_test, t1_passed}
use Rattle.gw_station.specs.declared.sending.Sending.{Sending}
use Rattle.gw_station.specs.declared.sending.Sending.TheVariants as sendings
use Rattle.gw_station.specs.Client.{Client, is_started, is_timed_out, is_up, limits_of}
use Rattle.gw_station.specs.Pump.{content_of, given, has_room, information_offered, line as line_in, offered}
use Rattle.gw_station.proofs.Sends.{content_fits}
use Rattle.gw_steps.specs.declared.step.Step.{Step}
use Rattle.gw_steps.specs.declared.step.Step.TheVariants as steps
use Rattle.gw_steps.specs.declared.step.Reply.{Reply}
use Rattle.gw_steps.specs.declared.step.StepFault.{StepFault}
use Rattle.gw_steps.specs.declared.step.StepFault.TheVariants.{NoClient}
use Rattle.gw_steps.specs.State.{State, later}
use Rattle.gw_steps.specs.Steps.{Allowed, can_be_counted, client_reply, fault_of, latest, needs, outcome, reply_giving, reply_to}
use Rattle.gw_steps.specs.Runs.{Entry, state_after}
use Rattle.gw_steps.proofs.Inversion.{answered, who_is_up}
use Rattle.gw_steps.proofs.Saying.{said-content}
use Rattle.law_history.specs.Accepted.{moment_after}
use Rattle.law_history.specs.Life.{Turn, life, session, turns_in}
use Rattle.gw_steps.specs.Premises.{client_at, IsSoundSetup}
use Rattle.law_history.proofs.Bits.{t1_passed_at, t1_told}
use Rattle.law_history.proofs.Lives.{Lives}
use Rattle.law_history.proofs.Places.{Known, Place, SlotLives}
use Rattle.law_history.proofs.Tied.{told_moment}
use Rattle.law_history.proofs.Told.{sound_at}
use Rattle.law_clients.specs.Connection.{Connection, OfStanding, connection, is_so, turns}
use Rattle.law_clients.specs.Signals.{waiting}
use Rattle.law_clients.specs.Line.{line}
use Rattle.law_clients.specs.Times.{ClosesLate, Due, GivesDue, Times, TimesBy, ToAcknowledge, ToInform}
use Rattle.law_clients.specs.Times.{ToSignal, due, has_passed, is_information_due, is_late, is_receipt_due}
use Rattle.law_clients.specs.Times.{is_test_due, tested_at, unacknowledged, unreceipted, was_due}
use Rattle.law_clients.proofs.Closes.{LinkedBefore}
use Rattle.law_clients.proofs.Links.{AllLinked, ClientLinked, SlotLinked}
use Rattle.law_clients.proofs.Line.{LineTied, line_is, line_tied}
use Rattle.law_clients.proofs.Numbers.{says as saying}
use Rattle.law_clients.proofs.News.{NewsTied, news_tied, stands}
use Rattle.law_clients.proofs.Offers.{IsInformation, informs}
use Rattle.law_clients.proofs.Signals.{signals_tied, waiting_is}
use Rattle.law_clients.proofs.Steps.{same_turns}
use Rattle.law_clients.proofs.Timers.{TimersTied, timers_tied}

-- ---- what is due

same_passed : (limit now : ℕ) (since : Option ℕ) → is_passed limit since now ≡ has_passed limit now since
same_passed limit now None = refl
same_passed limit now (Some since) = refl

-- what ties a client to its connection
record Ties (setup : Setup) (x : Connection) (k : Client) : Type 0 where
  limits : k.window.limits ≡ limits_of setup.station
  waiting : waiting (turns x) ≡ k.confirmations
  timers : TimersTied x.began x.timed k
  news : NewsTied setup (session (turns x)) k
  line : LineTied setup (session (turns x)) k

either_passed : (limit now : ℕ) (a b : Option ℕ)
    → is_passed limit a now || is_passed limit b now ≡ has_passed limit now a || has_passed limit now b
either_passed limit now a b = rw (same_passed limit now a, same_passed limit now b) refl

same_late : (setup : Setup) (now : ℕ) (x : Connection) (k : Client) → Ties setup x k
    → t1_passed now k.window ≡ is_late setup.station now x
same_late setup now x k tied =
    rw (tied.limits, tied.timers.waiting, tied.timers.test)
    (either_passed setup.station.t1_ms now (slice_get (unacknowledged x.timed) 0) (tested_at x.timed))

same_test : (setup : Setup) (now : ℕ) (x : Connection) (k : Client) → Ties setup x k
    → owes_test now k.window ≡ is_test_due setup.station now x
same_test setup now x k tied = rw (tied.limits, tied.timers.heard, tied.timers.test) refl

same_receipt : (station : StationSetup) (now owed : ℕ) (since : Option ℕ) (u : List ℕ) → owed ≡ length u
    → since ≡ slice_get u 0
    → nat_lt 0 owed && (nat_le station.w owed || is_passed station.t2_ms since now) ≡ is_receipt_due station now u
same_receipt station now owed since [] count oldest = rw count refl
same_receipt station now owed since (x ∷ u) count oldest =
    rw (count, oldest, lt-ltb 0 (length (x ∷ u)) (omega arith)) refl

same_ack : (setup : Setup) (now : ℕ) (x : Connection) (k : Client) → Ties setup x k
    → owes_ack now k.window ≡ is_receipt_due setup.station now (unreceipted x.timed)
same_ack setup now x k tied =
    ap (λ (l : Limits). nat_lt 0 k.window.owed
    && (nat_le l.w k.window.owed || is_passed l.t2 k.window.owed_since now)) tied.limits
    ∙ same_receipt setup.station now k.window.owed k.window.owed_since (unreceipted x.timed) tied.timers.owed
    tied.timers.since

-- in a session, with room, the first in line is put out
said_if : {A : Type 0} (started room : Bool) (first : Option A)
    → is_some (cond (started && room) first None) ≡ started && room && is_some first
said_if true true first = refl
said_if true false first = refl
said_if false room first = refl

same_line : (setup : Setup) (s : Option (List Turn)) (room : Bool) (k : Client) → NewsTied setup s k
    → LineTied setup s k → is_some s && room && is_some (slice_get (line_in k) 0)
    ≡ is_some s && room && is_some (slice_get (line setup (turns_in s)) 0)
same_line setup None room k news tied = refl
same_line setup (Some hs) room k news tied =
    ap (λ (l : List Sending). room && is_some (slice_get l 0)) (line_is setup hs k news tied)

same_information : (setup : Setup) (x : Connection) (k : Client) → Ties setup x k
    → is_some (information_offered k) ≡ is_information_due setup x
same_information setup x k tied =
    let room : has_room k.window ≡ nat_lt (length (unacknowledged x.timed)) setup.station.k =
    rw (tied.limits, tied.timers.waiting) refl in
    said_if (is_started k.stage) (has_room k.window) (slice_get (line_in k) 0)
    ∙ rw (stands setup (session (turns x)) k tied.news, room)
    (same_line setup (session (turns x)) (nat_lt (length (unacknowledged x.timed)) setup.station.k) k tied.news
    tied.line)

-- ---- what a pump gives

-- what is put out was due so
abbrev owed_by : Sending → Due
owed_by (sendings.Confirm signal) = ToSignal signal
owed_by sendings.Test = ToSignal TestAct
owed_by (sendings.Answer answer) = ToInform
owed_by (sendings.News x) = ToInform
owed_by (sendings.Part part) = ToInform
owed_by sendings.SFormat = ToAcknowledge

says_due : (setup : Setup) (k : Client) (s : Sending) → was_due (saying setup k s) ≡ owed_by s
says_due setup k (sendings.Confirm signal) = refl
says_due setup k sendings.Test = refl
says_due setup k (sendings.Answer answer) = refl
says_due setup k (sendings.News y) = refl
says_due setup k (sendings.Part part) = refl
says_due setup k sendings.SFormat = refl

informing : (s : Sending) → IsInformation s → ToInform ≡ owed_by s
informing (sendings.Confirm signal) is = absurd is
informing sendings.Test is = absurd is
informing (sendings.Answer answer) is = refl
informing (sendings.News y) is = refl
informing (sendings.Part part) is = refl
informing sendings.SFormat is = absurd is

-- what is due is what is offered
same_first : (confirmation : Option Signal) (test : Bool) (first : Option Sending) (ack : Bool)
    → IfSome first IsInformation
    → first_of (option_map ToSignal confirmation ∷ when test (ToSignal TestAct)
    ∷ when (is_some first) ToInform ∷ when ack ToAcknowledge ∷ [])
    ≡ option_map owed_by (first_of (option_map sendings.Confirm confirmation ∷ when test sendings.Test ∷ first
    ∷ when ack sendings.SFormat ∷ []))
same_first (Some signal) test first ack is = refl
same_first None true first ack is = refl
same_first None false (Some s) ack is = ap Some (informing s is)
same_first None false None true is = refl
same_first None false None false is = refl

same_due : (setup : Setup) (now : ℕ) (x : Connection) (k : Client) → Ties setup x k
    → due setup now x ≡ option_map owed_by (offered now k)
same_due setup now x k tied =
    rw (
      tied.waiting,
      sym (same_test setup now x k tied),
      sym (same_information setup x k tied),
      sym (same_ack setup now x k tied),
    )
    (same_first (slice_get k.confirmations 0) (owes_test now k.window) (information_offered k)
    (owes_ack now k.window) (informs k))

offers_due : (setup : Setup) (k : Client) (offer : Option Sending)
    → GivesDue setup (option_map owed_by offer) (reply_giving (option_map
    (content_of (station_clocks setup.station) k) offer))
offers_due setup k None = refl
offers_due setup k (Some s) =
    let content : ApduContent = content_of (station_clocks setup.station) k s in
    let fits = content_fits (station_clocks setup.station) k s in
    ap (option_map was_due) (said-content (station_clocks setup.station) content fits)
    ∙ ap Some (says_due setup k s)

-- ---- each connection

ties : (setup : Setup) (ts : List Turn) (x : Connection) (k : Client) → IsSoundSetup setup
    → k.window.limits ≡ limits_of setup.station → turns x ≡ ts → Lives setup ts k → ClientLinked setup (Some x) k
    → Ties setup x k
ties setup ts x k fit limits same lives linked =
    let mine : Lives setup (turns x) k = subst (λ (zs : List Turn). Lives setup zs k) (sym same) lives in
    record {
      limits = limits;
      waiting = waiting_is x.timed k (signals_tied setup x.began x.timed k linked.1);
      timers = timers_tied setup x.began fit.window x.timed k linked.1;
      news = news_tied setup fit.queue (turns x) k mine;
      line = line_tied setup fit.queue (turns x) k mine;
    }

pumped_slot : (setup : Setup) (now : ℕ) (ts : List Turn) (x : Option Connection) (k : Client) → IsSoundSetup setup
    → k.window.limits ≡ limits_of setup.station → IfSome x (λ y. turns y ≡ ts) → Lives setup ts k
    → is_up k.stage ≡ true → ClientLinked setup x k
    → OfStanding (λ y. GivesDue setup (due setup now y) (reply_giving
    (given (station_clocks setup.station) now k))) x
pumped_slot setup now ts None k fit limits same lives up linked = absurd (true≢false (sym up ∙ linked))
pumped_slot setup now ts (Some x) k fit limits same lives up linked =
    subst (λ (d : Option Due). GivesDue setup d (reply_giving
    (given (station_clocks setup.station) now k)))
    (sym (same_due setup now x k (ties setup ts x k fit limits same lives linked)))
    (offers_due setup k (offered now k))

late_slot : (setup : Setup) (now : ℕ) (ts : List Turn) (x : Option Connection) (k : Client) → IsSoundSetup setup
    → k.window.limits ≡ limits_of setup.station → IfSome x (λ y. turns y ≡ ts) → Lives setup ts k
    → ClientLinked setup x k → is_timed_out now k ≡ is_so (is_late setup.station now) x
late_slot setup now ts None k fit limits same lives linked = rw linked refl
late_slot setup now ts (Some x) k fit limits same lives linked =
    rw linked.0 (same_late setup now x k (ties setup ts x k fit limits same lives linked))

-- ---- Pump

pump : (setup : Setup) (past : List Entry) (c m : ℕ) (r : Reply) → IsSoundSetup setup
    → outcome setup (state_after setup past) (steps.Pump c m) ≡ Ok r → Known setup past → AllLinked setup past
    → TimesBy setup past (steps.Pump c m) (Ok r)
pump setup past c m r fit e known linked =
    let step : Step = steps.Pump c m in
    let s : State = state_after setup past in
    let now : ℕ = latest s m in
    let told = answered (fault_of s step) (can_be_counted s (needs setup s step)) (reply_to setup s step) r e in
    let up = who_is_up (λ (k : Client). is_up k.stage) NoClient (slice_get s.clients c) told.0 in
    let reply : reply_giving (given (station_clocks setup.station) now up.0) ≡ r =
    sym (ap (client_reply (λ (x : Client). reply_giving
    (given (station_clocks setup.station) now x))) up.1) ∙ told.2 in
    let mine = sound_at setup.station s.counts.steps s.counts.news s.clients c up.0 up.1 known.sound.clients in
    subst (λ (x : Reply). TimesBy setup past step (Ok x)) reply
    (subst (λ (n : ℕ). OfStanding (λ y. GivesDue setup (due setup n y) (reply_giving
    (given (station_clocks setup.station) now up.0))) (connection setup c past))
    (told_moment setup past s m known.tied)
    (pumped_slot setup now (life setup c past) (connection setup c past) up.0 fit mine.window.limits
    (same_turns setup c past) (subst (SlotLives setup c (life setup c past)) up.1 (known.lives c)) up.2
    (subst (SlotLinked setup (connection setup c past)) up.1 (linked c))))

-- ---- Tick

late_told : (setup : Setup) (past : List Entry) (c now : ℕ) (s : Option Client) → IsSoundSetup setup
    → IfSome s (λ k. k.window.limits ≡ limits_of setup.station)
    → SlotLives setup c (life setup c past) s → SlotLinked setup (connection setup c past) s
    → t1_passed_at now s ≡ is_so (is_late setup.station now) (connection setup c past)
late_told setup past c now None fit limits lives linked = ap (is_so (is_late setup.station now)) (sym linked)
late_told setup past c now (Some k) fit limits lives linked =
    late_slot setup now (life setup c past) (connection setup c past) k fit limits (same_turns setup c past) lives
    linked

-- the limits are those of the station
limits_at : (setup : Setup) (past : List Entry) (c : ℕ) (s : Option Client) → Known setup past
    → client_at setup c past ≡ s → IfSome s (λ k. k.window.limits ≡ limits_of setup.station)
limits_at setup past c None known at = tt
limits_at setup past c (Some k) known at =
    let s : State = state_after setup past in
    let mine = sound_at setup.station s.counts.steps s.counts.news s.clients c k at known.sound.clients in
    mine.window.limits

tick : (setup : Setup) (past : List Entry) (m : ℕ) (r : Reply) → IsSoundSetup setup
    → outcome setup (state_after setup past) (steps.Tick m) ≡ Ok r → Known setup past → AllLinked setup past
    → TimesBy setup past (steps.Tick m) (Ok r)
tick setup past m r fit e known linked =
    let step : Step = steps.Tick m in
    let s : State = state_after setup past in
    let now : ℕ = latest s m in
    let told = answered (fault_of s step) (can_be_counted s (needs setup s step)) (reply_to setup s step) r e in
    subst (ClosesLate setup (later (moment_after past) m) past) told.2
    (λ c. t1_told now s.clients c
    ∙ (late_told setup past c now (client_at setup c past) fit
    (limits_at setup past c (client_at setup c past) known refl) (known.lives c) (linked c)
    ∙ ap (λ (n : ℕ). is_so (is_late setup.station n) (connection setup c past))
    (told_moment setup past s m known.tied)))

-- ---- all steps

times_by : (setup : Setup) (past : List Entry) (step : Step) (reply : Result Reply StepFault) (new : State)
    → IsSoundSetup setup → Allowed setup (state_after setup past) step reply new → Known setup past
    → AllLinked setup past → TimesBy setup past step reply
times_by setup past (steps.Pump c m) (Ok r) new fit allowed known linked =
    pump setup past c m r fit allowed.0 known linked
times_by setup past (steps.Pump c m) (Err f) new fit allowed known linked = tt
times_by setup past (steps.Tick m) (Ok r) new fit allowed known linked =
    tick setup past m r fit allowed.0 known linked
times_by setup past (steps.Tick m) (Err f) new fit allowed known linked = tt
times_by setup past (steps.OutstationUp o m) reply new fit allowed known linked = tt
times_by setup past (steps.OutstationDown o m) reply new fit allowed known linked = tt
times_by setup past (steps.Fragment g m) reply new fit allowed known linked = tt
times_by setup past (steps.Poll o m wall) reply new fit allowed known linked = tt
times_by setup past (steps.ClientUp c m) reply new fit allowed known linked = tt
times_by setup past (steps.ClientDown c m) reply new fit allowed known linked = tt
times_by setup past (steps.Frame c a m) reply new fit allowed known linked = tt

pub tells_times : (setup : Setup) (past : List Entry) → Place setup past → LinkedBefore setup past → Times setup past
tells_times setup [] place linked = tt
tells_times setup (e ∷ past) place linked =
    times_by setup past e.step e.reply (state_after setup (e ∷ past)) place.given.settings place.last.0 place.last.1
    linked
