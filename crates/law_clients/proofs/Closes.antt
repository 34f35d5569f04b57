-- An APDU closes the connection for the first cause that holds.
use Rattle.std.proofs.Common.{◌≡◌, ℕ, ◌+◌, ◌%◌, ◌<◌, Bool, true, false, List, [], ◌∷◌, length}
use Rattle.std.proofs.Common.{Option, Some, None, Result, Ok, Err, refl, sym, ap, subst, ◌∙◌, arith}
use Rattle.std.specs.Prelude.{◌==◌, ◌&&◌, not, is_none, is_some, nat_le, nat_lt, slice_get, IfSome}
use Rattle.std.proofs.lemmas.Bool.{true≢false}
use Rattle.gw_model.specs.First.{when, first_of}
use Rattle.gw_map.specs.Settings.{Setup}
use Rattle.iec_apci.specs.Apdu.{confirmation_of}
use Rattle.iec_apci.specs.declared.apdu.Apdu.{Apdu}
use Rattle.iec_apci.specs.declared.apdu.Apdu.TheVariants.{I, S, U}
use Rattle.iec_apci.specs.declared.apdu.Signal.{Signal}
use Rattle.iec_command.specs.declared.command.Command.{Command}
use Rattle.iec_window.specs.Sequence.{is_right_send, is_right_receive}
use Rattle.gw_judge.specs.declared.judging.Judged.{Judged}
use Rattle.gw_judge.specs.declared.judging.Judged.TheVariants as judgements
use Rattle.gw_answers.specs.Answers.{places_for}
use Rattle.iec_apci.specs.declared.why.Why.{Why}
use Rattle.iec_apci.specs.declared.why.Why.TheVariants.{Sequence, NotStarted, Malformed, Flooded}
use Rattle.gw_station.specs.Client.{Client, is_started, is_up}
use Rattle.gw_station.specs.Answers.{is_pending as is_asked, places_taken}
use Rattle.gw_station.specs.Frames.{close_of, command_in, event_by, event_of, is_malformed as is_cut, judged_asdu, overfills}
use Rattle.gw_steps.specs.declared.step.Step.{Step}
use Rattle.gw_steps.specs.declared.step.Step.TheVariants as steps
use Rattle.gw_steps.specs.declared.step.Reply.{Reply}
use Rattle.gw_steps.specs.declared.step.StepFault.{StepFault}
use Rattle.gw_steps.specs.declared.step.StepFault.TheVariants.{NoClient}
use Rattle.gw_steps.specs.State.{State}
use Rattle.gw_steps.specs.Steps.{Allowed, outcome, needs, can_be_counted, reply_to, fault_of, client_reply, reply_of_event}
use Rattle.gw_steps.specs.Runs.{Entry, state_after}
use Rattle.gw_steps.proofs.Inversion.{answered, who_is_up}
use Rattle.gw_steps.specs.Premises.{IsSoundSetup}
use Rattle.law_history.specs.Life.{Turn, life, session, turns_in}
use Rattle.law_history.proofs.Lives.{Lives}
use Rattle.law_history.proofs.Places.{Known, Place, SlotLives}
use Rattle.law_clients.specs.Numbers.{taken}
use Rattle.law_clients.specs.Fates.{fates}
use Rattle.law_clients.specs.Frames.{held}
use Rattle.law_clients.specs.Interrogations.{interrogation}
use Rattle.law_clients.specs.Line.{owed}
use Rattle.law_clients.proofs.Held.{HeldTied, held_tied}
use Rattle.law_clients.proofs.Line.{LineTied, pending_told, line_tied}
use Rattle.law_clients.proofs.News.{NewsTied, news_tied, stands}
use Rattle.law_clients.proofs.Numbers.{WindowTied, counts_tied}
use Rattle.law_clients.specs.Closes.{Closes, ClosesBy, acknowledged, causes, close_due, is_malformed}
use Rattle.law_clients.specs.Closes.{is_right_receive as is_right, places_with, reply_for}
use Rattle.law_clients.specs.Connection.{Connection, OfStanding, connection, turns}
use Rattle.law_clients.specs.Signals.{waiting}
use Rattle.law_clients.proofs.Links.{AllLinked, ClientLinked, SlotLinked}
use Rattle.law_clients.proofs.Acknowledged.{acknowledged_tied, same_right}
use Rattle.law_clients.proofs.Signals.{signals_tied, waiting_is}
use Rattle.law_clients.proofs.Steps.{same_turns}

-- what ties a client to the turns of its connection
pub record Ties (setup : Setup) (ts : List Turn) (k : Client) : Type 0 where
  pub window : WindowTied setup ts k.window
  pub news : NewsTied setup (session ts) k
  pub line : LineTied setup (session ts) k
  pub held : HeldTied setup (session ts) k
  pub acknowledged : k.window.acknowledged ≡ acknowledged ts
  pub waiting : waiting ts ≡ k.confirmations

-- ---- each cause

pub not_standing : (s : Option (List Turn)) → not (is_some s) ≡ is_none s
not_standing None = refl
not_standing (Some hs) = refl

same_malformed : (j : Judged) → is_cut j ≡ is_malformed j
same_malformed judgements.Malformed = refl
same_malformed (judgements.Refuse cause execute) = refl
same_malformed (judgements.Accepted command) = refl

same_places : (setup : Setup) (s : Option (List Turn)) (k : Client) (j : Judged) → NewsTied setup s k
    → LineTied setup s k → HeldTied setup s k
    → places_with setup (turns_in s) j ≡ places_taken k + places_for (is_asked k.rest) j
same_places setup None k j news tied holds = rw (news.answers, news.rest, holds) refl
same_places setup (Some hs) k j news tied holds =
    ap (λ (b : Bool). length (owed setup hs) + held setup hs + places_for b j)
    (pending_told (owed setup hs) (interrogation setup hs)
    (length (fates setup.station hs)) k tied)
    ∙ ap (λ (n : ℕ). n + places_for (is_asked k.rest) j) (omega (arith, ap length tied.answers, holds))

-- the first of the causes, by whether each holds
abbrev pub first_cause : Bool → Bool → Bool → Bool → Option Why
first_cause stopped wrong malformed flooded =
    first_of (when stopped NotStarted ∷ when wrong Sequence ∷ when malformed Malformed ∷ when flooded Flooded ∷ [])

same_causes : (setup : Setup) (ts : List Turn) (ns nr : ℕ) (j : Judged) (k : Client) → setup.station.k < 32768
    → Ties setup ts k
    → first_cause (not (is_started k.stage)) (not (is_right_send ns k.window && is_right_receive nr k.window))
    (is_cut j) (overfills j k) ≡ first_of (causes setup ts ns nr j)
same_causes setup ts ns nr j k small tied =
    let started : not (is_started k.stage) ≡ is_none (session ts) =
    ap not (stands setup (session ts) k tied.news) ∙ not_standing (session ts) in
    let send : is_right_send ns k.window ≡ (ns == taken ts % 32768) =
    ap (λ (n : ℕ). ns == n % 32768) tied.window.received in
    let receive : is_right_receive nr k.window ≡ is_right nr ts =
    same_right setup nr ts k.window small tied.window tied.acknowledged in
    let places : overfills j k ≡ nat_lt 32 (places_with setup (turns_in (session ts)) j) =
    ap (λ (n : ℕ). nat_lt 32 n) (sym (same_places setup (session ts) k j tied.news tied.line tied.held)) in
    rw (started, send, receive, same_malformed j, places) refl

pub same_close : (setup : Setup) (ts : List Turn) (a : Apdu) (k : Client) → setup.station.k < 32768 → Ties setup ts k
    → close_of setup a k ≡ close_due setup ts a
same_close setup ts (I ns nr asdu) k small tied = same_causes setup ts ns nr (judged_asdu setup asdu) k small tied
same_close setup ts (S nr) k small tied =
    alone (is_right_receive nr k.window)
    ∙ ap (λ (b : Bool). when (not b) Sequence) (same_right setup nr ts k.window small tied.window tied.acknowledged)
  where
    alone : (b : Bool) → first_of (when (not b) Sequence ∷ []) ≡ when (not b) Sequence
    alone true = refl
    alone false = refl
same_close setup ts (U signal) k small tied =
    ap (λ (waiting : List Signal). first_of
    (when (is_some (confirmation_of signal) && nat_le 32 (length waiting)) Flooded ∷ [])) (sym tied.waiting)
    ∙ alone (is_some (confirmation_of signal) && nat_le 32 (length (waiting ts)))
  where
    alone : (b : Bool) → first_of (when b Flooded ∷ []) ≡ when b Flooded
    alone true = refl
    alone false = refl

-- ---- the reply

same_reply : (why : Option Why) (command : Option Command) → reply_of_event (event_by why command) ≡ reply_for why
same_reply None None = refl
same_reply None (Some command) = refl
same_reply (Some why) command = refl

pub ties : (setup : Setup) (ts : List Turn) (x : Connection) (k : Client) → IsSoundSetup setup → turns x ≡ ts
    → Lives setup ts k → ClientLinked setup (Some x) k → Ties setup (turns x) k
ties setup ts x k fit same lives linked =
    let mine : Lives setup (turns x) k = subst (λ (zs : List Turn). Lives setup zs k) (sym same) lives in
    record {
      window = (counts_tied setup (turns x) k mine).window;
      news = news_tied setup fit.queue (turns x) k mine;
      line = line_tied setup fit.queue (turns x) k mine;
      held = held_tied setup fit.queue (turns x) k mine;
      acknowledged = acknowledged_tied setup x.began fit.window x.timed k linked.1;
      waiting = waiting_is x.timed k (signals_tied setup x.began x.timed k linked.1);
    }

replied : (setup : Setup) (ts : List Turn) (x : Option Connection) (a : Apdu) (k : Client) → IsSoundSetup setup
    → IfSome x (λ y. turns y ≡ ts) → Lives setup ts k → is_up k.stage ≡ true → ClientLinked setup x k
    → OfStanding (λ y. reply_of_event (event_of setup a k) ≡ reply_for (close_due setup (turns y) a)) x
replied setup ts None a k fit same lives up linked = absurd (true≢false (sym up ∙ linked))
replied setup ts (Some x) a k fit same lives up linked =
    same_reply (close_of setup a k) (command_in setup a)
    ∙ ap reply_for (same_close setup (turns x) a k fit.window (ties setup ts x k fit same lives linked))

framed : (setup : Setup) (past : List Entry) (c m : ℕ) (a : Apdu) (r : Reply) → IsSoundSetup setup
    → outcome setup (state_after setup past) (steps.Frame c a m) ≡ Ok r → Known setup past → AllLinked setup past
    → ClosesBy setup past (steps.Frame c a m) (Ok r)
framed setup past c m a r fit e known linked =
    let step : Step = steps.Frame c a m in
    let s : State = state_after setup past in
    let told = answered (fault_of s step) (can_be_counted s (needs setup s step)) (reply_to setup s step) r e in
    let up = who_is_up (λ (k : Client). is_up k.stage) NoClient (slice_get s.clients c) told.0 in
    let reply : reply_of_event (event_of setup a up.0) ≡ r =
    sym (ap (client_reply (λ (k : Client). reply_of_event (event_of setup a k))) up.1) ∙ told.2 in
    subst (λ (x : Reply). ClosesBy setup past step (Ok x)) reply
    (replied setup (life setup c past) (connection setup c past) a up.0 fit (same_turns setup c past)
    (subst (SlotLives setup c (life setup c past)) up.1 (known.lives c)) up.2
    (subst (SlotLinked setup (connection setup c past)) up.1 (linked c)))

closes_by : (setup : Setup) (past : List Entry) (step : Step) (reply : Result Reply StepFault) (new : State)
    → IsSoundSetup setup → Allowed setup (state_after setup past) step reply new → Known setup past
    → AllLinked setup past → ClosesBy setup past step reply
closes_by setup past (steps.Frame c a m) (Ok r) new fit allowed known linked =
    framed setup past c m a r fit allowed.0 known linked
closes_by setup past (steps.Frame c a m) (Err f) new fit allowed known linked = tt
closes_by setup past (steps.OutstationUp o m) reply new fit allowed known linked = tt
closes_by setup past (steps.OutstationDown o m) reply new fit allowed known linked = tt
closes_by setup past (steps.Fragment g m) reply new fit allowed known linked = tt
closes_by setup past (steps.Poll o m wall) reply new fit allowed known linked = tt
closes_by setup past (steps.ClientUp c m) reply new fit allowed known linked = tt
closes_by setup past (steps.ClientDown c m) reply new fit allowed known linked = tt
closes_by setup past (steps.Pump c m) reply new fit allowed known linked = tt
closes_by setup past (steps.Tick m) reply new fit allowed known linked = tt

-- what was linked before the newest entry
abbrev pub LinkedBefore : Setup → List Entry → Type 0
LinkedBefore setup [] = Unit {0}
LinkedBefore setup (e ∷ past) = AllLinked setup past

pub tells_closes : (setup : Setup) (past : List Entry) → Place setup past → LinkedBefore setup past
    → Closes setup past
tells_closes setup [] place linked = tt
tells_closes setup (e ∷ past) place linked =
    closes_by setup past e.step e.reply (state_after setup (e ∷ past)) place.given.settings place.last.0 place.last.1
    linked
