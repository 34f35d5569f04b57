-- What ties a client's news to its session.
use Rattle.std.proofs.Common.{◌≡◌, ℕ, ◌-◌, ◌<◌, ◌≤◌, Bool, true, false, List, [], ◌∷◌, ◌++◌, map}
use Rattle.std.proofs.Common.{length, take, drop, Option, Some, None, refl, sym, ap, subst, ◌∙◌, arith, inl, inr}
use Rattle.std.specs.Prelude.{◌⊎◌, ◌==◌, ◌||◌, is_some, IfSome, IsTrue}
use Rattle.std.specs.List.{AllByRecursion}
use Rattle.std.proofs.lemmas.Bool.{true≢false}
use Rattle.std.proofs.lemmas.List.{append-nil, length-drop, take-append-drop}
use Rattle.circular_buffer.specs.Buffer.{keep_last}
use Rattle.gw_model.specs.declared.observation.Observation.{Observation}
use Rattle.gw_model.specs.Fit.{IsFit}
use Rattle.gw_model.specs.Clocks.{Clocks}
use Rattle.gw_map.specs.Settings.{Setup, station_clocks}
use Rattle.iec_asdu.specs.Fitting.{AreAlike}
use Rattle.iec_asdu.specs.Packing.{taken_of}
use Rattle.iec_asdu.proofs.Carried.{taken_fits}
use Rattle.iec_apci.specs.declared.apdu.Apdu.{Apdu}
use Rattle.iec_apci.specs.declared.apdu.Apdu.TheVariants.{I, S, U}
use Rattle.iec_apci.specs.declared.apdu.Signal.{Signal}
use Rattle.iec_apci.specs.declared.apdu.Signal.TheVariants.{StartAct, StartCon, StopAct, StopCon, TestAct, TestCon}
use Rattle.iec_command.specs.declared.command.Command.{Command}
use Rattle.iec_command.specs.declared.command.Action.{Action}
use Rattle.iec_command.specs.declared.command.Action.TheVariants as actions
use Rattle.gw_control.specs.declared.answer.Outcome.{Outcome}
use Rattle.gw_judge.specs.declared.judging.Judged.{Judged}
use Rattle.gw_judge.specs.declared.judging.Judged.TheVariants as judgements
use Rattle.gw_answers.specs.declared.outgoing.AsduAnswer.{AsduAnswer}
use Rattle.gw_answers.specs.declared.outgoing.AsduAnswer.TheVariants.{Returned, Made}
use Rattle.gw_answers.specs.declared.outgoing.OwnAsdu.{OwnAsdu}
use Rattle.gw_answers.specs.declared.outgoing.OwnAsdu.TheVariants as outgoing
use Rattle.gw_answers.specs.Interrogations.{asked_addresses, cause_for, rows_under, answer_with, answer_under, answer_to}
use Rattle.gw_answers.specs.Outgoing.{command_with, under}
use Rattle.gw_answers.specs.Octets.{answer_octets, octets_in, packed_octets}
use Rattle.gw_answers.specs.Meaning.{Meant, Tells, Commands, Unread, meaning_of, asdu_of, packed_asdu, IsSendable, Means, CanSendAnswer}
use Rattle.gw_answers.proofs.Meant.{answer_means, refused_with}
use Rattle.gw_station.specs.declared.event.Event.{Event}
use Rattle.gw_station.specs.declared.event.Event.TheVariants as events
use Rattle.gw_station.specs.declared.event.Said.{Said}
use Rattle.gw_station.specs.declared.sending.Sending.{Sending}
use Rattle.gw_station.specs.declared.sending.Sending.TheVariants as sendings
use Rattle.gw_station.specs.Client.{Client, is_started, client_with_news}
use Rattle.gw_station.specs.Answers.{rest_with, is_asking}
use Rattle.gw_station.specs.Frames.{close_of, judged_asdu, client_taking, client_with_signal, command_in, event_taking}
use Rattle.gw_station.specs.Pump.{line, news_front, rows_front, together, client_with_sent}
use Rattle.gw_station.specs.Sound.{CanSend}
use Rattle.gw_station.proofs.All.{all-append, all-take, all-drop, all-given}
use Rattle.gw_station.proofs.Front.{news_sendable, rows_sendable}
use Rattle.gw_station.proofs.Line.{line_so}
use Rattle.gw_steps.specs.Controls.{client_told_all}
use Rattle.gw_steps.specs.Steps.{client_answered}
use Rattle.gw_steps.specs.Runs.{Entry}
use Rattle.gw_steps.specs.Said.{ApduMeaning}
use Rattle.gw_steps.specs.Premises.{client_at}
use Rattle.law_history.specs.Life.{Brought, Taking, Turn, Idle, Takes, PutsOut, Ends, session_with, session, turns_in, life}
use Rattle.law_history.proofs.Places.{Place, SlotLives, of_each}
use Rattle.law_history.proofs.Lives.{Becomes, Came, IsFresh, Lives, lives_all}
use Rattle.law_clients.specs.Fates.{spontaneous_of, spontaneous_in, Element, is_put_out, is_dropped}
use Rattle.law_clients.specs.Fates.{items_of, fates, gone, fates_with_news, fates_with_put_out}
use Rattle.law_clients.specs.Line.{MeansFront}
use Rattle.law_clients.specs.News.{IsOfStation, TellsNews, Speaks, News}
use Rattle.law_clients.proofs.KnownCommands.{IsKnownAnswer, IsKnownObservation}
use Rattle.law_clients.proofs.KnownTurns.{IsKnownTurn, life_known}
use Rattle.law_clients.proofs.KnownWaits.{IsKnownSending, WaitsKnown, line_known, waits_known}
use Rattle.law_clients.proofs.Offered.{IsOffered, offered_is}
use Rattle.law_clients.proofs.Fronts.{says_front, NewsGo, news_go, parts_no_news}
use Rattle.law_clients.proofs.Parts.{IsRequested, answer_no_news}
use Rattle.gw_station.proofs.Opens.{open_i}
use Rattle.law_clients.proofs.Settled.{put, AreSettled, before_queue, queue_shrinks, settled_more}
use Rattle.law_clients.proofs.Settled.{kept_in, queued_in, dropped_in, put_out_more, dropped_same, grown}
use Rattle.law_clients.proofs.Told.{same_beside}
use Rattle.law_clients.proofs.Numbers.{says, counts_tied}

-- ---- the tie

-- the fates of a session's news are settled ones, and then the queue
pub record InSession (setup : Setup) (hs : List Turn) (k : Client) : Type 0 where
  pub started : is_started k.stage ≡ true
  pub settled : List Element
  pub all_settled : AreSettled settled
  pub told : fates setup.station hs ≡ before_queue settled k.queue
  pub put_out : gone setup.station hs ≡ items_of is_put_out settled
  pub dropped : k.dropped ≡ length (items_of is_dropped settled)
  pub few : length k.queue ≤ k.limit
  pub parts : AllByRecursion IsRequested k.rest

-- where no session stands, nothing waits
pub record NoSession (k : Client) : Type 0 where
  pub stopped : is_started k.stage ≡ false
  pub queue : k.queue ≡ []
  pub dropped : k.dropped ≡ 0
  pub answers : k.answers ≡ []
  pub rest : k.rest ≡ []

abbrev pub NewsTied : Setup → Option (List Turn) → Client → Type 0
NewsTied setup None k = NoSession k
NewsTied setup (Some hs) k = InSession setup hs k

-- ---- what an I format says

-- observations of the station
informs : (setup : Setup) (cause originator : ℕ) (x : Observation)
    → IsTrue (cause == 3 || cause == 5 || cause == 20 || cause == 37) → IsKnownObservation setup x
    → IsFit (station_clocks setup.station) x
    → IsOfStation setup (Tells (asdu_of (station_clocks setup.station) cause originator x))
informs setup cause originator x is known fit =
    inl (record { cause = is; known = known; common = (refl, tt); fit = (fit, tt) })

all_fit : (clocks : Clocks) (xs : List Observation) → AllByRecursion (IsSendable clocks) xs
    → AllByRecursion (IsFit clocks) xs
all_fit clocks [] all = tt
all_fit clocks (x ∷ xs) all = (all.0.fit, all_fit clocks xs all.1)

-- an ASDU carries observations of one common address
one_common : (clocks : Clocks) (x : Observation) (xs : List Observation) → AreAlike clocks x xs
    → AllByRecursion (λ y. y.common ≡ x.common) xs
one_common clocks x [] alike = tt
one_common clocks x (y ∷ xs) alike = (alike.0.1, one_common clocks x xs alike.1)

pack_informs : (setup : Setup) (cause originator : ℕ) (x : Observation) (xs : List Observation)
    → IsTrue (cause == 3 || cause == 5 || cause == 20 || cause == 37) → IsKnownObservation setup x
    → AllByRecursion (IsSendable (station_clocks setup.station)) (x ∷ xs)
    → IsOfStation setup (Tells (packed_asdu (station_clocks setup.station) cause originator x xs))
pack_informs setup cause originator x xs is known all =
    let clocks : Clocks = (station_clocks setup.station) in
    let n : ℕ = taken_of clocks (x ∷ xs) in
    inl (record {
      cause = is;
      known = known;
      common = one_common clocks x (take n (x ∷ xs)) (taken_fits clocks x xs).alike;
      fit = all_fit clocks (take n (x ∷ xs)) (all-take (IsSendable clocks) n (x ∷ xs) all);
    })

answer_of_station : (setup : Setup) (answer : AsduAnswer) (meant : Meant)
    → CanSendAnswer (station_clocks setup.station) answer → IsKnownAnswer setup answer
    → Means (station_clocks setup.station) answer meant → IsOfStation setup meant
answer_of_station setup (Returned asdu cause) (Tells told) can known means =
    inr (cause, can.1, can.2, refused_with (station_clocks setup.station) cause (octets_in asdu) (Tells told) can.0 means)
answer_of_station setup (Returned asdu cause) (Commands c) can known means =
    inr (cause, can.1, can.2, refused_with (station_clocks setup.station) cause (octets_in asdu) (Commands c) can.0 means)
answer_of_station setup (Returned asdu cause) (Unread octets) can known means =
    (cause, can.1, can.2, refused_with (station_clocks setup.station) cause (octets_in asdu) (Unread octets) can.0 means)
answer_of_station setup (Made (outgoing.Command c)) meant can known means =
    subst (IsOfStation setup) (sym means) (inl (record { cause = can.0; known = known }))
answer_of_station setup (Made (outgoing.Observation cause originator x)) meant can known means =
    subst (IsOfStation setup) (sym means) (informs setup cause originator x (rw can.0 refl) known can.1.fit)

-- rows of the answer to an interrogation are asked for
abbrev IsRequestedSending : Sending → Type 0
IsRequestedSending (sendings.Part part) = IsRequested part
IsRequestedSending _ = Unit {0}

abbrev IsRequestedFirst : List Sending → Type 0
IsRequestedFirst (sendings.Part part ∷ line) = IsRequested part
IsRequestedFirst _ = Unit {0}

front_of_station : (setup : Setup) (l : List Sending) (meant : Meant)
    → MeansFront (station_clocks setup.station) l meant
    → AllByRecursion (CanSend (station_clocks setup.station)) l → AllByRecursion (IsKnownSending setup) l
    → IsRequestedFirst l → IsOfStation setup meant
front_of_station setup [] meant means all known is = absurd means
front_of_station setup (sendings.Answer answer ∷ l) meant means all known is =
    answer_of_station setup answer meant all.0 known.0 means
front_of_station setup (sendings.News x ∷ l) meant means all known is =
    subst (IsOfStation setup) (sym means)
    (pack_informs setup 3 0 x (news_front l) refl known.0
    (all.0, news_sendable (station_clocks setup.station) l all.1))
front_of_station setup (sendings.Part (outgoing.Command c) ∷ l) meant means all known is =
    subst (IsOfStation setup) (sym means) (inl (record { cause = all.0.0; known = known.0 }))
front_of_station setup (sendings.Part (outgoing.Observation cause originator x) ∷ l) meant means all known is =
    subst (IsOfStation setup) (sym means)
    (pack_informs setup cause originator x (rows_front cause originator l) (asked is) known.0
    (all.0, rows_sendable (station_clocks setup.station) cause originator l all.1))
  where
    asked : (cause ≡ 20) ⊎ (cause ≡ 37) → IsTrue (cause == 3 || cause == 5 || cause == 20 || cause == 37)
    asked (inl is) = rw is refl
    asked (inr is) = rw is refl
front_of_station setup (sendings.Confirm signal ∷ l) meant means all known is = absurd means
front_of_station setup (sendings.Test ∷ l) meant means all known is = absurd means
front_of_station setup (sendings.SFormat ∷ l) meant means all known is = absurd means

own_news : (clocks : Clocks) (x : Observation) (xs : List Observation)
    → spontaneous_of (Tells (packed_asdu clocks 3 0 x xs)) ≡ take (taken_of clocks (x ∷ xs)) (x ∷ xs)
own_news clocks x xs = refl

-- ---- parts of an answer

rows_requested : (action : Action) (xs : List Observation)
    → AllByRecursion IsRequested (map (outgoing.Observation (cause_for action) 0) xs)
rows_requested action [] = tt
rows_requested action (x ∷ xs) = (cause_is action, rows_requested action xs)
  where
    cause_is : (action : Action) → (cause_for action ≡ 20) ⊎ (cause_for action ≡ 37)
    cause_is (actions.Single c) = inl refl
    cause_is (actions.Double c) = inl refl
    cause_is (actions.Setpoint c) = inl refl
    cause_is (actions.Interrogation qualifier) = inl refl
    cause_is (actions.CounterInterrogation qualifier) = inr refl
    cause_is actions.Read = inl refl

and_termination : (parts : List OwnAsdu) (c : Command) → AllByRecursion IsRequested parts
    → AllByRecursion IsRequested (parts ++ command_with 10 false c ∷ [])
and_termination [] c all = (tt, tt)
and_termination (part ∷ parts) c all = (all.0, and_termination parts c all.1)

answer_requested : (c : Command) (xs : List Observation) → AllByRecursion IsRequested (answer_with c xs)
answer_requested c xs =
    (tt, and_termination (map (outgoing.Observation (cause_for c.action) 0) xs) c (rows_requested c.action xs))

-- under each address that is asked
all_requested : (asked : List ℕ) (c : Command) (picture : List Observation)
    → AllByRecursion IsRequested (answer_to asked c picture)
all_requested [] c picture = tt
all_requested (common ∷ asked) c picture =
    all-append IsRequested (answer_under c picture common) (answer_to asked c picture)
    (answer_requested (under common c) (rows_under c.action picture common)) (all_requested asked c picture)

parts_with : (setup : Setup) (picture : List Observation) (j : Judged) (asks : Bool) (k : Client)
    → AllByRecursion IsRequested k.rest → AllByRecursion IsRequested (rest_with setup picture j asks k)
parts_with setup picture (judgements.Accepted c) true k all =
    all_requested (asked_addresses setup c.common_address) c picture
parts_with setup picture (judgements.Accepted c) false k all = all
parts_with setup picture judgements.Malformed asks k all = all
parts_with setup picture (judgements.Refuse cause execute) asks k all = all

-- ---- one turn more

-- what is seen of a session's news is the same
record Alike (k new : Client) : Type 0 where
  stage : new.stage ≡ k.stage
  limit : new.limit ≡ k.limit
  queue : new.queue ≡ k.queue
  dropped : new.dropped ≡ k.dropped

still : (setup : Setup) (hs us : List Turn) (k new : Client) → fates setup.station us ≡ fates setup.station hs
    → gone setup.station us ≡ gone setup.station hs → Alike k new
    → AllByRecursion IsRequested new.rest → InSession setup hs k → InSession setup us new
still setup hs us k new same_fates same_gone alike parts tied = record {
  started = ap is_started alike.stage ∙ tied.started;
  settled = tied.settled;
  all_settled = tied.all_settled;
  told = same_fates ∙ (tied.told ∙ ap (before_queue tied.settled) (sym alike.queue));
  put_out = same_gone ∙ tied.put_out;
  dropped = alike.dropped ∙ tied.dropped;
  few = omega (arith, alike.limit, ap length alike.queue, tied.few);
  parts = parts;
}

no_session : (k new : Client) → new.stage ≡ k.stage → new.queue ≡ k.queue → new.dropped ≡ k.dropped
    → new.answers ≡ k.answers → new.rest ≡ k.rest → NoSession k → NoSession new
no_session k new stage queue dropped answers rest tied =
    record {
      stopped = ap is_started stage ∙ tied.stopped;
      queue = queue ∙ tied.queue;
      dropped = dropped ∙ tied.dropped;
      answers = answers ∙ tied.answers;
      rest = rest ∙ tied.rest;
    }

-- news come
came : (setup : Setup) (brought : Brought) (s : Option (List Turn)) (k : Client) → 0 < setup.station.queue
    → k.limit ≡ setup.station.queue
    → NewsTied setup s k → NewsTied setup (session_with (Idle brought) s) (client_with_news brought.news k)
came setup brought None k some limit tied =
    record {
      stopped = tied.stopped;
      queue = rw tied.stopped tied.queue;
      dropped = rw tied.stopped (omega (arith, tied.dropped));
      answers = tied.answers;
      rest = tied.rest;
    }
came setup brought (Some hs) k some limit tied =
    let xs : List Observation = brought.news in
    let more = grown k.limit tied.settled k.queue xs (omega (arith, some, limit)) tied.few tied.all_settled in
    let queue : (client_with_news xs k).queue ≡ keep_last k.limit (k.queue ++ xs) = rw tied.started refl in
    record {
      started = tied.started;
      settled = more.more;
      all_settled = more.all;
      told = ap (λ (es : List Element). fates_with_news setup.station.queue es xs) tied.told
          ∙ (ap (λ (n : ℕ). fates_with_news n (before_queue tied.settled k.queue) xs) (sym limit)
          ∙ (more.told ∙ ap (before_queue more.more) (sym queue)));
      put_out = tied.put_out ∙ sym more.put_out;
      dropped = rw tied.started (omega (arith, tied.dropped, more.dropped));
      few = omega (arith, ap length queue, length-drop (length (k.queue ++ xs) - k.limit) (k.queue ++ xs));
      parts = tied.parts;
    }

-- and outcomes
outcomes_came : (setup : Setup) (brought : Brought) (s : Option (List Turn)) (k new : Client)
    → 0 < setup.station.queue → k.limit ≡ setup.station.queue → Came brought k new
    → NewsTied setup s k → NewsTied setup (session_with (Idle brought) s) new
outcomes_came setup brought None k new some limit is tied =
    subst NoSession (sym is.becomes) (subst (λ (xs : List Outcome).
    NoSession (client_told_all xs (client_with_news brought.news k))) (sym (is.stopped tied.stopped))
    (came setup brought None k some limit tied))
outcomes_came setup brought (Some hs) k new some limit is tied =
    let us : List Turn = Idle brought ∷ hs in
    let between : Client = client_with_news brought.news k in
    let same = same_beside brought.outcomes between in
    let before : InSession setup us between = came setup brought (Some hs) k some limit tied in
    subst (InSession setup us) (sym is.becomes)
    (still setup us us between (client_told_all brought.outcomes between) refl refl
    (record { stage = same.stage; limit = same.limit; queue = same.queue; dropped = same.dropped })
    (subst (AllByRecursion IsRequested) (sym same.rest) before.parts) before)

-- a control function is taken
signal_taken : (setup : Setup) (taking : Taking) (moment : ℕ) (signal : Signal) (s : Option (List Turn)) (k : Client)
    → NewsTied setup s k → NewsTied setup (session_with (Takes (U signal) taking) s)
    (client_with_signal moment signal k)
signal_taken setup taking moment StartAct None k tied = record {
  started = rw tied.stopped refl;
  settled = [];
  all_settled = tt;
  told = rw tied.stopped refl;
  put_out = refl;
  dropped = rw tied.stopped refl;
  few = rw tied.stopped (omega arith);
  parts = rw tied.stopped tt;
}
signal_taken setup taking moment StartAct (Some hs) k tied =
    still setup hs (Takes (U StartAct) taking ∷ hs) k (client_with_signal moment StartAct k) refl refl
    (record {
      stage = rw tied.started refl;
      limit = rw tied.started refl;
      queue = rw tied.started refl;
      dropped = rw tied.started refl;
    }) (rw tied.started tied.parts) tied
signal_taken setup taking moment StopAct None k tied =
    record {
      stopped = rw tied.stopped tied.stopped;
      queue = rw tied.stopped tied.queue;
      dropped = rw tied.stopped tied.dropped;
      answers = rw tied.stopped tied.answers;
      rest = rw tied.stopped tied.rest;
    }
signal_taken setup taking moment StopAct (Some hs) k tied =
    record {
      stopped = rw tied.started refl;
      queue = rw tied.started refl;
      dropped = rw tied.started refl;
      answers = rw tied.started refl;
      rest = rw tied.started refl;
    }
signal_taken setup taking moment TestAct None k tied = no_session k _ refl refl refl refl refl tied
signal_taken setup taking moment TestCon None k tied = no_session k _ refl refl refl refl refl tied
signal_taken setup taking moment StartCon None k tied = no_session k _ refl refl refl refl refl tied
signal_taken setup taking moment StopCon None k tied = no_session k _ refl refl refl refl refl tied
signal_taken setup taking moment TestAct (Some hs) k tied =
    still setup hs (Takes (U TestAct) taking ∷ hs) k _ refl refl
    (record { stage = refl; limit = refl; queue = refl; dropped = refl }) tied.parts tied
signal_taken setup taking moment TestCon (Some hs) k tied =
    still setup hs (Takes (U TestCon) taking ∷ hs) k _ refl refl
    (record { stage = refl; limit = refl; queue = refl; dropped = refl }) tied.parts tied
signal_taken setup taking moment StartCon (Some hs) k tied =
    still setup hs (Takes (U StartCon) taking ∷ hs) k _ refl refl
    (record { stage = refl; limit = refl; queue = refl; dropped = refl }) tied.parts tied
signal_taken setup taking moment StopCon (Some hs) k tied =
    still setup hs (Takes (U StopCon) taking ∷ hs) k _ refl refl
    (record { stage = refl; limit = refl; queue = refl; dropped = refl }) tied.parts tied

-- an answer to a command changes nothing of a session's news
answered_alike : (said : Command → Said) (event : Event) (k : Client)
    → Alike k (client_answered said event k) × ((client_answered said event k).rest ≡ k.rest)
answered_alike said events.Taken k = (record { stage = refl; limit = refl; queue = refl; dropped = refl }, refl)
answered_alike said (events.Command command) k =
    (record { stage = refl; limit = refl; queue = refl; dropped = refl }, refl)
answered_alike said (events.Closed why) k = (record { stage = refl; limit = refl; queue = refl; dropped = refl }, refl)

took : (setup : Setup) (a : Apdu) (taking : Taking) (moment : ℕ) (s : Option (List Turn)) (k : Client)
    → close_of setup a k ≡ None → NewsTied setup s k
    → NewsTied setup (session_with (Takes a taking) s)
    (client_answered taking.said (event_taking (command_in setup a)) (client_taking setup taking.picture moment a k))
took setup (I ns nr asdu) taking moment None k opens tied =
    absurd (true≢false (sym (open_i ns nr (judged_asdu setup asdu) k opens).started ∙ tied.stopped))
took setup (I ns nr asdu) taking moment (Some hs) k opens tied =
    let j : Judged = judged_asdu setup asdu in
    let between : Client = client_taking setup taking.picture moment (I ns nr asdu) k in
    let same = answered_alike taking.said (event_taking (command_in setup (I ns nr asdu))) between in
    still setup hs (Takes (I ns nr asdu) taking ∷ hs) k _ refl refl
    (record { stage = same.0.stage; limit = same.0.limit; queue = same.0.queue; dropped = same.0.dropped })
    (subst (AllByRecursion IsRequested) (sym same.1) (parts_with setup taking.picture j (is_asking j k) k tied.parts))
    tied
took setup (S nr) taking moment None k opens tied = no_session k _ refl refl refl refl refl tied
took setup (S nr) taking moment (Some hs) k opens tied =
    still setup hs (Takes (S nr) taking ∷ hs) k _ refl refl
    (record { stage = refl; limit = refl; queue = refl; dropped = refl }) tied.parts tied
took setup (U signal) taking moment s k opens tied = signal_taken setup taking moment signal s k tied

-- something is put out that is no news
put_still : (setup : Setup) (said : ApduMeaning) (hs : List Turn) (k new : Client)
    → spontaneous_in said ≡ [] → Alike k new
    → AllByRecursion IsRequested new.rest → InSession setup hs k → InSession setup (PutsOut said ∷ hs) new
put_still setup said hs k new none alike parts tied =
    still setup hs (PutsOut said ∷ hs) k new (ap (λ (xs : List Observation). fates_with_put_out
    (fates setup.station hs) xs) none)
    (ap (λ (xs : List Observation). gone setup.station hs ++ xs) none ∙ append-nil (gone setup.station hs)) alike
    parts tied

-- some of the rest is left
rest_left : (n : ℕ) (k : Client) → AllByRecursion IsRequested k.rest → AllByRecursion IsRequested (drop n k.rest)
rest_left n k all = all-drop IsRequested n k.rest all

-- news are put out, from the front of the queue
-- the octets of the ASDU that carries them
abbrev news_octets : Setup → Client → List ℕ
news_octets setup k =
    packed_octets (station_clocks setup.station) 3 0 (news_front (line k))

news_went : (setup : Setup) (moment : ℕ) (x : Observation) (hs : List Turn) (k : Client)
    → NewsGo (station_clocks setup.station) k
    (meaning_of (station_clocks setup.station) (news_octets setup k)) → InSession setup hs k
    → InSession setup (PutsOut (says setup k (sendings.News x)) ∷ hs)
    (client_with_sent (station_clocks setup.station) moment (sendings.News x) k)
news_went setup moment x hs k goes tied =
    let clocks : Clocks = (station_clocks setup.station) in
    let n : ℕ = together clocks (line k) in
    let xs : List Observation = take n k.queue in
    let left : List Observation = drop n k.queue in
    let puts : spontaneous_of (meaning_of clocks (news_octets setup k)) ≡ xs =
    ap spontaneous_of goes.means ∙ (own_news clocks goes.first goes.others ∙ goes.told) in
    record {
      started = tied.started;
      settled = tied.settled ++ map put xs;
      all_settled = settled_more tied.settled xs tied.all_settled;
      told = ap (λ (ys : List Observation). fates_with_put_out (fates setup.station hs) ys) puts
          ∙ (ap (λ (es : List Element). fates_with_put_out es xs)
          (tied.told ∙ ap (before_queue tied.settled) (sym (take-append-drop n k.queue)))
          ∙ queue_shrinks tied.settled xs left tied.all_settled);
      put_out = ap (λ (ys : List Observation). gone setup.station hs ++ ys) puts
          ∙ (ap (λ (ys : List Observation). ys ++ xs) tied.put_out ∙ sym (put_out_more tied.settled xs));
      dropped = tied.dropped ∙ sym (ap length (dropped_same tied.settled xs));
      few = omega (arith, length-drop n k.queue, tied.few);
      parts = tied.parts;
    }

gave : (setup : Setup) (moment : ℕ) (x : Sending) (s : Option (List Turn)) (k : Client)
    → IsOffered k x → CanSend (station_clocks setup.station) x
    → AllByRecursion (CanSend (station_clocks setup.station)) (line k)
    → NewsTied setup s k → NewsTied setup (session_with (PutsOut (says setup k x)) s)
    (client_with_sent (station_clocks setup.station) moment x k)
gave setup moment (sendings.Confirm signal) None k is can all tied =
    no_session k _ refl refl refl refl refl tied
gave setup moment sendings.Test None k is can all tied = no_session k _ refl refl refl refl refl tied
gave setup moment sendings.SFormat None k is can all tied = no_session k _ refl refl refl refl refl tied
gave setup moment (sendings.Answer answer) None k is can all tied =
    absurd (true≢false (sym is.in_session ∙ tied.stopped))
gave setup moment (sendings.Part part) None k is can all tied =
    absurd (true≢false (sym is.in_session ∙ tied.stopped))
gave setup moment (sendings.News x) None k is can all tied =
    absurd (true≢false (sym is.in_session ∙ tied.stopped))
gave setup moment (sendings.Confirm signal) (Some hs) k is can all tied =
    put_still setup (says setup k (sendings.Confirm signal)) hs k _ refl
    (record { stage = refl; limit = refl; queue = refl; dropped = refl }) tied.parts tied
gave setup moment sendings.Test (Some hs) k is can all tied =
    put_still setup (says setup k sendings.Test) hs k _ refl
    (record { stage = refl; limit = refl; queue = refl; dropped = refl }) tied.parts tied
gave setup moment sendings.SFormat (Some hs) k is can all tied =
    put_still setup (says setup k sendings.SFormat) hs k _ refl
    (record { stage = refl; limit = refl; queue = refl; dropped = refl }) tied.parts tied
gave setup moment (sendings.Answer answer) (Some hs) k is can all tied =
    let clocks : Clocks = (station_clocks setup.station) in
    let meant : Meant = meaning_of clocks (answer_octets clocks answer) in
    put_still setup (says setup k (sendings.Answer answer)) hs k _
    (answer_no_news clocks answer meant can (answer_means clocks answer can))
    (record { stage = refl; limit = refl; queue = refl; dropped = refl }) tied.parts tied
gave setup moment (sendings.Part part) (Some hs) k is can all tied =
    let clocks : Clocks = (station_clocks setup.station) in
    put_still setup (says setup k (sendings.Part part)) hs k _
    (parts_no_news clocks k part _ is.first tied.parts (says_front setup (sendings.Part part) k is can all))
    (record { stage = refl; limit = refl; queue = refl; dropped = refl })
    (rest_left (together clocks (line k)) k tied.parts) tied
gave setup moment (sendings.News x) (Some hs) k is can all tied =
    news_went setup moment x hs k
    (news_go (station_clocks setup.station) k x _ is.first
    (says_front setup (sendings.News x) k is can all)) tied

news_first_tied : (setup : Setup) (k : Client) → IsFresh setup k → NewsTied setup None k
news_first_tied setup k is = record {
  stopped = is.stage;
  queue = is.queue;
  dropped = is.dropped;
  answers = is.answers;
  rest = is.rest;
}

pub news_more : (setup : Setup) → 0 < setup.station.queue
    → (t : Turn) (ts : List Turn) (k new : Client) → Lives setup ts k → Becomes setup t k new
    → NewsTied setup (session ts) k → NewsTied setup (session (t ∷ ts)) new
news_more setup some (Idle brought) ts k new lives is tied =
    outcomes_came setup brought (session ts) k new some (counts_tied setup ts k lives).limit is tied
news_more setup some Ends ts k new lives is tied =
    subst NoSession (sym is) (record { stopped = refl; queue = refl; dropped = refl; answers = refl; rest = refl })
news_more setup some (Takes a taking) ts k new lives is tied =
    subst (NewsTied setup (session (Takes a taking ∷ ts))) (sym is.becomes)
    (took setup a taking is.moment (session ts) k is.opens tied)
news_more setup some (PutsOut said) ts k new lives is tied =
    subst (NewsTied setup (session (PutsOut said ∷ ts))) (sym is.becomes)
    (subst (λ (x : ApduMeaning). NewsTied setup (session (PutsOut x ∷ ts)) (client_with_sent (station_clocks setup.station) is.moment is.sending k))
    (sym is.says)
    (gave setup is.moment is.sending (session ts) k (offered_is is.moment k is.sending is.first) is.can is.all tied))

pub news_tied : (setup : Setup) → 0 < setup.station.queue
    → (ts : List Turn) (k : Client) → Lives setup ts k → NewsTied setup (session ts) k
news_tied setup some = lives_all setup (λ ts k. NewsTied setup (session ts) k) (news_first_tied setup)
    (news_more setup some)

-- ---- the law

tells : (setup : Setup) (s : Option (List Turn)) (k : Client) → NewsTied setup s k
    → TellsNews setup.station (turns_in s) k
tells setup None k tied = record { in_order = tied.queue; queued = tied.queue; dropped = tied.dropped }
tells setup (Some hs) k tied = record {
  in_order = rw (tied.put_out, tied.told) (sym (kept_in tied.settled k.queue tied.all_settled));
  queued = rw tied.told (sym (queued_in tied.settled k.queue tied.all_settled));
  dropped = tied.dropped ∙ sym (ap length (rw tied.told (dropped_in tied.settled k.queue)));
}

-- a session stands while it is started
pub stands : (setup : Setup) (s : Option (List Turn)) (k : Client) → NewsTied setup s k → is_started k.stage ≡ is_some s
stands setup None k tied = tied.stopped
stands setup (Some hs) k tied = tied.started

-- the first of the rest is asked for
requested_first : (setup : Setup) (k : Client) → AllByRecursion IsRequested k.rest → IsRequestedFirst (line k)
requested_first setup k all = first (line k)
    (line_so IsRequestedSending k (all-given (λ (answer : AsduAnswer). IsRequestedSending (sendings.Answer answer))
    (λ answer. tt) k.answers) (all-given (λ (x : Observation). IsRequestedSending (sendings.News x)) (λ x. tt) k.queue)
    all)
  where
    first : (l : List Sending) → AllByRecursion IsRequestedSending l → IsRequestedFirst l
    first [] each = tt
    first (sendings.Part part ∷ l) each = each.0
    first (sendings.News x ∷ l) each = tt
    first (sendings.Answer answer ∷ l) each = tt
    first (sendings.Confirm signal ∷ l) each = tt
    first (sendings.Test ∷ l) each = tt
    first (sendings.SFormat ∷ l) each = tt

-- an I format is offered in a session alone
says_in_session : (setup : Setup) (s : Option (List Turn)) (k : Client) (meant : Meant)
    → is_started k.stage ≡ true → NewsTied setup s k → WaitsKnown setup k
    → MeansFront (station_clocks setup.station) (line k) meant
    → AllByRecursion (CanSend (station_clocks setup.station)) (line k)
    → (is_some s ≡ true) × IsOfStation setup meant
says_in_session setup None k meant started tied known means all = absurd (true≢false (sym started ∙ tied.stopped))
says_in_session setup (Some hs) k meant started tied known means all = (
  refl,
  front_of_station setup (line k) meant means all (line_known setup k known) (requested_first setup k tied.parts),
)

says_of_station : (setup : Setup) (x : Sending) (ts : List Turn) (k : Client)
    → IsOffered k x → CanSend (station_clocks setup.station) x
    → AllByRecursion (CanSend (station_clocks setup.station)) (line k)
    → NewsTied setup (session ts) k → WaitsKnown setup k → Speaks setup (PutsOut (says setup k x) ∷ ts)
says_of_station setup (sendings.Confirm signal) ts k is can all tied known = tt
says_of_station setup sendings.Test ts k is can all tied known = tt
says_of_station setup sendings.SFormat ts k is can all tied known = tt
says_of_station setup (sendings.Answer answer) ts k is can all tied known =
    says_in_session setup (session ts) k _ is.in_session tied known
    (says_front setup (sendings.Answer answer) k is can all) all
says_of_station setup (sendings.Part part) ts k is can all tied known =
    says_in_session setup (session ts) k _ is.in_session tied known
    (says_front setup (sendings.Part part) k is can all) all
says_of_station setup (sendings.News x) ts k is can all tied known =
    says_in_session setup (session ts) k _ is.in_session tied known
    (says_front setup (sendings.News x) k is can all) all

speaks : (setup : Setup) → 0 < setup.station.queue
    → (ts : List Turn) (k : Client) → Lives setup ts k → AllByRecursion (IsKnownTurn setup) ts → Speaks setup ts
speaks setup some [] k lives known = tt
speaks setup some (Idle brought ∷ ts) k lives known = tt
speaks setup some (Takes a taking ∷ ts) k lives known = tt
speaks setup some (Ends ∷ ts) k lives known = tt
speaks setup some (PutsOut said ∷ ts) k lives known =
    let gave = lives.2 in
    subst (λ (x : ApduMeaning). Speaks setup (PutsOut x ∷ ts)) (sym gave.says)
    (says_of_station setup gave.sending ts lives.0
    (offered_is gave.moment lives.0 gave.sending gave.first) gave.can gave.all
    (news_tied setup some ts lives.0 lives.1) (waits_known setup ts lives.0 lives.1 known.1))

pub tells_news : (setup : Setup) (past : List Entry) → Place setup past → News setup past
tells_news setup past place = record {
  picture = place.known.tied.picture;
  sessions = λ c. begun c (client_at setup c past) (place.known.lives c);
  queues = λ c. news c (client_at setup c past) (place.known.lives c);
  speaks = λ c within. of_each setup (λ (ts : List Turn). AllByRecursion (IsKnownTurn setup) ts → Speaks setup ts)
      (speaks setup some) past place c within (life_known setup place.given.settings.known c past);
}
  where
    some : 0 < setup.station.queue
    some = place.given.settings.queue

    begun : (c : ℕ) (x : Option Client) → SlotLives setup c (life setup c past) x
        → IfSome x (λ k. is_started k.stage ≡ is_some (session (life setup c past)))
    begun c None lives = tt
    begun c (Some k) lives = stands setup (session (life setup c past)) k
        (news_tied setup some (life setup c past) k lives)

    news : (c : ℕ) (x : Option Client) → SlotLives setup c (life setup c past) x
        → IfSome x (TellsNews setup.station (turns_in (session (life setup c past))))
    news c None lives = tt
    news c (Some k) lives = tells setup (session (life setup c past)) k
        (news_tied setup some (life setup c past) k lives)
