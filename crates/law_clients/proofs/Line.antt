-- What ties what waits for a client to its session.
use Rattle.std.proofs.Common.{◌≡◌, ℕ, zero, suc, ◌+◌, ◌-◌, ◌<◌, ◌≤◌, Bool, true, false}
use Rattle.std.proofs.Common.{List, [], ◌∷◌, ◌++◌, map, length, take, drop, Option, Some}
use Rattle.std.proofs.Common.{None, refl, sym, ap, subst, ◌∙◌, append_assoc, arith, inl, inr}
use Rattle.std.proofs.Math.Bool.{and-false}
use Rattle.std.specs.Prelude.{option_map, slice_get, IfSome}
use Rattle.std.specs.Option.{option_to_list}
use Rattle.std.specs.List.{AllByRecursion}
use Rattle.std.proofs.lemmas.Bool.{cases_Bool, true≢false}
use Rattle.std.proofs.lemmas.List.{append-nil, length-append, length-drop, length-take-le, length-map}
use Rattle.gw_model.specs.declared.observation.Observation.{Observation}
use Rattle.gw_model.specs.Clocks.{Clocks}
use Rattle.gw_map.specs.Settings.{Setup, station_clocks}
use Rattle.iec_apci.specs.declared.apdu.Asdu.{Asdu as AsduOctets}
use Rattle.iec_apci.specs.declared.apdu.Apdu.{Apdu}
use Rattle.iec_apci.specs.declared.apdu.Apdu.TheVariants.{I, S, U}
use Rattle.iec_apci.specs.declared.apdu.Signal.{Signal}
use Rattle.iec_apci.specs.declared.apdu.Signal.TheVariants.{StartAct, StartCon, StopAct, StopCon, TestAct, TestCon}
use Rattle.iec_command.specs.declared.command.Command.{Command}
use Rattle.iec_command.specs.declared.command.Action.{Action}
use Rattle.iec_command.specs.declared.command.Action.TheVariants as actions
use Rattle.gw_control.specs.declared.answer.Outcome.{Outcome}
use Rattle.gw_judge.specs.declared.judging.Judged.{Judged}
use Rattle.gw_judge.specs.declared.judging.Judged.TheVariants as judgements
use Rattle.gw_judge.specs.Acceptable.{object_for}
use Rattle.gw_answers.specs.declared.outgoing.AsduAnswer.{AsduAnswer}
use Rattle.gw_answers.specs.declared.outgoing.AsduAnswer.TheVariants.{Made}
use Rattle.gw_answers.specs.declared.outgoing.OwnAsdu.TheVariants as outgoing
use Rattle.gw_answers.specs.declared.outgoing.OwnAsdu.{OwnAsdu}
use Rattle.gw_answers.specs.Interrogations.{asked_addresses, is_accepted_act}
use Rattle.gw_answers.specs.Answers.{answered, answered_action, refused_act, shown_at, command_by}
use Rattle.gw_answers.specs.Octets.{answer_octets, packed_octets}
use Rattle.gw_answers.specs.Meaning.{Meant, meaning_of, Means}
use Rattle.gw_answers.proofs.Meant.{answer_means}
use Rattle.gw_station.specs.declared.event.Event.{Event}
use Rattle.gw_station.specs.declared.event.Event.TheVariants as events
use Rattle.gw_station.specs.declared.event.Said.{Said}
use Rattle.gw_station.specs.declared.sending.Sending.{Sending}
use Rattle.gw_station.specs.declared.sending.Sending.TheVariants as sendings
use Rattle.gw_station.specs.Client.{Client, client_with_news}
use Rattle.gw_station.specs.Answers.{is_pending as is_asked, is_asking, answers_with, older_with, rest_with}
use Rattle.gw_station.specs.Frames.{close_of, judged_asdu, client_taking, client_with_signal, command_in, event_taking}
use Rattle.gw_station.specs.Pump.{line as line_in, news_front, together, part_octets, client_with_sent}
use Rattle.gw_station.specs.Sound.{CanSend}
use Rattle.gw_station.proofs.All.{all-drop}
use Rattle.gw_station.proofs.Front.{line_of, split_anywhere, drop_none, part_first, parts_same, parts_within}
use Rattle.gw_steps.specs.Controls.{client_told_all}
use Rattle.gw_steps.specs.Steps.{client_answered}
use Rattle.gw_steps.specs.Said.{ApduMeaning}
use Rattle.law_history.specs.Life.{Brought, Taking, Turn, Idle, Takes, PutsOut, Ends, session_with, session, turns_in}
use Rattle.law_history.proofs.Lives.{Becomes, Came, IsOperating, Lives, lives_all}
use Rattle.law_clients.specs.Fates.{spontaneous_of, Element, is_queued, items_of, fates, fates_with_put_out}
use Rattle.law_clients.specs.Interrogations.{Interrogation, parts_in, is_pending, answer_told}
use Rattle.law_clients.specs.Interrogations.{interrogation_telling, IsAnsweredInOrder, begun, interrogation}
use Rattle.law_clients.specs.Line.{answers_to, told_of, told_outcomes, since_of, left_of, SaysFirst, owed, line, KeepsLine}
use Rattle.law_clients.proofs.Offered.{IsOffered, offered_is}
use Rattle.law_clients.proofs.Fronts.{says_front, news_go, parts_go}
use Rattle.law_clients.proofs.Settled.{queued, take_queued, drop_queued, length-came, length-gone}
use Rattle.law_clients.proofs.Parts.{answer_no_news, IsApart, IsOfInterrogation, answer_apart, news_apart, told_nothing}
use Rattle.law_clients.proofs.Parts.{accepted_is, answer_is, pending_is, said_more, left_more, nothing_asked}
use Rattle.law_clients.proofs.Told.{all_joined, answers_told, command_apart, outcomes_apart, same_beside}
use Rattle.law_clients.proofs.Numbers.{says}
use Rattle.law_clients.proofs.News.{InSession, NewsTied, news_tied}

-- ---- the tie

-- what waits for a client where these answers are owed, this is the interrogation, and so many news came
pub record LineIs (owes : List AsduAnswer) (q : Option Interrogation) (n : ℕ) (k : Client) : Type 0 where
  pub answers : k.answers ≡ owes
  pub apart : AllByRecursion IsApart k.answers
  pub rest : k.rest ≡ left_of q
  pub asked : AllByRecursion IsOfInterrogation k.rest
  -- what was said and what is left are the answer
  pub said : IfSome q (λ i. i.said ++ k.rest ≡ answer_told i)
  -- the news of the session are no fewer than came before the interrogation
  pub since : since_of q ≤ n
  pub older : is_asked k.rest ≡ true → k.older ≡ since_of q - (n - length k.queue)

abbrev pub LineTied : Setup → Option (List Turn) → Client → Type 0
LineTied setup None k = Unit {0}
LineTied setup (Some hs) k = LineIs (owed setup hs) (interrogation setup hs)
    (length (fates setup.station hs)) k

-- ---- what it tells

pub pending_told : (owes : List AsduAnswer) (q : Option Interrogation) (n : ℕ) (k : Client)
    → LineIs owes q n k → is_pending q ≡ is_asked k.rest
pending_told owes None n k tied = ap is_asked (sym tied.rest)
pending_told owes (Some q) n k tied = pending_is q k.rest tied.said

same_split : (pending : Bool) (n m : ℕ) (queue : List Observation) (rest : List OwnAsdu) → is_asked rest ≡ pending
    → (pending ≡ true → n ≡ m)
    → map sendings.News (take n queue) ++ (map sendings.Part rest ++ map sendings.News (drop n queue))
    ≡ map sendings.News (take m queue) ++ (map sendings.Part rest ++ map sendings.News (drop m queue))
same_split true n m queue rest is same = ap (λ (i : ℕ). map sendings.News (take i queue)
    ++ (map sendings.Part rest ++ map sendings.News (drop i queue))) (same refl)
same_split false n m queue rest is same = rw (nothing_asked rest is)
    (split_anywhere n queue ∙ sym (split_anywhere m queue))

-- settled ones and the queue are all
pub settled_is : (setup : Setup) (hs : List Turn) (k : Client) (tied : InSession setup hs k)
    → length (fates setup.station hs) ≡ length tied.settled + length k.queue
settled_is setup hs k tied = ap length tied.told ∙ omega (
  arith,
  length-append tied.settled
      (map queued k.queue),
  length-map k.queue queued,
)

pub line_is : (setup : Setup) (hs : List Turn) (k : Client) → InSession setup hs k → LineTied setup (Some hs) k
    → line_in k ≡ line setup hs
line_is setup hs k news tied =
    let since : ℕ = since_of (interrogation setup hs) in
    let m : ℕ = since - length news.settled in
    let same : is_asked k.rest ≡ true → k.older ≡ m = λ is. omega (arith, tied.older is, settled_is setup hs k news) in
    let front = ap (λ (l : List Element). items_of is_queued (take since l)) news.told
    ∙ take_queued since m news.settled k.queue news.all_settled refl in
    let back = ap (λ (l : List Element). items_of is_queued (drop since l)) news.told
    ∙ drop_queued since m news.settled k.queue news.all_settled refl in
    rw (sym tied.answers, sym tied.rest, front, back)
    (ap (λ (l : List Sending). map sendings.Answer k.answers ++ l)
    (same_split (is_asked k.rest) k.older m k.queue k.rest refl same))

-- ---- one turn more

-- what waits is the same, but for answers
record Waits (k new : Client) : Type 0 where
  rest : new.rest ≡ k.rest
  older : new.older ≡ k.older
  queue : new.queue ≡ k.queue

waits_with : (owes more : List AsduAnswer) (q : Option Interrogation) (n : ℕ) (k new : Client)
    → Waits k new → new.answers ≡ more → AllByRecursion IsApart new.answers → LineIs owes q n k
    → LineIs more q n new
waits_with owes more q n k new same answers apart tied = record {
  answers = answers;
  apart = apart;
  rest = same.rest ∙ tied.rest;
  asked = subst (AllByRecursion IsOfInterrogation) (sym same.rest) tied.asked;
  said = subst (λ (rest : List OwnAsdu). IfSome q (λ i. i.said ++ rest ≡ answer_told i))
      (sym same.rest) tied.said;
  since = tied.since;
  older = λ is. omega (arith, same.older, tied.older (ap is_asked (sym same.rest) ∙ is), ap length same.queue);
}

-- and the answers are the same
waits_on : (owes : List AsduAnswer) (q : Option Interrogation) (n : ℕ) (k new : Client) → Waits k new
    → new.answers ≡ k.answers → LineIs owes q n k → LineIs owes q n new
waits_on owes q n k new same answers tied =
    waits_with owes owes q n k new same (answers ∙ tied.answers)
    (subst (AllByRecursion IsApart) (sym answers) tied.apart) tied

-- what becomes of orders joins the answers
outcomes_wait : (owes : List AsduAnswer) (q : Option Interrogation) (n : ℕ) (k : Client)
    (xs : List Outcome) → AllByRecursion IsOperating xs → LineIs owes q n k
    → LineIs (owes ++ told_outcomes xs) q n (client_told_all xs k)
outcomes_wait owes q n k xs operating tied =
    let same = same_beside xs k in
    let answers : (client_told_all xs k).answers ≡ k.answers ++ told_outcomes xs = answers_told xs k in
    waits_with owes (owes ++ told_outcomes xs) q n k (client_told_all xs k)
    (record { rest = same.rest; older = same.older; queue = same.queue })
    (answers ∙ ap (λ (waiting : List AsduAnswer). waiting ++ told_outcomes xs) tied.answers)
    (subst (AllByRecursion IsApart) (sym answers)
    (all_joined k.answers (told_outcomes xs) tied.apart (outcomes_apart xs operating)))
    tied

-- news come
news_wait : (setup : Setup) (brought : Brought) (hs : List Turn) (k : Client) → InSession setup hs k
    → LineTied setup (Some hs) k
    → LineIs (owed setup hs) (interrogation setup hs)
    (length (fates setup.station (Idle brought ∷ hs))) (client_with_news brought.news k)
news_wait setup brought hs k news tied =
    let xs : List Observation = brought.news in
    let all = length-came setup.station.queue (fates setup.station hs) xs in
    let n : ℕ = length (k.queue ++ xs) - k.limit in
    let kept : length (drop n (k.queue ++ xs)) ≡ length (k.queue ++ xs) - n = length-drop n (k.queue ++ xs) in
    let both : length (k.queue ++ xs) ≡ length k.queue + length xs = length-append k.queue xs in
    let within = settled_is setup hs k news in
    record {
      answers = tied.answers;
      apart = tied.apart;
      rest = tied.rest;
      asked = tied.asked;
      said = tied.said;
      since = omega (arith, tied.since, all);
      older = λ is. rw news.started (omega (arith, tied.older is, all, kept, both, within));
    }

-- and outcomes
came : (setup : Setup) (brought : Brought) (s : Option (List Turn)) (k new : Client) → Came brought k new
    → NewsTied setup s k → LineTied setup s k → LineTied setup (session_with (Idle brought) s) new
came setup brought None k new is news tied = tt
came setup brought (Some hs) k new is news tied =
    subst (LineTied setup (Some (Idle brought ∷ hs))) (sym is.becomes)
    (outcomes_wait (owed setup hs) (interrogation setup hs)
    (length (fates setup.station (Idle brought ∷ hs))) (client_with_news brought.news k) brought.outcomes is.operating
    (news_wait setup brought hs k news tied))

-- a control function
signal_taken : (setup : Setup) (taking : Taking) (moment : ℕ) (signal : Signal) (s : Option (List Turn)) (k : Client)
    → NewsTied setup s k → LineTied setup s k → LineTied setup (session_with (Takes (U signal) taking) s)
    (client_with_signal moment signal k)
signal_taken setup taking moment StartAct None k news tied = record {
  answers = rw news.stopped refl;
  apart = rw news.stopped tt;
  rest = rw news.stopped refl;
  asked = rw news.stopped tt;
  said = tt;
  since = omega arith;
  older = λ is. rw news.stopped refl;
}
signal_taken setup taking moment StartAct (Some hs) k news tied =
    waits_on _ _ _ k (client_with_signal moment StartAct k)
    (record { rest = rw news.started refl; older = rw news.started refl; queue = rw news.started refl })
    (rw news.started refl) tied
signal_taken setup taking moment StopAct s k news tied = tt
signal_taken setup taking moment TestAct None k news tied = tt
signal_taken setup taking moment TestCon None k news tied = tt
signal_taken setup taking moment StartCon None k news tied = tt
signal_taken setup taking moment StopCon None k news tied = tt
signal_taken setup taking moment TestAct (Some hs) k news tied =
    waits_on _ _ _ k (client_with_signal moment TestAct k)
    (record { rest = refl; older = refl; queue = refl }) refl tied
signal_taken setup taking moment TestCon (Some hs) k news tied =
    waits_on _ _ _ k (client_with_signal moment TestCon k)
    (record { rest = refl; older = refl; queue = refl }) refl tied
signal_taken setup taking moment StartCon (Some hs) k news tied =
    waits_on _ _ _ k (client_with_signal moment StartCon k)
    (record { rest = refl; older = refl; queue = refl }) refl tied
signal_taken setup taking moment StopCon (Some hs) k news tied =
    waits_on _ _ _ k (client_with_signal moment StopCon k)
    (record { rest = refl; older = refl; queue = refl }) refl tied

-- ---- an ASDU is taken

-- the answers that it gets
refused_apart : (setup : Setup) (pending : Bool) (command : Command)
    → AllByRecursion IsApart (option_to_list (refused_act setup pending command))
refused_apart setup pending command = elim (cases_Bool (is_accepted_act pending command))
    [ inl is ↦ rw is tt | inr isnt ↦ rw isnt (and-false _, tt) ]

shown_apart : (x : Option Observation) (originator : ℕ)
    → AllByRecursion IsApart (option_to_list (option_map (λ y. Made (outgoing.Observation 5 originator y)) x))
shown_apart None originator = tt
shown_apart (Some x) originator = (refl, tt)

action_apart : (setup : Setup) (picture : List Observation) (pending : Bool) (command : Command) (action : Action)
    → AllByRecursion IsApart (option_to_list (answered_action setup picture pending command action))
action_apart setup picture pending command (actions.Interrogation qualifier) = refused_apart setup pending command
action_apart setup picture pending command (actions.CounterInterrogation qualifier) =
    refused_apart setup pending command
action_apart setup picture pending command actions.Read =
    shown_apart (shown_at setup picture (object_for command)) command.originator
action_apart setup picture pending command (actions.Single x) = tt
action_apart setup picture pending command (actions.Double x) = tt
action_apart setup picture pending command (actions.Setpoint x) = tt

at_once_apart : (setup : Setup) (picture : List Observation) (pending : Bool) (asdu : AsduOctets) (j : Judged)
    → AllByRecursion IsApart (option_to_list (answered setup picture pending asdu j))
at_once_apart setup picture pending asdu judgements.Malformed = tt
at_once_apart setup picture pending asdu (judgements.Refuse cause execute) = (tt, tt)
at_once_apart setup picture pending asdu (judgements.Accepted command) =
    action_apart setup picture pending command command.action

-- something is said of a command for a control
joined : (said : Command → Said) (answer : Option AsduAnswer) (command : Option Command) (k : Client)
    (xs : List AsduAnswer) → k.answers ≡ answers_with answer xs
    → (client_answered said (event_taking command) k).answers ≡ xs ++ (option_to_list answer ++ told_of said command)
joined said None None k xs e = e ∙ sym (append-nil xs)
joined said (Some answer) None k xs e = e
joined said None (Some command) k xs e = ap (λ (l : List AsduAnswer). l ++ told_of said (Some command)) e
joined said (Some answer) (Some command) k xs e = ap (λ (l : List AsduAnswer). l ++ told_of said (Some command)) e
    ∙ append_assoc xs (answer ∷ []) (told_of said (Some command))

answered_waits : (said : Command → Said) (event : Event) (k : Client)
    → ((client_answered said event k).rest ≡ k.rest) × ((client_answered said event k).older ≡ k.older)
    × ((client_answered said event k).queue ≡ k.queue)
answered_waits said events.Taken k = (refl, refl, refl)
answered_waits said (events.Command command) k = (refl, refl, refl)
answered_waits said (events.Closed why) k = (refl, refl, refl)

-- the rest of an answer, and the mark of the queue, where this is the interrogation
record Asks (q : Option Interrogation) (n : ℕ) (queue : List Observation) (rest : List OwnAsdu)
    (mark : ℕ) : Type 0 where
  is : rest ≡ left_of q
  asked : AllByRecursion IsOfInterrogation rest
  said : IfSome q (λ i. i.said ++ rest ≡ answer_told i)
  since : since_of q ≤ n
  older : is_asked rest ≡ true → mark ≡ since_of q - (n - length queue)

as_before : (owes : List AsduAnswer) (q : Option Interrogation) (n : ℕ) (k : Client)
    → LineIs owes q n k → Asks q n k.queue k.rest k.older
as_before owes q n k tied = record {
  is = tied.rest;
  asked = tied.asked;
  said = tied.said;
  since = tied.since;
  older = tied.older;
}

asks : (setup : Setup) (picture : List Observation) (owes : List AsduAnswer) (q : Option Interrogation)
    (n : ℕ) (k : Client)
    (j : Judged) → length k.queue ≤ n → LineIs owes q n k
    → Asks (begun setup n picture j q) n k.queue (rest_with setup picture j (is_asking j k) k)
    (older_with j (is_asking j k) k)
asks setup picture owes q n k judgements.Malformed few tied = as_before owes q n k tied
asks setup picture owes q n k (judgements.Refuse cause execute) few tied = as_before owes q n k tied
asks setup picture owes q n k (judgements.Accepted command) few tied =
    elim (cases_Bool (is_accepted_act (is_asked k.rest) command)) [
      | inl accepted ↦ rw (pending_told owes q n k tied, accepted) (record {
        is = refl;
        asked = answer_is (asked_addresses setup command.common_address) command picture
            (accepted_is (is_asked k.rest) command accepted);
        said = refl;
        since = omega arith;
        older = λ is. omega (arith, few);
      })
      | inr refused ↦ rw (pending_told owes q n k tied, refused) (as_before owes q n k tied)
    ]

asdu_taken : (setup : Setup) (taking : Taking) (moment ns nr : ℕ) (asdu : AsduOctets) (hs : List Turn) (k : Client)
    → InSession setup hs k → LineTied setup (Some hs) k
    → LineTied setup (Some (Takes (I ns nr asdu) taking ∷ hs))
    (client_answered taking.said (event_taking (command_in setup (I ns nr asdu)))
    (client_taking setup taking.picture moment (I ns nr asdu) k))
asdu_taken setup taking moment ns nr asdu hs k news tied =
    let picture : List Observation = taking.picture in
    let j : Judged = judged_asdu setup asdu in
    let between : Client = client_taking setup picture moment (I ns nr asdu) k in
    let event : Event = event_taking (command_by j) in
    let q : Option Interrogation = interrogation setup hs in
    let n : ℕ = length (fates setup.station hs) in
    let few : length k.queue ≤ n = omega (arith, settled_is setup hs k news) in
    let is : Asks (begun setup n picture j q) n k.queue between.rest between.older =
    asks setup picture (owed setup hs) q n k j few tied in
    let waits = answered_waits taking.said event between in
    let answers : (client_answered taking.said event between).answers ≡ k.answers
    ++ answers_to setup taking (is_asked k.rest) asdu j =
    joined taking.said (answered setup picture (is_asked k.rest) asdu j) (command_by j) between k.answers refl in
    record {
      answers = answers ∙ (ap (λ (xs : List AsduAnswer). xs ++ answers_to setup taking (is_asked k.rest) asdu j)
          tied.answers
          ∙ ap (λ (b : Bool). owed setup hs ++ answers_to setup taking b asdu j)
          (sym (pending_told (owed setup hs) q n k tied)));
      apart = subst (AllByRecursion IsApart) (sym answers)
          (all_joined k.answers (answers_to setup taking (is_asked k.rest) asdu j) tied.apart
          (all_joined (option_to_list (answered setup picture (is_asked k.rest) asdu j))
          (told_of taking.said (command_by j)) (at_once_apart setup picture (is_asked k.rest) asdu j)
          (command_apart taking.said j)));
      rest = waits.0 ∙ is.is;
      asked = subst (AllByRecursion IsOfInterrogation) (sym waits.0) is.asked;
      said = subst (λ (rest : List OwnAsdu). IfSome (begun setup n picture j q)
          (λ i. i.said ++ rest ≡ answer_told i)) (sym waits.0) is.said;
      since = is.since;
      older = λ asked. omega (arith, waits.1, is.older (ap is_asked (sym waits.0) ∙ asked), ap length waits.2);
    }

took : (setup : Setup) (a : Apdu) (taking : Taking) (moment : ℕ) (s : Option (List Turn)) (k : Client)
    → close_of setup a k ≡ None → NewsTied setup s k → LineTied setup s k
    → LineTied setup (session_with (Takes a taking) s)
    (client_answered taking.said (event_taking (command_in setup a)) (client_taking setup taking.picture moment a k))
took setup (I ns nr asdu) taking moment None k opens news tied = tt
took setup (I ns nr asdu) taking moment (Some hs) k opens news tied =
    asdu_taken setup taking moment ns nr asdu hs k news tied
took setup (S nr) taking moment None k opens news tied = tt
took setup (S nr) taking moment (Some hs) k opens news tied =
    waits_on _ _ _ k (client_taking setup taking.picture moment (S nr) k)
    (record { rest = refl; older = refl; queue = refl }) refl tied
took setup (U signal) taking moment s k opens news tied = signal_taken setup taking moment signal s k news tied

-- ---- something is put out

all_dropped : (xs : List AsduAnswer) → AllByRecursion IsApart xs → AllByRecursion IsApart (drop 1 xs)
all_dropped [] all = tt
all_dropped (x ∷ xs) all = all.1

answer_is_first : (a b : AsduAnswer) → Some (sendings.Answer a) ≡ Some (sendings.Answer b) → a ≡ b
answer_is_first a b e = ap value e
  where
    value : Option Sending → AsduAnswer
    value (Some (sendings.Answer z)) = z
    value _ = a

-- no answer is behind news or a part
news_before : (older : ℕ) (queue : List Observation) (rest : List OwnAsdu) (answer : AsduAnswer)
    → slice_get (line_of [] older queue rest) 0 ≡ Some (sendings.Answer answer) → ⊥
news_before zero queue (part ∷ rest) answer e = absurd cc
news_before zero (y ∷ queue) [] answer e = absurd cc
news_before zero [] [] answer e = absurd cc
news_before (suc n) (y ∷ queue) rest answer e = absurd cc
news_before (suc n) [] (part ∷ rest) answer e = absurd cc
news_before (suc n) [] [] answer e = absurd cc

answer_first : (k : Client) (answer : AsduAnswer) → slice_get (line_in k) 0 ≡ Some (sendings.Answer answer)
    → (more : List AsduAnswer) × (k.answers ≡ answer ∷ more)
answer_first k answer e = go k.answers e
  where
    go : (answers : List AsduAnswer)
        → slice_get (line_of answers k.older k.queue k.rest) 0 ≡ Some (sendings.Answer answer)
        → (more : List AsduAnswer) × (answers ≡ answer ∷ more)
    go [] e = absurd (news_before k.older k.queue k.rest answer e)
    go (a ∷ answers) e = (answers, ap (λ (x : AsduAnswer). x ∷ answers) (answer_is_first a answer e))

-- so many parts more were said
record More (n : ℕ) (k : Client) (q next : Option Interrogation) : Type 0 where
  rest : drop n k.rest ≡ left_of next
  said : IfSome next (λ i. i.said ++ drop n k.rest ≡ answer_told i)
  since : since_of next ≡ since_of q

told_more : (n : ℕ) (k : Client) (q : Option Interrogation) (meant : Meant) → n ≤ length k.rest
    → parts_in meant ≡ take n k.rest → k.rest ≡ left_of q
    → IfSome q (λ i. i.said ++ k.rest ≡ answer_told i)
    → More n k q (option_map (interrogation_telling meant) q)
told_more n k None meant few told left said =
    record { rest = ap (drop n) left ∙ drop_none n; said = tt; since = refl }
told_more n k (Some q) meant few told left said =
    let more : length (q.said ++ parts_in meant) ≡ length q.said + n =
    omega (
      arith,
      length-append q.said (parts_in meant),
      ap length told,
      length-take-le n k.rest few,
    ) in
    record {
      rest = left_more (length q.said) n k.rest (answer_told q) left
          ∙ ap (λ (m : ℕ). drop m (answer_told q)) (sym more);
      said = rw told (said_more n q.said k.rest ∙ said);
      since = refl;
    }

-- an answer, or older news: nothing was put out of an interrogation
same_asked : (owes : List AsduAnswer) (q : Option Interrogation) (n m : ℕ) (meant : Meant) (k : Client)
    → parts_in meant ≡ [] → n ≡ m → LineIs owes q n k
    → LineIs owes (option_map (interrogation_telling meant) q) m k
same_asked owes q n m meant k none same tied =
    subst (λ (x : Option Interrogation). LineIs owes x m k) (sym (told_nothing meant q none))
    (subst (λ (i : ℕ). LineIs owes q i k) same tied)

-- what is asked still was asked before
asked_before : (n : ℕ) (rest : List OwnAsdu) → is_asked (drop n rest) ≡ true → is_asked rest ≡ true
asked_before zero rest e = e
asked_before (suc n) [] e = absurd (true≢false (sym e))
asked_before (suc n) (part ∷ rest) e = refl

gave : (setup : Setup) (moment : ℕ) (x : Sending) (s : Option (List Turn)) (k : Client)
    → IsOffered k x → CanSend (station_clocks setup.station) x
    → AllByRecursion (CanSend (station_clocks setup.station)) (line_in k)
    → NewsTied setup s k → LineTied setup s k → LineTied setup (session_with (PutsOut (says setup k x)) s)
    (client_with_sent (station_clocks setup.station) moment x k)
gave setup moment x None k is can all news tied = tt
gave setup moment (sendings.Confirm signal) (Some hs) k is can all news tied =
    waits_on _ _ _ k (client_with_sent (station_clocks setup.station) moment (sendings.Confirm signal) k)
    (record { rest = refl; older = refl; queue = refl }) refl tied
gave setup moment sendings.Test (Some hs) k is can all news tied =
    waits_on _ _ _ k (client_with_sent (station_clocks setup.station) moment sendings.Test k)
    (record { rest = refl; older = refl; queue = refl }) refl tied
gave setup moment sendings.SFormat (Some hs) k is can all news tied =
    waits_on _ _ _ k (client_with_sent (station_clocks setup.station) moment sendings.SFormat k)
    (record { rest = refl; older = refl; queue = refl }) refl tied
gave setup moment (sendings.Answer answer) (Some hs) k is can all news tied =
    let clocks : Clocks = (station_clocks setup.station) in
    let meant : Meant = meaning_of clocks (answer_octets clocks answer) in
    let means : Means clocks answer meant = answer_means clocks answer can in
    let front = answer_first k answer is.first in
    let apart : IsApart answer = (subst (AllByRecursion IsApart) front.1 tied.apart).0 in
    let none : spontaneous_of meant ≡ [] = answer_no_news clocks answer meant can means in
    same_asked (drop 1 (owed setup hs)) (interrogation setup hs) (length (fates setup.station hs)) _ meant
    (client_with_sent (station_clocks setup.station) moment (sendings.Answer answer) k)
    (answer_apart clocks answer meant can apart means)
    (sym (ap (λ (xs : List Observation). length (fates_with_put_out (fates setup.station hs) xs)) none))
    (record {
      answers = ap (drop 1) tied.answers;
      apart = all_dropped k.answers tied.apart;
      rest = tied.rest;
      asked = tied.asked;
      said = tied.said;
      since = tied.since;
      older = tied.older;
    })
gave setup moment (sendings.News x) (Some hs) k is can all news tied =
    let clocks : Clocks = (station_clocks setup.station) in
    let goes = news_go clocks k x _ is.first (says_front setup (sendings.News x) k is can all) in
    let n : ℕ = together clocks (line_in k) in
    let meant : Meant = meaning_of clocks (packed_octets clocks 3 0 (news_front (line_in k))) in
    let none : owed setup hs ≡ [] = sym tied.answers ∙ goes.answers in
    same_asked (drop 1 (owed setup hs)) (interrogation setup hs) (length (fates setup.station hs)) _ meant
    (client_with_sent (station_clocks setup.station) moment (sendings.News x) k)
    (news_apart clocks goes.first goes.others meant goes.means)
    (sym (length-gone (fates setup.station hs) (spontaneous_of meant)))
    (record {
      answers = tied.answers ∙ (none ∙ sym (ap (drop 1) none));
      apart = tied.apart;
      rest = tied.rest;
      asked = tied.asked;
      said = tied.said;
      since = tied.since;
      older = λ asked. omega (
        arith,
        tied.older asked,
        settled_is setup hs k news,
        goes.within,
        length-drop n k.queue,
      );
    })
gave setup moment (sendings.Part part) (Some hs) k is can all news tied =
    let clocks : Clocks = (station_clocks setup.station) in
    let n : ℕ = together clocks (line_in k) in
    let meant : Meant = meaning_of clocks (part_octets clocks (line_in k) part) in
    let first = part_first k part is.first in
    let few : n ≤ length k.rest =
    omega (arith, parts_same clocks k part first, parts_within clocks k.rest part first.first) in
    let told : parts_in meant ≡ take n k.rest =
    parts_go clocks k part meant is.first news.parts tied.asked
    (says_front setup (sendings.Part part) k is can all) in
    let none : owed setup hs ≡ [] = sym tied.answers ∙ first.answers in
    let size : length (fates setup.station (PutsOut (says setup k (sendings.Part part)) ∷ hs))
    ≡ length (fates setup.station hs) =
    length-gone (fates setup.station hs) (spontaneous_of meant) in
    let more = told_more n k (interrogation setup hs) meant few told tied.rest tied.said in
    record {
      answers = tied.answers ∙ (none ∙ sym (ap (drop 1) none));
      apart = tied.apart;
      rest = more.rest;
      asked = all-drop IsOfInterrogation n k.rest tied.asked;
      said = more.said;
      since = omega (arith, more.since, tied.since, size);
      older = λ asked. omega (arith, tied.older (asked_before n k.rest asked), size, more.since);
    }

-- ---- lives

line_more : (setup : Setup) → 0 < setup.station.queue
    → (t : Turn) (ts : List Turn) (k new : Client) → Lives setup ts k → Becomes setup t k new
    → LineTied setup (session ts) k → LineTied setup (session (t ∷ ts)) new
line_more setup some (Idle brought) ts k new lives is tied =
    came setup brought (session ts) k new is (news_tied setup some ts k lives) tied
line_more setup some Ends ts k new lives is tied = tt
line_more setup some (Takes a taking) ts k new lives is tied =
    subst (LineTied setup (session (Takes a taking ∷ ts))) (sym is.becomes)
    (took setup a taking is.moment (session ts) k is.opens (news_tied setup some ts k lives) tied)
line_more setup some (PutsOut said) ts k new lives is tied =
    subst (LineTied setup (session (PutsOut said ∷ ts))) (sym is.becomes)
    (subst (λ (x : ApduMeaning). LineTied setup (session (PutsOut x ∷ ts)) (client_with_sent (station_clocks setup.station) is.moment is.sending k))
    (sym is.says)
    (gave setup is.moment is.sending (session ts) k (offered_is is.moment k is.sending is.first) is.can is.all
    (news_tied setup some ts k lives) tied))

pub line_tied : (setup : Setup) → 0 < setup.station.queue
    → (ts : List Turn) (k : Client) → Lives setup ts k → LineTied setup (session ts) k
line_tied setup some = lives_all setup (λ ts k. LineTied setup (session ts) k) (λ k is. tt)
    (line_more setup some)

-- ---- the laws

-- what is put out in an I format is the front of the line
says_first : (setup : Setup) (x : Sending) (s : Option (List Turn)) (k : Client)
    → IsOffered k x → CanSend (station_clocks setup.station) x
    → AllByRecursion (CanSend (station_clocks setup.station)) (line_in k)
    → NewsTied setup s k → LineTied setup s k → SaysFirst setup (line setup (turns_in s)) (says setup k x)
says_first setup x (Some hs) k is can all news tied =
    subst (λ (l : List Sending). SaysFirst setup l (says setup k x)) (line_is setup hs k news tied)
    (says_front setup x k is can all)
says_first setup (sendings.Confirm signal) None k is can all news tied = tt
says_first setup sendings.Test None k is can all news tied = tt
says_first setup sendings.SFormat None k is can all news tied = tt
says_first setup (sendings.Answer answer) None k is can all news tied =
    absurd (true≢false (sym is.in_session ∙ news.stopped))
says_first setup (sendings.News x) None k is can all news tied =
    absurd (true≢false (sym is.in_session ∙ news.stopped))
says_first setup (sendings.Part part) None k is can all news tied =
    absurd (true≢false (sym is.in_session ∙ news.stopped))

pub keeps_line : (setup : Setup) → 0 < setup.station.queue
    → (ts : List Turn) (k : Client) → Lives setup ts k → KeepsLine setup ts
keeps_line setup some [] k lives = tt
keeps_line setup some (Idle brought ∷ ts) k lives = tt
keeps_line setup some (Takes a taking ∷ ts) k lives = tt
keeps_line setup some (Ends ∷ ts) k lives = tt
keeps_line setup some (PutsOut said ∷ ts) k lives =
    let gave = lives.2 in
    subst (SaysFirst setup (line setup (turns_in (session ts)))) (sym gave.says)
    (says_first setup gave.sending (session ts) lives.0
    (offered_is gave.moment lives.0 gave.sending gave.first) gave.can gave.all
    (news_tied setup some ts lives.0 lives.1) (line_tied setup some ts lives.0 lives.1))

-- the answer to an interrogation, as it is in the line, is put out in order
abbrev pub IsToldInOrder : Interrogation → Type 0
IsToldInOrder q = IsAnsweredInOrder (answer_told q) q

told_so : (setup : Setup) (s : Option (List Turn)) (k : Client) → LineTied setup s k
    → IfSome (interrogation setup (turns_in s)) IsToldInOrder
told_so setup None k tied = tt
told_so setup (Some hs) k tied = by (interrogation setup hs) (owed setup hs) (length (fates setup.station hs)) tied
  where
    by : (q : Option Interrogation) (owes : List AsduAnswer) (n : ℕ) → LineIs owes q n k
        → IfSome q IsToldInOrder
    by None owes n is = tt
    by (Some q) owes n is = record {
      rest = k.rest;
      in_order = is.said;
      whole = λ over. nothing_asked k.rest (sym (pending_told owes (Some q) n k is) ∙ over);
    }

pub told_in_order : (setup : Setup) → 0 < setup.station.queue
    → (ts : List Turn) (k : Client) → Lives setup ts k
    → IfSome (interrogation setup (turns_in (session ts))) IsToldInOrder
told_in_order setup some ts k lives = told_so setup (session ts) k (line_tied setup some ts k lives)
