-- What waits for a client is under known common addresses.
use Rattle.std.specs.Prelude.{IfSome}
use Rattle.std.specs.List.{AllByRecursion}
use Rattle.std.proofs.Common.{◌≡◌, ℕ, ◌-◌, Bool, true, false, cond, List, [], ◌∷◌}
use Rattle.std.proofs.Common.{◌++◌, length, map, Option, Some, None, sym, subst}
use Rattle.gw_model.specs.Clocks.{Clocks}
use Rattle.gw_model.specs.declared.observation.Observation.{Observation}
use Rattle.gw_map.specs.Settings.{Setup, station_clocks}
use Rattle.iec_apci.specs.declared.apdu.Apdu.{Apdu}
use Rattle.iec_apci.specs.declared.apdu.Apdu.TheVariants.{I, S, U}
use Rattle.iec_apci.specs.declared.apdu.Asdu.{Asdu}
use Rattle.iec_apci.specs.declared.apdu.Signal.{Signal}
use Rattle.iec_apci.specs.declared.apdu.Signal.TheVariants.{StartAct, StartCon, StopAct, StopCon, TestAct, TestCon}
use Rattle.iec_command.specs.declared.command.Command.{Command}
use Rattle.gw_control.specs.declared.answer.Outcome.{Outcome}
use Rattle.gw_judge.specs.declared.judging.Judged.{Judged}
use Rattle.gw_answers.specs.declared.outgoing.AsduAnswer.{AsduAnswer}
use Rattle.gw_answers.specs.declared.outgoing.AsduAnswer.TheVariants.{Made}
use Rattle.gw_answers.specs.Answers.{answered}
use Rattle.gw_station.specs.declared.client.Stage.TheVariants.{Stopped, Started}
use Rattle.gw_station.specs.declared.event.Said.{Said}
use Rattle.gw_station.specs.declared.sending.Sending.{Sending}
use Rattle.gw_station.specs.declared.sending.Sending.TheVariants as sendings
use Rattle.gw_station.specs.Answers.{answers_with, client_judging, client_told, is_asking, is_pending, told}
use Rattle.gw_station.specs.Client.{Client, client_anew, client_with_news, is_started, queue_with}
use Rattle.gw_station.specs.Frames.{client_taking, client_with_session, client_with_signal, command_in, event_taking, judged_asdu}
use Rattle.gw_station.specs.Pump.{client_with_sent, line, together}
use Rattle.gw_station.proofs.All.{all-append, all-drop}
use Rattle.gw_station.proofs.Line.{line_so}
use Rattle.gw_steps.specs.Controls.{client_told_all, client_told_of, said_of_outcome}
use Rattle.gw_steps.specs.Steps.{client_answered}
use Rattle.law_history.specs.Life.{Taking, Turn, Idle, Takes, PutsOut, Ends}
use Rattle.law_history.proofs.Lives.{Becomes, IsFresh, Lives, lives_all}
use Rattle.law_clients.proofs.KnownCommands.{IsKnownAnswer, IsKnownAsdu, IsKnownCommand, IsKnownObservation}
use Rattle.law_clients.proofs.KnownCommands.{answer_at_once_known, asdu_judged_for, command_known, rest_known, told_known}
use Rattle.law_clients.proofs.KnownOrders.{IsKnownOutcome}
use Rattle.law_clients.proofs.KnownTurns.{IsKnownTurn}

pub record WaitsKnown (setup : Setup) (k : Client) : Type 0 where
  pub answers : AllByRecursion (IsKnownAnswer setup) k.answers
  pub queue : AllByRecursion (IsKnownObservation setup) k.queue
  pub rest : AllByRecursion (IsKnownAsdu setup) k.rest

nothing_waits : (setup : Setup) (k : Client) → k.answers ≡ [] → k.queue ≡ [] → k.rest ≡ [] → WaitsKnown setup k
nothing_waits setup k answers queue rest = record {
  answers = subst (AllByRecursion (IsKnownAnswer setup)) (sym answers) tt;
  queue = subst (AllByRecursion (IsKnownObservation setup)) (sym queue) tt;
  rest = subst (AllByRecursion (IsKnownAsdu setup)) (sym rest) tt;
}

-- ---- what comes

-- news
news_come : (setup : Setup) (xs : List Observation) (k : Client) → AllByRecursion (IsKnownObservation setup) xs
    → WaitsKnown setup k → WaitsKnown setup (client_with_news xs k)
news_come setup xs k all waits =
    record { answers = waits.answers; queue = by (is_started k.stage); rest = waits.rest }
  where
    by : (started : Bool)
        → AllByRecursion (IsKnownObservation setup) (queue_with xs k.limit started k.queue)
    by true = all-drop (IsKnownObservation setup) (length (k.queue ++ xs) - k.limit) (k.queue ++ xs)
        (all-append (IsKnownObservation setup) k.queue xs waits.queue all)
    by false = waits.queue

-- what is said of a command
said_waits : (setup : Setup) (c : Command) (said : Said) (k : Client) → IsKnownCommand setup c → WaitsKnown setup k
    → WaitsKnown setup (client_told c said k)
said_waits setup c said k known waits = record {
  answers = all-append (IsKnownAnswer setup) k.answers (map Made (told c said)) waits.answers
      (told_known setup c said known);
  queue = waits.queue;
  rest = waits.rest;
}

-- what became of its orders
outcomes_come : (setup : Setup) (xs : List Outcome) (k : Client) → AllByRecursion (IsKnownOutcome setup) xs
    → WaitsKnown setup k → WaitsKnown setup (client_told_all xs k)
outcomes_come setup [] k all waits = waits
outcomes_come setup (x ∷ xs) k all waits =
    outcomes_come setup xs (client_told_of x k) all.1
    (said_waits setup x.command (said_of_outcome x) k all.0 waits)

-- ---- what is taken

one_more : (setup : Setup) (x : Option AsduAnswer) (xs : List AsduAnswer) → IfSome x (IsKnownAnswer setup)
    → AllByRecursion (IsKnownAnswer setup) xs → AllByRecursion (IsKnownAnswer setup) (answers_with x xs)
one_more setup None xs is all = all
one_more setup (Some x) xs is all = all-append (IsKnownAnswer setup) xs (x ∷ []) all (is, tt)

asdu_taken : (setup : Setup) (picture : List Observation) (asdu : Asdu) (k : Client)
    → AllByRecursion (IsKnownObservation setup) picture → WaitsKnown setup k
    → WaitsKnown setup (client_judging setup picture asdu (judged_asdu setup asdu) k)
asdu_taken setup picture asdu k all waits =
    let j : Judged = judged_asdu setup asdu in
    let is = asdu_judged_for setup asdu in
    record {
      answers = one_more setup (answered setup picture (is_pending k.rest) asdu j) k.answers
          (answer_at_once_known setup picture (is_pending k.rest) asdu j is all) waits.answers;
      queue = waits.queue;
      rest = rest_known setup picture j (is_asking j k) k is all waits.rest;
    }

session_with : (setup : Setup) (signal : Signal) (k : Client) → WaitsKnown setup k
    → WaitsKnown setup (client_with_session signal k)
session_with setup StartAct k waits = by (is_started k.stage)
  where
    by : (started : Bool) → WaitsKnown setup (cond started k (client_anew Started k))
    by true = waits
    by false = record { answers = tt; queue = tt; rest = tt }
session_with setup StopAct k waits = by (is_started k.stage)
  where
    by : (started : Bool) → WaitsKnown setup (cond started (client_anew Stopped k) k)
    by true = record { answers = tt; queue = tt; rest = tt }
    by false = waits
session_with setup StartCon k waits = waits
session_with setup StopCon k waits = waits
session_with setup TestAct k waits = waits
session_with setup TestCon k waits = waits

signal_taken : (setup : Setup) (moment : ℕ) (signal : Signal) (k : Client) → WaitsKnown setup k
    → WaitsKnown setup (client_with_signal moment signal k)
signal_taken setup moment signal k waits =
    let session = session_with setup signal k waits in
    record { answers = session.answers; queue = session.queue; rest = session.rest }

apdu_taken : (setup : Setup) (picture : List Observation) (moment : ℕ) (a : Apdu) (k : Client)
    → AllByRecursion (IsKnownObservation setup) picture → WaitsKnown setup k
    → WaitsKnown setup (client_taking setup picture moment a k)
apdu_taken setup picture moment (I ns nr asdu) k all waits =
    let taken = asdu_taken setup picture asdu k all waits in
    record { answers = taken.answers; queue = taken.queue; rest = taken.rest }
apdu_taken setup picture moment (S nr) k all waits =
    record { answers = waits.answers; queue = waits.queue; rest = waits.rest }
apdu_taken setup picture moment (U signal) k all waits = signal_taken setup moment signal k waits

command_answered : (setup : Setup) (said : Command → Said) (command : Option Command) (k : Client)
    → IfSome command (IsKnownCommand setup) → WaitsKnown setup k
    → WaitsKnown setup (client_answered said (event_taking command) k)
command_answered setup said None k known waits = waits
command_answered setup said (Some c) k known waits = said_waits setup c (said c) k known waits

took : (setup : Setup) (a : Apdu) (taking : Taking) (moment : ℕ) (k : Client)
    → AllByRecursion (IsKnownObservation setup) taking.picture → WaitsKnown setup k
    → WaitsKnown setup (client_answered taking.said (event_taking (command_in setup a))
    (client_taking setup taking.picture moment a k))
took setup a taking moment k all waits =
    command_answered setup taking.said (command_in setup a) (client_taking setup taking.picture moment a k)
    (command_known setup a) (apdu_taken setup taking.picture moment a k all waits)

-- ---- what is put out

gave : (setup : Setup) (clocks : Clocks) (moment : ℕ) (x : Sending) (k : Client) → WaitsKnown setup k
    → WaitsKnown setup (client_with_sent clocks moment x k)
gave setup clocks moment (sendings.Confirm signal) k waits =
    record { answers = waits.answers; queue = waits.queue; rest = waits.rest }
gave setup clocks moment sendings.Test k waits =
    record { answers = waits.answers; queue = waits.queue; rest = waits.rest }
gave setup clocks moment sendings.SFormat k waits =
    record { answers = waits.answers; queue = waits.queue; rest = waits.rest }
gave setup clocks moment (sendings.Answer answer) k waits = record {
  answers = all-drop (IsKnownAnswer setup) 1 k.answers waits.answers;
  queue = waits.queue;
  rest = waits.rest;
}
gave setup clocks moment (sendings.News x) k waits = record {
  answers = waits.answers;
  queue = all-drop (IsKnownObservation setup) (together clocks (line k)) k.queue waits.queue;
  rest = waits.rest;
}
gave setup clocks moment (sendings.Part part) k waits = record {
  answers = waits.answers;
  queue = waits.queue;
  rest = all-drop (IsKnownAsdu setup) (together clocks (line k)) k.rest waits.rest;
}

-- ---- lives

waits_first : (setup : Setup) (k : Client) → IsFresh setup k → AllByRecursion (IsKnownTurn setup) []
    → WaitsKnown setup k
waits_first setup k is all = nothing_waits setup k is.answers is.queue is.rest

waits_more : (setup : Setup) (t : Turn) (ts : List Turn) (k new : Client) → Lives setup ts k → Becomes setup t k new
    → (AllByRecursion (IsKnownTurn setup) ts → WaitsKnown setup k)
    → AllByRecursion (IsKnownTurn setup) (t ∷ ts) → WaitsKnown setup new
waits_more setup (Idle brought) ts k new lives is before all =
    subst (WaitsKnown setup) (sym is.becomes)
    (outcomes_come setup brought.outcomes (client_with_news brought.news k) all.0.1
    (news_come setup brought.news k all.0.0 (before all.1)))
waits_more setup Ends ts k new lives is before all =
    subst (WaitsKnown setup) (sym is) (record { answers = tt; queue = tt; rest = tt })
waits_more setup (Takes a taking) ts k new lives is before all =
    subst (WaitsKnown setup) (sym is.becomes) (took setup a taking is.moment k all.0 (before all.1))
waits_more setup (PutsOut said) ts k new lives is before all =
    subst (WaitsKnown setup) (sym is.becomes)
    (gave setup (station_clocks setup.station) is.moment is.sending k (before all.1))

pub waits_known : (setup : Setup) (ts : List Turn) (k : Client) → Lives setup ts k
    → AllByRecursion (IsKnownTurn setup) ts → WaitsKnown setup k
waits_known setup = lives_all setup (λ ts k. AllByRecursion (IsKnownTurn setup) ts → WaitsKnown setup k)
    (waits_first setup) (waits_more setup)

-- ---- the line

abbrev pub IsKnownSending : Setup → Sending → Type 0
IsKnownSending setup (sendings.Answer answer) = IsKnownAnswer setup answer
IsKnownSending setup (sendings.News x) = IsKnownObservation setup x
IsKnownSending setup (sendings.Part part) = IsKnownAsdu setup part
IsKnownSending setup _ = Unit {0}

pub line_known : (setup : Setup) (k : Client) → WaitsKnown setup k → AllByRecursion (IsKnownSending setup) (line k)
line_known setup k waits = line_so (IsKnownSending setup) k waits.answers waits.queue waits.rest
