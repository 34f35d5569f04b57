-- Confirmations and answers find places: what finds none closes the connection.
use Rattle.std.proofs.Common.{◌≡◌, ℕ, ◌+◌, ◌≤◌, ◌==◌, Bool, true, false, List, []}
use Rattle.std.proofs.Common.{◌∷◌, ◌++◌, length, Option, Some, None, refl, arith, inl, inr}
use Rattle.std.specs.Prelude.{if◌then◌else◌, option_map, IfSome}
use Rattle.std.proofs.lemmas.List.{length-append}
use Rattle.std.proofs.lemmas.Bool.{cases_Bool, leb-false, ltb-false}
use Rattle.gw_model.specs.First.{when, first_of}
use Rattle.gw_model.specs.declared.observation.Observation.{Observation}
use Rattle.gw_map.specs.Settings.{Setup}
use Rattle.iec_apci.specs.declared.apdu.Asdu.{Asdu}
use Rattle.iec_apci.specs.declared.apdu.Signal.{Signal}
use Rattle.iec_apci.specs.declared.apdu.Signal.TheVariants.{StartAct, StartCon, StopAct, StopCon, TestAct, TestCon}
use Rattle.iec_apci.specs.Apdu.{confirmation_of}
use Rattle.iec_window.specs.Counts.{WindowCounts}
use Rattle.iec_command.specs.declared.command.Command.{Command}
use Rattle.iec_command.specs.declared.command.Action.{Action}
use Rattle.iec_command.specs.declared.command.Action.TheVariants as actions
use Rattle.gw_judge.specs.Acceptable.{object_for}
use Rattle.gw_judge.specs.Judging.{is_execute}
use Rattle.gw_judge.specs.declared.judging.Judged.{Judged}
use Rattle.gw_judge.specs.declared.judging.Judged.TheVariants.{Malformed, Refuse, Accepted}
use Rattle.gw_answers.specs.declared.outgoing.AsduAnswer.{AsduAnswer}
use Rattle.gw_answers.specs.declared.outgoing.AsduAnswer.TheVariants.{Made}
use Rattle.gw_answers.specs.declared.outgoing.OwnAsdu.TheVariants as outgoing
use Rattle.gw_answers.specs.declared.outgoing.OwnAsdu.{OwnAsdu}
use Rattle.gw_answers.specs.Interrogations.{is_accepted_act, is_general}
use Rattle.gw_answers.specs.Answers.{places_for, refused_act, shown_at, answered_action, answered, command_by, control_command}
use Rattle.iec_apci.specs.declared.why.Why.TheVariants.{Flooded}
use Rattle.gw_station.specs.Client.{Client, is_started}
use Rattle.gw_station.specs.Answers.{is_asking, is_pending, answers_with, client_judging, older_with, places, places_taken, rest_with}
use Rattle.gw_station.specs.Frames.{floods, closes_judged, confirmations_with, event_taking, HasPlace}
use Rattle.gw_station.proofs.Opens.{open_i}

-- ---- nothing closes

-- a control function that is taken finds a place
pub not_flooded : (b : Bool) → first_of (when b Flooded ∷ []) ≡ None → b ≡ false
not_flooded true e = absurd cc
not_flooded false e = refl

-- ---- confirmations

one_more_signal : (waiting : List Signal) (signal : Signal) → length waiting ≤ 31 → length (waiting ++ signal ∷ []) ≤ 32
one_more_signal waiting signal few = omega (arith, length-append waiting (signal ∷ []))

pub confirmations_few : (signal : Signal) (c : Client) → floods signal c ≡ false → length c.confirmations ≤ 32
    → length (confirmations_with (confirmation_of signal) c.confirmations) ≤ 32
confirmations_few StartAct c fits few =
    one_more_signal c.confirmations StartCon (omega (arith, leb-false 32 (length c.confirmations) fits))
confirmations_few StopAct c fits few =
    one_more_signal c.confirmations StopCon (omega (arith, leb-false 32 (length c.confirmations) fits))
confirmations_few TestAct c fits few =
    one_more_signal c.confirmations TestCon (omega (arith, leb-false 32 (length c.confirmations) fits))
confirmations_few StartCon c fits few = few
confirmations_few StopCon c fits few = few
confirmations_few TestCon c fits few = few

-- ---- answers

at_least_one : (two : Bool) → 1 ≤ (if two then 2 else 1)
at_least_one true = omega arith
at_least_one false = omega arith

-- an interrogation that isn't accepted, and so gets an answer
refused_needs : (setup : Setup) (pending : Bool) (c : Command)
    → IfSome (refused_act setup pending c) (λ _. 1 ≤ places_for pending (Accepted c))
refused_needs setup pending c = elim (cases_Bool (is_accepted_act pending c)) [
  | inl accepted ↦ rw accepted tt
  | inr refused ↦ rw refused (at_least_one (is_execute c))
]

-- what asks for one point is no interrogation
not_general : (pending : Bool) (c : Command) (action : Action) → c.action ≡ action → is_general action ≡ false
    → is_accepted_act pending c ≡ false
not_general pending c action e single = elim (cases_Bool (c.cause == 6)) [
  | inl is ↦ rw (is, e, single) refl
  | inr isnt ↦ rw isnt refl
]

read_needs : (pending : Bool) (c : Command) (shown : Option Observation) → c.action ≡ actions.Read
    → IfSome (option_map (λ x. Made (outgoing.Observation 5 c.originator x)) shown)
    (λ _. 1 ≤ places_for pending (Accepted c))
read_needs pending c None e = tt
read_needs pending c (Some x) e = rw (not_general pending c actions.Read e refl) (at_least_one (is_execute c))

action_needs : (setup : Setup) (picture : List Observation) (pending : Bool) (c : Command) (action : Action)
    → c.action ≡ action
    → IfSome (answered_action setup picture pending c action) (λ _. 1 ≤ places_for pending (Accepted c))
action_needs setup picture pending c (actions.Interrogation qualifier) e = refused_needs setup pending c
action_needs setup picture pending c (actions.CounterInterrogation qualifier) e = refused_needs setup pending c
action_needs setup picture pending c actions.Read e = read_needs pending c (shown_at setup picture (object_for c)) e
action_needs setup picture pending c (actions.Single x) e = tt
action_needs setup picture pending c (actions.Double x) e = tt
action_needs setup picture pending c (actions.Setpoint x) e = tt

-- what gets an answer needs a place
answered_needs : (setup : Setup) (picture : List Observation) (pending : Bool) (asdu : Asdu) (j : Judged)
    → IfSome (answered setup picture pending asdu j) (λ _. 1 ≤ places_for pending j)
answered_needs setup picture pending asdu Malformed = tt
answered_needs setup picture pending asdu (Refuse cause execute) = at_least_one execute
answered_needs setup picture pending asdu (Accepted c) = action_needs setup picture pending c c.action refl

answers_within : (answer : Option AsduAnswer) (waiting : List AsduAnswer) (n : ℕ) → IfSome answer (λ _. 1 ≤ n)
    → length (answers_with answer waiting) ≤ length waiting + n
answers_within None waiting n needs = omega arith
answers_within (Some answer) waiting n needs = omega (arith, needs, length-append waiting (answer ∷ []))

-- an ASDU for whose answer there are places
pub answers_few : (setup : Setup) (picture : List Observation) (ns nr : ℕ) (asdu : Asdu) (j : Judged) (c : Client)
    → first_of (closes_judged ns nr j c) ≡ None
    → places_taken (client_judging setup picture asdu j c) ≤ places
answers_few setup picture ns nr asdu j c taken =
    let fits : places_taken c + places_for (is_pending c.rest) j ≤ places =
    ltb-false places (places_taken c + places_for (is_pending c.rest) j) (open_i ns nr j c taken).places in
    let answer = answered setup picture (is_pending c.rest) asdu j in
    omega (arith, fits, answers_within answer c.answers _ (answered_needs setup picture (is_pending c.rest) asdu j))

-- ---- commands for controls

-- one is no interrogation, and isn't answered at once
placed : (setup : Setup) (picture : List Observation) (k : Client) (window : WindowCounts) (older : ℕ)
    (rest : List OwnAsdu) (c : Command) (action : Action)
    → c.action ≡ action → is_started k.stage ≡ true
    → places_taken k + places_for (is_pending k.rest) (Accepted c) ≤ places
    → HasPlace (event_taking (control_command c action)) (record k {
      window = window;
      answers = answers_with (answered_action setup picture (is_pending k.rest) c action) k.answers;
      older = older;
      rest = rest;
    })
placed setup picture k window older rest c (actions.Single x) e started fits =
    (started, rw (not_general (is_pending k.rest) c (actions.Single x) e refl) at fits)
placed setup picture k window older rest c (actions.Double x) e started fits =
    (started, rw (not_general (is_pending k.rest) c (actions.Double x) e refl) at fits)
placed setup picture k window older rest c (actions.Setpoint x) e started fits =
    (started, rw (not_general (is_pending k.rest) c (actions.Setpoint x) e refl) at fits)
placed setup picture k window older rest c (actions.Interrogation qualifier) e started fits = tt
placed setup picture k window older rest c (actions.CounterInterrogation qualifier) e started fits = tt
placed setup picture k window older rest c actions.Read e started fits = tt

-- its answer finds a place, and two where it is to be executed
pub has_place : (setup : Setup) (picture : List Observation) (ns nr : ℕ) (asdu : Asdu) (j : Judged) (k : Client)
    (window : WindowCounts)
    → first_of (closes_judged ns nr j k) ≡ None
    → HasPlace (event_taking (command_by j)) (record (client_judging setup picture asdu j k) { window = window })
has_place setup picture ns nr asdu Malformed k window taken = tt
has_place setup picture ns nr asdu (Refuse cause execute) k window taken = tt
has_place setup picture ns nr asdu (Accepted c) k window taken =
    let admits = open_i ns nr (Accepted c) k taken in
    placed setup picture k window (older_with (Accepted c) (is_asking (Accepted c) k) k)
    (rest_with setup picture (Accepted c) (is_asking (Accepted c) k) k) c c.action refl admits.started
    (ltb-false places (places_taken k + places_for (is_pending k.rest) (Accepted c)) admits.places)
