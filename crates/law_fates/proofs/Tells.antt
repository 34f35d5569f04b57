-- In each step of a run clients are told what became of their orders.
use Rattle.std.proofs.Common.{◌≡◌, ℕ, suc, ◌+◌, ◌≤◌, Bool, true, false, cond, List, [], ◌∷◌, ◌++◌, length}
use Rattle.std.proofs.Common.{map, Option, Some, None, Result, Ok, Err, option_map, refl, sym, ap, subst, ◌∙◌, arith}
use Rattle.std.specs.Prelude.{option_and_then, slice_get}
use Rattle.std.specs.Option.{option_to_list}
use Rattle.std.proofs.lemmas.List.{map-append}
use Rattle.gw_model.specs.declared.control.Ended.{Ended}
use Rattle.gw_map.specs.Settings.{Setup}
use Rattle.dnp_master.specs.Answers.{operation_awaited}
use Rattle.dnp_master.specs.Master.{Master, ended_by_tick}
use Rattle.iec_apci.specs.declared.apdu.Apdu.{Apdu}
use Rattle.iec_apci.specs.declared.apdu.Apdu.TheVariants.{I, S, U}
use Rattle.iec_apci.specs.declared.apdu.Signal.TheVariants.{StartAct, StartCon, StopAct, StopCon, TestAct, TestCon}
use Rattle.gw_control.specs.declared.accepted.Accepted.{Accepted}
use Rattle.gw_control.specs.declared.answer.Outcome.{Outcome}
use Rattle.gw_control.specs.Controls.{Controls, outcome_ended_at}
use Rattle.gw_control.specs.Orders.{Outgoing, outcome_of, places}
use Rattle.gw_station.specs.declared.event.Event.{Event}
use Rattle.gw_station.specs.declared.event.Event.TheVariants as events
use Rattle.gw_station.specs.Client.{Client, is_timed_out}
use Rattle.gw_station.specs.Frames.{event_of}
use Rattle.dnp_master.specs.declared.fate.Fate.{Fate}
use Rattle.dnp_master.specs.declared.fate.Fate.TheVariants as fates
use Rattle.gw_steps.specs.declared.effects.OrderEnd.{OrderEnd}
use Rattle.gw_steps.specs.declared.step.Step.{Step}
use Rattle.gw_steps.specs.declared.step.Step.TheVariants as steps
use Rattle.gw_steps.specs.declared.step.Reply.{Reply}
use Rattle.gw_steps.specs.declared.step.StepFault.{StepFault}
use Rattle.gw_steps.specs.Controls.{controls_with_ended, ended_lost, outcome_ended, outcomes_ended, outcomes_lost}
use Rattle.gw_steps.specs.Effects.{Effects, answered, effects_of, effects_of_apdu, effects_of_event}
use Rattle.gw_steps.specs.Effects.{effects_of_tick, effects_with, end_at, fate_by, late, let_go}
use Rattle.gw_steps.specs.Effects.{lost, lost_waiting, no_effects, only, reported}
use Rattle.gw_steps.specs.Sound.{IsSoundState, LeavesSound}
use Rattle.gw_steps.specs.State.{State}
use Rattle.gw_steps.specs.Steps.{controls_closed, ended_late, is_accepting, latest, order_ended}
use Rattle.gw_steps.specs.Steps.{outcomes_of, outcomes_of_fragment, outcomes_of_loss, outcomes_of_tick}
use Rattle.gw_steps.specs.Runs.{Entry, state_after, unless_fault, AtEach}
use Rattle.gw_steps.proofs.Running.{last_place}
use Rattle.gw_steps.specs.Premises.{IsSoundRun}
use Rattle.law_history.proofs.Ended.{ended_there}
use Rattle.law_fates.specs.Told.{controls_then, told_by_outcome, TellsFates}
use Rattle.law_fates.proofs.Counts.{waiting_at, way_at}
use Rattle.law_fates.proofs.Leaving.{ways_stay}
use Rattle.law_fates.proofs.Lost.{few_wait, still_waiting}
use Rattle.law_fates.proofs.Says.{fragment_says, loss_says, tick_says}
use Rattle.law_fates.proofs.Telling.{all_fail, all_gone, given_told, told_append, told_ends, told_outcomes, waiting_told}

joined : (xs ys : List Outcome) (us vs : List (ℕ × Bool)) → told_outcomes xs ≡ us → told_outcomes ys ≡ vs
    → told_outcomes (xs ++ ys) ≡ us ++ vs
joined xs ys us vs first rest =
    map-append told_by_outcome xs ys
    ∙ (ap (λ (zs : List (ℕ × Bool)). zs ++ told_outcomes ys) first ∙ ap (λ (zs : List (ℕ × Bool)). us ++ zs) rest)

-- ---- an outstation is lost

loss_tells : (setup : Setup) (s : State) (o : ℕ) → IsSoundState setup s
    → told_outcomes (outcomes_of_loss s o) ≡ told_ends s.controls (lost s o)
loss_tells setup s o sound =
    let e : Option Ended = ended_lost (slice_get s.outstations o) in
    let q : Option Outgoing = slice_get s.controls.outgoing o in
    let v : Controls = controls_with_ended o e s.controls in
    let same : waiting_at (slice_get v.outgoing o) ≡ waiting_at q = still_waiting o e s.controls in
    let few : length (waiting_at (slice_get v.outgoing o)) ≤ places =
    subst (λ (xs : List Accepted). length xs ≤ places) (sym same)
    (few_wait s.controls.ordered o s.controls.outgoing sound.controls.orders) in
    joined (option_to_list (outcome_ended o e s.controls)) (outcomes_lost places o v)
    (told_ends s.controls (end_at o (Some fates.Lost) e q)) (told_ends s.controls (lost_waiting o q))
    (given_told s.controls o (Some fates.Lost) e q (loss_says (slice_get s.outstations o)) refl)
    (ap told_outcomes (all_fail places o v few ∙ ap (map (outcome_of false)) same)
    ∙ waiting_told s.controls.ordered s.controls o q refl sound.controls.orders)
    ∙ sym (told_append s.controls (end_at o (Some fates.Lost) e q) (lost_waiting o q))

-- ---- a tick

outcome_alike : (o : ℕ) (e : Option Ended) (v w : Controls) → slice_get v.outgoing o ≡ slice_get w.outgoing o
    → outcome_ended o e v ≡ outcome_ended o e w
outcome_alike o None v w same = refl
outcome_alike o (Some e) v w same = ap (outcome_ended_at e) same

none_ends : (o : ℕ) (fate : Option Fate) (e : Option Ended) → end_at o fate e None ≡ []
none_ends o None e = refl
none_ends o (Some fate) None = refl
none_ends o (Some fate) (Some e) = refl

none_late : (moment i : ℕ) (ms : List Master) → late i ms (map (ended_by_tick moment) ms) [] ≡ []
none_late moment i [] = refl
none_late moment i (m ∷ ms) = refl

late_first : (v w : Controls) (moment i : ℕ) (m : Master) (q : Option Outgoing)
    → slice_get w.outgoing i ≡ slice_get v.outgoing i → way_at (slice_get v.outgoing (0 + i)) ≡ way_at q
    → told_outcomes (option_to_list (outcome_ended i (ended_by_tick moment m) w))
    ≡ told_ends v (end_at i (option_map fates.Unanswered (operation_awaited m.exchange)) (ended_by_tick moment m) q)
late_first v w moment i m q same way =
    let place : i ≡ 0 + i = omega arith in
    ap (λ (y : Option Outcome). told_outcomes (option_to_list y)) (outcome_alike i (ended_by_tick moment m) w v same)
    ∙ given_told v i (option_map fates.Unanswered (operation_awaited m.exchange)) (ended_by_tick moment m) q
    (tick_says moment m)
    (ap (λ (j : ℕ). way_at (slice_get v.outgoing j)) place ∙ way)

-- of all outstations from one on, where those before it may have changed
late_tells : (v : Controls) (moment i : ℕ) (ms : List Master) (qs : List Outgoing) (w : Controls)
    → ((n : ℕ) → i ≤ n → slice_get w.outgoing n ≡ slice_get v.outgoing n)
    → ((n : ℕ) → way_at (slice_get v.outgoing (n + i)) ≡ way_at (slice_get qs n))
    → told_outcomes (outcomes_ended i (map (ended_by_tick moment) ms) w)
    ≡ told_ends v (late i ms (map (ended_by_tick moment) ms) qs)
late_tells v moment i [] qs w same ways = refl
late_tells v moment i (m ∷ ms) [] w same ways =
    let e : Option Ended = ended_by_tick moment m in
    let fate : Option Fate = option_map fates.Unanswered (operation_awaited m.exchange) in
    let after : Controls = controls_with_ended i e w in
    let rest : told_outcomes (outcomes_ended (suc i) (map (ended_by_tick moment) ms) after)
    ≡ told_ends v (late (suc i) ms (map (ended_by_tick moment) ms) []) =
    late_tells v moment (suc i) ms [] after
    (λ n le. ended_there i e w n (λ is. omega (arith, le, is)) ∙ same n (omega (arith, le)))
    (λ n. let place : n + suc i ≡ suc n + i = omega arith in
    ap (λ (j : ℕ). way_at (slice_get v.outgoing j)) place ∙ ways (suc n)) in
    joined (option_to_list (outcome_ended i e w)) (outcomes_ended (suc i) (map (ended_by_tick moment) ms) after) [] []
    (late_first v w moment i m None (same i (omega arith)) (ways 0) ∙ ap (told_ends v) (none_ends i fate e))
    (rest ∙ ap (told_ends v) (none_late moment (suc i) ms))
late_tells v moment i (m ∷ ms) (q ∷ qs) w same ways =
    let e : Option Ended = ended_by_tick moment m in
    let fate : Option Fate = option_map fates.Unanswered (operation_awaited m.exchange) in
    let after : Controls = controls_with_ended i e w in
    let ends : List OrderEnd = late (suc i) ms (map (ended_by_tick moment) ms) qs in
    let rest : told_outcomes (outcomes_ended (suc i) (map (ended_by_tick moment) ms) after) ≡ told_ends v ends =
    late_tells v moment (suc i) ms qs after
    (λ n le. ended_there i e w n (λ is. omega (arith, le, is)) ∙ same n (omega (arith, le)))
    (λ n. let place : n + suc i ≡ suc n + i = omega arith in
    ap (λ (j : ℕ). way_at (slice_get v.outgoing j)) place ∙ ways (suc n)) in
    joined (option_to_list (outcome_ended i e w)) (outcomes_ended (suc i) (map (ended_by_tick moment) ms) after)
    (told_ends v (end_at i fate e (Some q))) (told_ends v ends)
    (late_first v w moment i m (Some q) (same i (omega arith)) (ways 0)) rest
    ∙ sym (told_append v (end_at i fate e (Some q)) ends)

tick_tells : (s : State) (moment : ℕ)
    → told_outcomes (outcomes_of_tick s moment) ≡ told_ends (controls_closed s moment) (effects_of_tick s moment).ended
tick_tells s moment =
    let closed : List Bool = map (is_timed_out moment) s.clients in
    let v : Controls = controls_closed s moment in
    let qs : List Outgoing = s.controls.outgoing in
    let ends : List OrderEnd = late 0 s.outstations (ended_late s moment) qs in
    late_tells v moment 0 s.outstations qs v (λ n le. refl)
    (λ n. let place : n + 0 ≡ n = omega arith in
    ap (λ (j : ℕ). way_at (slice_get v.outgoing j)) place ∙ ways_stay 0 closed s.controls n)
    ∙ sym (told_append v (let_go closed 0 qs) ends
    ∙ ap (λ (zs : List (ℕ × Bool)). zs ++ told_ends v ends) (all_gone v closed 0 qs))

-- ---- an APDU: nothing is told

event_tells : (setup : Setup) (s : State) (moment c : ℕ) (apdu : Apdu) (event : Event)
    → [] ≡ told_ends s.controls (effects_of_event setup s moment c apdu event).ended
event_tells setup s moment c (I ns nr asdu) events.Taken = refl
event_tells setup s moment c (S nr) events.Taken = refl
event_tells setup s moment c (U StartAct) events.Taken = refl
event_tells setup s moment c (U StartCon) events.Taken = refl
event_tells setup s moment c (U StopAct) events.Taken = sym (all_gone s.controls (only c) 0 s.controls.outgoing)
event_tells setup s moment c (U StopCon) events.Taken = refl
event_tells setup s moment c (U TestAct) events.Taken = refl
event_tells setup s moment c (U TestCon) events.Taken = refl
event_tells setup s moment c apdu (events.Command command) = refl
event_tells setup s moment c apdu (events.Closed why) = sym (all_gone s.controls (only c) 0 s.controls.outgoing)

apdu_tells : (setup : Setup) (s : State) (moment c : ℕ) (apdu : Apdu) (k : Option Client)
    → [] ≡ told_ends s.controls (effects_of_apdu setup s moment c apdu k).ended
apdu_tells setup s moment c apdu None = refl
apdu_tells setup s moment c apdu (Some k) = event_tells setup s moment c apdu (event_of setup apdu k)

-- ---- each step

step_tells : (setup : Setup) (s : State) (step : Step) → IsSoundState setup s
    → told_outcomes (outcomes_of s step) ≡ told_ends (controls_then s step) (effects_of setup s step).ended
step_tells setup s (steps.OutstationUp o m) sound = refl
step_tells setup s (steps.OutstationDown o m) sound = loss_tells setup s o sound
step_tells setup s (steps.Fragment f m) sound = by (is_accepting s f)
  where
    told : Effects
    told = record no_effects { reported = Some (reported s f); ended = answered s f }

    by : (taken : Bool)
        → told_outcomes (cond taken (outcomes_of_fragment s f) [])
        ≡ told_ends s.controls (cond taken told no_effects).ended
    by true =
        given_told s.controls f.outstation (option_and_then (fate_by f) (slice_get s.outstations f.outstation))
        (order_ended s f) (slice_get s.controls.outgoing f.outstation)
        (fragment_says f (slice_get s.outstations f.outstation)) refl
    by false = refl
step_tells setup s (steps.Poll o m wall) sound = refl
step_tells setup s (steps.Tick m) sound = tick_tells s (latest s m)
step_tells setup s (steps.ClientUp c m) sound = refl
step_tells setup s (steps.ClientDown c m) sound = sym (all_gone s.controls (only c) 0 s.controls.outgoing)
step_tells setup s (steps.Frame c apdu m) sound = apdu_tells setup s (latest s m) c apdu (slice_get s.clients c)
step_tells setup s (steps.Pump c m) sound = refl

entry_tells : (setup : Setup) (s : State) (step : Step) (reply : Result Reply StepFault) → IsSoundState setup s
    → told_outcomes (unless_fault [] (λ _. outcomes_of s step) reply)
    ≡ told_ends (controls_then s step) (effects_with setup s step reply).ended
entry_tells setup s step (Ok r) sound = step_tells setup s step sound
entry_tells setup s step (Err fault) sound = refl

-- ---- each run

each : (setup : Setup) (past : List Entry) → AtEach (LeavesSound setup) past → AtEach (TellsFates setup) past
each setup [] sound = tt
each setup (e ∷ past) sound = (
  entry_tells setup (state_after setup past) e.step e.reply (last_place (LeavesSound setup) past sound.1),
  each setup past sound.1,
)

pub fates_told : (setup : Setup) (past : List Entry) → IsSoundRun setup past → AtEach (TellsFates setup) past
fates_told setup past run = each setup past run.sound
