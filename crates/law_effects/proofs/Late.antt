-- At each point of a run the last step told of the outstations whose requests are late by the history.
use Rattle.std.proofs.Common.{◌≡◌, ℕ, zero, suc, ◌+◌, ◌<◌, Bool, true, false, cond, ◌&&◌, List, [], ◌∷◌, length}
use Rattle.std.proofs.Common.{map, Option, Some, None, Result, Ok, Err, option_map, refl, sym, ap, ◌∙◌, arith}
use Rattle.std.specs.Prelude.{is_none, is_some, slice_get}
use Rattle.std.proofs.lemmas.Bool.{eq-eqb, ne_eqb}
use Rattle.gw_model.specs.declared.poll.Poll.{Poll}
use Rattle.gw_entries.specs.Setup.{OutstationSetup}
use Rattle.gw_map.specs.Settings.{Setup}
use Rattle.dnp_app.specs.Response.{Fragment}
use Rattle.dnp_master.specs.declared.exchange.Exchange.{Exchange}
use Rattle.dnp_master.specs.declared.exchange.Exchange.TheVariants.{Idle, Waiting, Selected}
use Rattle.dnp_master.specs.Answers.{is_exchange_late, is_unanswered}
use Rattle.dnp_master.specs.Master.{Master, is_late}
use Rattle.iec_apci.specs.declared.apdu.Apdu.{Apdu}
use Rattle.gw_station.specs.declared.event.Event.{Event}
use Rattle.gw_station.specs.Client.{Client}
use Rattle.gw_station.specs.Frames.{event_of}
use Rattle.gw_steps.specs.declared.step.Step.{Step}
use Rattle.gw_steps.specs.declared.step.Step.TheVariants as steps
use Rattle.gw_steps.specs.declared.step.Reply.{Reply}
use Rattle.gw_steps.specs.declared.step.StepFault.{StepFault}
use Rattle.gw_steps.specs.Effects.{answered, effects_of, effects_of_apdu, effects_of_event}
use Rattle.gw_steps.specs.Effects.{ending_of, ends_session, judged, no_effects, reported, where_so}
use Rattle.gw_steps.specs.State.{State}
use Rattle.gw_steps.specs.Steps.{is_accepting, latest}
use Rattle.gw_steps.specs.Runs.{AtEach, Entry, state_after}
use Rattle.gw_steps.proofs.Running.{entry, last_place}
use Rattle.law_history.specs.Accepted.{AskedRequest, asked_at, asked_of}
use Rattle.gw_steps.specs.Premises.{IsSoundRun}
use Rattle.law_history.proofs.Masters.{AwaitsAs, MasterTied}
use Rattle.law_history.proofs.Places.{Place, places}
use Rattle.law_history.proofs.Tied.{told_moment}
use Rattle.law_orders.specs.Pending.{is_late_at}
use Rattle.law_fates.specs.Fates.{effects_by}
use Rattle.law_effects.specs.Rousing.{is_among}
use Rattle.law_effects.specs.Lateness.{TellsLate, is_late_by, is_late_in}

-- ---- where it is so

abbrev so_at : (Master → Bool) → Option Master → Bool
so_at f None = false
so_at f (Some m) = f m

-- those from one on are no earlier ones
none_before : (p i : ℕ) (bs : List Bool) → p < i → is_among p (where_so i bs) ≡ false
none_before p i [] lt = refl
none_before p i (true ∷ bs) lt =
    rw (ne_eqb i p (λ is. omega (arith, lt, is))) (none_before p (suc i) bs (omega (arith, lt)))
none_before p i (false ∷ bs) lt = none_before p (suc i) bs (omega (arith, lt))

where_told : (f : Master → Bool) (p n i : ℕ) (ms : List Master) → p ≡ n + i
    → is_among p (where_so i (map f ms)) ≡ so_at f (slice_get ms n)
where_told f p n i [] at = refl
where_told f p zero i (m ∷ ms) at = by (f m)
  where
    by : (b : Bool) → is_among p (cond b (i ∷ where_so (suc i) (map f ms)) (where_so (suc i) (map f ms))) ≡ b
    by true = rw (eq-eqb i p (omega (arith, at))) refl
    by false = none_before p (suc i) (map f ms) (omega (arith, at))
where_told f p (suc n) i (m ∷ ms) at = by (f m) (where_told f p n (suc i) ms (omega (arith, at)))
  where
    by : (b : Bool) → is_among p (where_so (suc i) (map f ms)) ≡ so_at f (slice_get ms n)
        → is_among p (cond b (i ∷ where_so (suc i) (map f ms)) (where_so (suc i) (map f ms)))
        ≡ so_at f (slice_get ms n)
    by true rest = rw (ne_eqb i p (λ is. omega (arith, at, is))) rest
    by false rest = rest

-- ---- what is late

late_asked : (moment : ℕ) (poll : Poll) (ex : Exchange) (asked : Option AskedRequest) → AwaitsAs ex asked
    → is_exchange_late moment poll ex ≡ (is_some asked && is_none (asked_at moment (Some poll) asked))
late_asked moment poll Idle None alike = refl
late_asked moment poll Idle (Some a) alike = absurd alike
late_asked moment poll (Waiting w) None alike = absurd alike
late_asked moment poll (Waiting w) (Some a) alike =
    ap (is_late moment poll) alike.since ∙ by (is_late moment poll a.since)
  where
    by : (late : Bool) → late ≡ is_none (cond late None (Some a))
    by true = refl
    by false = refl
late_asked moment poll (Selected order) None alike = refl
late_asked moment poll (Selected order) (Some a) alike = absurd alike

-- where there is no such outstation nothing is
none_late : (moment : ℕ) (asked : Option AskedRequest) → is_some asked && is_none (asked_at moment None asked) ≡ false
none_late moment None = refl
none_late moment (Some a) = refl

none_there : {A B : Type 0} (xs : List A) (ys : List B) (n : ℕ) → length xs ≡ length ys → slice_get xs n ≡ None
    → slice_get ys n ≡ None
none_there xs [] n same none = refl
none_there [] (y ∷ ys) n same none = absurd (omega (arith, same))
none_there (x ∷ xs) (y ∷ ys) zero same none = absurd (let no : ⊥ = cc in no)
none_there (x ∷ xs) (y ∷ ys) (suc n) same none = none_there xs ys n (omega (arith, same)) none

late_at : (setup : Setup) (past : List Entry) (moment o : ℕ) → Place setup past
    → so_at (is_unanswered moment) (slice_get (state_after setup past).outstations o) ≡ is_late_at setup o past moment
late_at setup past moment o k = by (slice_get s.outstations o) refl (k.known.tied.outstations o)
  where
    s : State
    s = state_after setup past

    asked : Option AskedRequest
    asked = asked_of setup o past

    by : (m : Option Master) → slice_get s.outstations o ≡ m → MasterTied setup o past m
        → so_at (is_unanswered moment) m ≡ is_late_at setup o past moment
    by None none tied =
        sym (ap (λ (x : Option OutstationSetup).
        is_some asked && is_none (asked_at moment (option_map (λ (it : OutstationSetup). it.poll) x) asked))
        (none_there s.outstations setup.outstations o k.known.sound.masters none)
        ∙ none_late moment asked)
    by (Some m) there tied =
        late_asked moment m.poll m.exchange asked tied.awaits
        ∙ ap (λ (x : Option Poll). is_some asked && is_none (asked_at moment x asked)) (sym tied.poll)

-- ---- each step

event_quiet : (setup : Setup) (s : State) (moment c : ℕ) (apdu : Apdu) (event : Event)
    → (effects_of_event setup s moment c apdu event).unanswered ≡ []
event_quiet setup s moment c apdu event = by (ends_session apdu event)
  where
    by : (ends : Bool)
        → (cond ends (ending_of s c) (record no_effects { command = judged setup s moment c event })).unanswered ≡ []
    by true = refl
    by false = refl

apdu_quiet : (setup : Setup) (s : State) (moment c : ℕ) (apdu : Apdu) (k : Option Client)
    → (effects_of_apdu setup s moment c apdu k).unanswered ≡ []
apdu_quiet setup s moment c apdu None = refl
apdu_quiet setup s moment c apdu (Some k) = event_quiet setup s moment c apdu (event_of setup apdu k)

fragment_quiet : (setup : Setup) (s : State) (f : Fragment) (m : ℕ)
    → (effects_of setup s (steps.Fragment f m)).unanswered ≡ []
fragment_quiet setup s f m = by (is_accepting s f)
  where
    by : (taken : Bool)
        → (cond taken (record no_effects { reported = Some (reported s f); ended = answered s f }) no_effects).unanswered
        ≡ []
    by true = refl
    by false = refl

step_late : (setup : Setup) (past : List Entry) (step : Step) (o : ℕ) → Place setup past
    → is_among o (effects_of setup (state_after setup past) step).unanswered ≡ is_late_in setup o past step
step_late setup past (steps.OutstationUp p m) o k = refl
step_late setup past (steps.OutstationDown p m) o k = refl
step_late setup past (steps.Fragment f m) o k = ap (is_among o) (fragment_quiet setup (state_after setup past) f m)
step_late setup past (steps.Poll p m wall) o k = refl
step_late setup past (steps.ClientUp c m) o k = refl
step_late setup past (steps.ClientDown c m) o k = refl
step_late setup past (steps.Frame c apdu m) o k =
    let s : State = state_after setup past in
    ap (is_among o) (apdu_quiet setup s (latest s m) c apdu (slice_get s.clients c))
step_late setup past (steps.Pump c m) o k = refl
step_late setup past (steps.Tick m) o k =
    let s : State = state_after setup past in
    where_told (is_unanswered (latest s m)) o o 0 s.outstations (omega arith)
    ∙ (late_at setup past (latest s m) o k
    ∙ ap (is_late_at setup o past) (told_moment setup past s m k.known.tied))

entry_late : (setup : Setup) (past : List Entry) (step : Step) (reply : Result Reply StepFault) (o : ℕ)
    → Place setup past
    → is_among o (effects_by setup past (entry step reply)).unanswered ≡ is_late_by setup o past (entry step reply)
entry_late setup past step (Ok r) o k = step_late setup past step o k
entry_late setup past step (Err fault) o k = refl

-- ---- each run

each : (setup : Setup) (past : List Entry) → AtEach (Place setup) past → AtEach (TellsLate setup) past
each setup [] at = tt
each setup (e ∷ past) at = (
  λ o. entry_late setup past e.step e.reply o (last_place (Place setup) past at.1),
  each setup past at.1,
)

pub late_told : (setup : Setup) (past : List Entry) → IsSoundRun setup past → AtEach (TellsLate setup) past
late_told setup past run = each setup past (places setup past run)
