-- At each point of a run the last step told of the sessions that it ended.
use Rattle.std.proofs.Common.{◌≡◌, ℕ, zero, suc, ◌<◌, Bool, true, false, cond, ◌&&◌, List}
use Rattle.std.proofs.Common.{[], ◌∷◌, length, map, Option, Some, None, Result, Ok, Err}
use Rattle.std.proofs.Common.{option_map, refl, sym, ap, subst, ◌∙◌, arith, inl, inr}
use Rattle.std.specs.Prelude.{◌==◌, replicate, slice_get}
use Rattle.std.proofs.lemmas.Bool.{cases_eq, eq-eqb, eqb-true, ne_eqb}
use Rattle.std.proofs.lemmas.List.{length-map}
use Rattle.std.proofs.lemmas.Option.{slice_get_within}
use Rattle.gw_model.specs.Places.{change}
use Rattle.gw_map.specs.Settings.{Setup}
use Rattle.gw_picture.proofs.Lists.{change-here, change-length, change-there}
use Rattle.dnp_app.specs.Response.{Fragment}
use Rattle.iec_apci.specs.declared.apdu.Apdu.{Apdu}
use Rattle.iec_apci.specs.declared.apdu.Apdu.TheVariants.{I, S, U}
use Rattle.iec_apci.specs.declared.apdu.Signal.{Signal}
use Rattle.iec_apci.specs.declared.apdu.Signal.TheVariants.{StartAct, StartCon, StopAct, StopCon, TestAct, TestCon}
use Rattle.iec_command.specs.declared.command.Command.{Command}
use Rattle.gw_station.specs.declared.event.Event.{Event}
use Rattle.gw_station.specs.declared.event.Event.TheVariants as events
use Rattle.iec_apci.specs.declared.why.Why.{Why}
use Rattle.gw_station.specs.Client.{Client, is_timed_out, is_up}
use Rattle.gw_station.specs.Frames.{close_of, command_in, event_by, event_of}
use Rattle.gw_steps.specs.declared.step.Step.{Step}
use Rattle.gw_steps.specs.declared.step.Step.TheVariants as steps
use Rattle.gw_steps.specs.declared.step.Reply.{Reply}
use Rattle.gw_steps.specs.declared.step.Reply.TheVariants as replies
use Rattle.gw_steps.specs.declared.step.StepFault.{StepFault}
use Rattle.gw_steps.specs.declared.step.StepFault.TheVariants.{NoClient}
use Rattle.gw_steps.specs.Effects.{Effects, answered as answered_ends, dropped_of, effects_of}
use Rattle.gw_steps.specs.Effects.{effects_of_apdu, effects_of_event, ending_of, ends_session as event_ends}
use Rattle.gw_steps.specs.Effects.{is_so, judged, no_client, no_effects, only, or_offered, reported}
use Rattle.gw_steps.specs.Queries.{dropped_at}
use Rattle.gw_steps.specs.State.{State}
use Rattle.gw_steps.specs.Steps.{Allowed, after, bits_of, can_be_counted, client_reply, fault_of}
use Rattle.gw_steps.specs.Steps.{is_accepting, latest, needs, reply_of_event, reply_to}
use Rattle.gw_steps.specs.Runs.{AtEach, Entry, IsRun, state_after}
use Rattle.gw_steps.proofs.Inversion.{answered, who_is_up}
use Rattle.gw_steps.proofs.Running.{entry}
use Rattle.law_history.specs.Life.{has_bit}
use Rattle.gw_steps.specs.Premises.{IsSoundRun}
use Rattle.law_history.proofs.Bits.{bit_at, bit_told}
use Rattle.law_clients.proofs.Clients.{eight_clients}
use Rattle.law_orders.specs.Sessions.{ends_by, ends_session}
use Rattle.law_effects.specs.Endings.{TellsEnds, TellsEndsBy, count_at}

-- ---- words for each client

-- what the reply and the effects of one say
pub record Tells (ends : Bool) (k : Option Client) (due : Option Bool) (dropped : Option ℕ) : Type 0 where
  pub due_is : ends ≡ true → is_so due ≡ true
  pub dropped_is : count_at dropped ≡ cond ends (dropped_at k) 0

nothing_at : (n c : ℕ) → count_at (slice_get (replicate n 0) c) ≡ 0
nothing_at zero c = refl
nothing_at (suc n) zero = refl
nothing_at (suc n) (suc c) = nothing_at n c

something_at : {A : Type 0} (x : A) (n c : ℕ) → c < n → slice_get (replicate n x) c ≡ Some x
something_at x zero c lt = absurd (omega (arith, lt))
something_at x (suc n) zero lt = refl
something_at x (suc n) (suc c) lt = something_at x n c (omega (arith, lt))

none_ends : (k : Option Client) (due : Option Bool) (c : ℕ) → Tells false k due (slice_get no_effects.dropped c)
none_ends k due c = record { due_is = λ is. absurd (let no : ⊥ = cc in no); dropped_is = nothing_at 8 c }

-- still told where something may be put out besides
or_so : (moment c : ℕ) (bs : List Bool) (ks : List Client) → length bs ≡ length ks → is_so (slice_get bs c) ≡ true
    → is_so (slice_get (or_offered moment bs ks) c) ≡ true
or_so moment c [] ks many so = absurd (let no : ⊥ = cc in no)
or_so moment c (b ∷ bs) [] many so = absurd (omega (arith, many))
or_so moment zero (b ∷ bs) (k ∷ ks) many so = rw so refl
or_so moment (suc c) (b ∷ bs) (k ∷ ks) many so = or_so moment c bs ks (omega (arith, many)) so

-- ---- one session ends

one_ends : (moment c d : ℕ) (k : Client) (ks new : List Client) → slice_get ks d ≡ Some k → length ks ≡ 8
    → length new ≡ 8
    → Tells (c == d) (slice_get ks c) (slice_get (or_offered moment (only d) new) c)
    (slice_get (change d (λ _. dropped_at (slice_get ks d)) no_effects.dropped) c)
one_ends moment c d k ks new at eight still = elim (cases_eq d c) [
  | inl e ↦ subst (λ (x : ℕ). Tells (x == d) (slice_get ks x) (slice_get (or_offered moment (only d) new) x)
      (slice_get (change d (λ _. dropped_at (slice_get ks d)) no_effects.dropped) x)) e own
  | inr ne ↦ record {
    due_is = λ is. absurd (ne (sym (eqb-true c d is)));
    dropped_is =
        ap count_at (change-there d c (λ (_ : ℕ). dropped_at (slice_get ks d)) no_effects.dropped ne)
        ∙ (nothing_at 8 c
        ∙ sym (ap (λ (b : Bool). cond b (dropped_at (slice_get ks c)) 0) (ne_eqb c d (λ is. ne (sym is)))));
  }
]
  where
    within : d < 8
    within = let few : d < length ks = slice_get_within ks d k at in omega (arith, few, eight)

    own : Tells (d == d) (slice_get ks d) (slice_get (or_offered moment (only d) new) d)
        (slice_get (change d (λ _. dropped_at (slice_get ks d)) no_effects.dropped) d)
    own = record {
      due_is = λ is. or_so moment d (only d) new (change-length d (λ (_ : Bool). true) no_client ∙ sym still)
          (ap is_so (change-here d (λ (_ : Bool). true) no_client
          ∙ ap (option_map (λ (_ : Bool). true)) (something_at false 8 d within)));
      dropped_is =
          ap count_at (change-here d (λ (_ : ℕ). dropped_at (slice_get ks d)) no_effects.dropped
          ∙ ap (option_map (λ (_ : ℕ). dropped_at (slice_get ks d))) (something_at 0 8 d within))
          ∙ sym (ap (λ (b : Bool). cond b (dropped_at (slice_get ks d)) 0) (eq-eqb d d refl));
    }

-- ---- an APDU

-- what it does to its client's session, as the reply has it
ending : (setup : Setup) (apdu : Apdu) (k : Client)
    → ends_by (reply_of_event (event_of setup apdu k)) apdu ≡ event_ends apdu (event_of setup apdu k)
ending setup apdu k = by apdu (close_of setup apdu k)
  where
    signal : (x : Signal) → ends_by replies.Taken (U x) ≡ event_ends (U x) events.Taken
    signal StartAct = refl
    signal StartCon = refl
    signal StopAct = refl
    signal StopCon = refl
    signal TestAct = refl
    signal TestCon = refl

    information : (a : Apdu) (command : Option Command) → ends_by replies.Taken a ≡ false → event_ends a events.Taken ≡ false
        → ends_by (reply_of_event (event_by None command)) a ≡ event_ends a (event_by None command)
    information a None no_end none = no_end ∙ sym none
    information a (Some command) no_end none = no_end

    by : (a : Apdu) (why : Option Why)
        → ends_by (reply_of_event (event_by why (command_in setup a))) a ≡ event_ends a (event_by why (command_in setup a))
    by a (Some why) = refl
    by (I ns nr asdu) None = information (I ns nr asdu) (command_in setup (I ns nr asdu)) refl refl
    by (S nr) None = refl
    by (U x) None = signal x

framed : (setup : Setup) (s : State) (now moment c d : ℕ) (apdu : Apdu) (event : Event) (k : Client) (new : List Client)
    → slice_get s.clients d ≡ Some k → length s.clients ≡ 8 → length new ≡ 8
    → Tells (event_ends apdu event && (c == d)) (slice_get s.clients c)
    (slice_get (or_offered now (effects_of_event setup s moment d apdu event).due_clients new) c)
    (slice_get (effects_of_event setup s moment d apdu event).dropped c)
framed setup s now moment c d apdu event k new at eight still = by (event_ends apdu event)
  where
    doing : Bool → Effects
    doing ends = cond ends (ending_of s d) (record no_effects { command = judged setup s moment d event })

    by : (ends : Bool)
        → Tells (ends && (c == d)) (slice_get s.clients c) (slice_get (or_offered now (doing ends).due_clients new) c)
        (slice_get (doing ends).dropped c)
    by true = one_ends now c d k s.clients new at eight still
    by false = none_ends (slice_get s.clients c) (slice_get (or_offered now no_client new) c) c

-- ---- a tick

dropped_told : (moment c : ℕ) (ks : List Client)
    → count_at (slice_get (dropped_of (map (is_timed_out moment) ks) ks) c)
    ≡ cond (bit_at c (map (is_timed_out moment) ks)) (dropped_at (slice_get ks c)) 0
dropped_told moment c [] = refl
dropped_told moment zero (k ∷ ks) = refl
dropped_told moment (suc c) (k ∷ ks) = dropped_told moment c ks

ticked : (s : State) (now moment c : ℕ) (new : List Client) → length s.clients ≡ 8 → length new ≡ 8
    → Tells (has_bit c (bits_of (map (is_timed_out moment) s.clients))) (slice_get s.clients c)
    (slice_get (or_offered now (map (is_timed_out moment) s.clients) new) c)
    (slice_get (dropped_of (map (is_timed_out moment) s.clients) s.clients) c)
ticked s now moment c new eight still =
    let closed : List Bool = map (is_timed_out moment) s.clients in
    let bit : has_bit c (bits_of closed) ≡ bit_at c closed = bit_told closed c in
    record {
      due_is = λ is. or_so now c closed new (length-map s.clients (is_timed_out moment) ∙ (eight ∙ sym still))
          (sym bit ∙ is);
      dropped_is =
          dropped_told moment c s.clients
          ∙ ap (λ (b : Bool). cond b (dropped_at (slice_get s.clients c)) 0) (sym bit);
    }

-- ---- each step

fragment_none : (s : State) (f : Fragment) (k : Option Client) (due : Option Bool) (c : ℕ)
    → Tells false k due (slice_get (cond (is_accepting s f)
    (record no_effects { reported = Some (reported s f); ended = answered_ends s f }) no_effects).dropped c)
fragment_none s f k due c = by (is_accepting s f)
  where
    by : (taken : Bool)
        → Tells false k due (slice_get (cond taken
        (record no_effects { reported = Some (reported s f); ended = answered_ends s f }) no_effects).dropped c)
    by true = none_ends k due c
    by false = none_ends k due c

frame_ends : (setup : Setup) (s : State) (c d m : ℕ) (apdu : Apdu) (k : Client) → slice_get s.clients d ≡ Some k
    → length s.clients ≡ 8 → length (after setup s (steps.Frame d apdu m)).clients ≡ 8
    → Tells (ends_session (steps.Frame d apdu m) (reply_to setup s (steps.Frame d apdu m)) c) (slice_get s.clients c)
    (slice_get (effects_of setup s (steps.Frame d apdu m)).due_clients c)
    (slice_get (effects_of setup s (steps.Frame d apdu m)).dropped c)
frame_ends setup s c d m apdu k at eight still =
    let moment : ℕ = latest s m in
    let new : List Client = (after setup s (steps.Frame d apdu m)).clients in
    subst (λ (x : Option Client).
    Tells (ends_by (client_reply (λ (y : Client). reply_of_event (event_of setup apdu y)) x) apdu && (c == d))
    (slice_get s.clients c)
    (slice_get (or_offered moment (effects_of_apdu setup s moment d apdu x).due_clients new) c)
    (slice_get (effects_of_apdu setup s moment d apdu x).dropped c)) (sym at)
    (subst (λ (b : Bool). Tells (b && (c == d)) (slice_get s.clients c)
    (slice_get (or_offered moment (effects_of_event setup s moment d apdu (event_of setup apdu k)).due_clients new) c)
    (slice_get (effects_of_event setup s moment d apdu (event_of setup apdu k)).dropped c))
    (sym (ending setup apdu k)) (framed setup s moment moment c d apdu (event_of setup apdu k) k new at eight still))

step_ends : (setup : Setup) (s : State) (step : Step) (c : ℕ) → fault_of s step ≡ None → length s.clients ≡ 8
    → length (after setup s step).clients ≡ 8
    → Tells (ends_session step (reply_to setup s step) c) (slice_get s.clients c)
    (slice_get (effects_of setup s step).due_clients c) (slice_get (effects_of setup s step).dropped c)
step_ends setup s (steps.OutstationUp o m) c no_fault eight still =
    none_ends (slice_get s.clients c) (slice_get (effects_of setup s (steps.OutstationUp o m)).due_clients c) c
step_ends setup s (steps.OutstationDown o m) c no_fault eight still =
    none_ends (slice_get s.clients c) (slice_get (effects_of setup s (steps.OutstationDown o m)).due_clients c) c
step_ends setup s (steps.Fragment f m) c no_fault eight still =
    fragment_none s f (slice_get s.clients c) (slice_get (effects_of setup s (steps.Fragment f m)).due_clients c) c
step_ends setup s (steps.Poll o m wall) c no_fault eight still =
    none_ends (slice_get s.clients c) (slice_get (effects_of setup s (steps.Poll o m wall)).due_clients c) c
step_ends setup s (steps.ClientUp d m) c no_fault eight still =
    none_ends (slice_get s.clients c) (slice_get (effects_of setup s (steps.ClientUp d m)).due_clients c) c
step_ends setup s (steps.ClientDown d m) c no_fault eight still =
    let up = who_is_up (λ (k : Client). is_up k.stage) NoClient (slice_get s.clients d) no_fault in
    one_ends (latest s m) c d up.0 s.clients (after setup s (steps.ClientDown d m)).clients up.1 eight still
step_ends setup s (steps.Frame d apdu m) c no_fault eight still =
    let up = who_is_up (λ (k : Client). is_up k.stage) NoClient (slice_get s.clients d) no_fault in
    frame_ends setup s c d m apdu up.0 up.1 eight still
step_ends setup s (steps.Pump d m) c no_fault eight still =
    none_ends (slice_get s.clients c) (slice_get (effects_of setup s (steps.Pump d m)).due_clients c) c
step_ends setup s (steps.Tick m) c no_fault eight still =
    ticked s (latest s m) (latest s m) c (after setup s (steps.Tick m)).clients eight still

-- ---- each run

entry_ends : (setup : Setup) (past : List Entry) (step : Step) (reply : Result Reply StepFault)
    → Allowed setup (state_after setup past) step reply (state_after setup (entry step reply ∷ past))
    → TellsEndsBy setup past (entry step reply) reply
entry_ends setup past step (Ok r) allowed =
    let s : State = state_after setup past in
    let told = answered (fault_of s step) (can_be_counted s (needs setup s step)) (reply_to setup s step) r allowed.0 in
    λ c. let k : Tells (ends_session step r c) (slice_get s.clients c)
    (slice_get (effects_of setup s step).due_clients c) (slice_get (effects_of setup s step).dropped c) =
    subst (λ (x : Reply). Tells (ends_session step x c) (slice_get s.clients c)
    (slice_get (effects_of setup s step).due_clients c) (slice_get (effects_of setup s step).dropped c)) told.2
    (step_ends setup s step c told.0 (eight_clients setup past) (eight_clients setup (entry step (Ok r) ∷ past))) in
    record { due = k.due_is; dropped = k.dropped_is }
entry_ends setup past step (Err fault) allowed = tt

each : (setup : Setup) (past : List Entry) → IsRun setup past → AtEach (TellsEnds setup) past
each setup [] run = tt
each setup (e ∷ past) run = (entry_ends setup past e.step e.reply run.0, each setup past run.1)

pub ends_told : (setup : Setup) (past : List Entry) → IsSoundRun setup past → AtEach (TellsEnds setup) past
ends_told setup past run = each setup past run.run
