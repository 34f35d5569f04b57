-- Which clients are started, as steps change them.
use Rattle.std.proofs.Common.{◌≡◌, ℕ, zero, suc, Bool, true, false, cond, not, ◌&&◌, List, [], ◌∷◌, drop}
use Rattle.std.proofs.Common.{map, Option, Some, None, option_map, refl, sym, ap, subst, ◌∙◌, inl, inr}
use Rattle.std.specs.Prelude.{◌==◌, slice_get}
use Rattle.std.proofs.lemmas.Bool.{cases_eq, eq-eqb, ne_eqb}
use Rattle.gw_model.specs.First.{first_of, when}
use Rattle.gw_model.specs.Places.{change}
use Rattle.gw_model.specs.declared.observation.Observation.{Observation}
use Rattle.gw_model.specs.Clocks.{Clocks}
use Rattle.gw_map.specs.Settings.{Setup}
use Rattle.gw_picture.proofs.Lists.{change-here, change-there}
use Rattle.iec_apci.specs.declared.apdu.Apdu.{Apdu}
use Rattle.iec_apci.specs.declared.apdu.Asdu.{Asdu}
use Rattle.iec_apci.specs.declared.apdu.Apdu.TheVariants.{I, S, U}
use Rattle.iec_apci.specs.declared.apdu.Signal.TheVariants.{StartAct, StartCon, StopAct, StopCon, TestAct, TestCon}
use Rattle.iec_command.specs.declared.command.Command.{Command}
use Rattle.gw_control.specs.declared.answer.Outcome.{Outcome}
use Rattle.gw_station.specs.declared.event.Event.{Event}
use Rattle.gw_station.specs.declared.event.Event.TheVariants as events
use Rattle.gw_station.specs.declared.event.Said.{Said}
use Rattle.iec_apci.specs.declared.why.Why.{Why}
use Rattle.iec_apci.specs.declared.why.Why.TheVariants.{Flooded, NotStarted}
use Rattle.gw_station.specs.declared.sending.Sending.{Sending}
use Rattle.gw_station.specs.declared.sending.Sending.TheVariants as sendings
use Rattle.gw_station.specs.declared.client.Stage.TheVariants.{Started, Stopped}
use Rattle.gw_station.specs.Client.{Client, client_after_close, client_after_tick, client_anew, is_started, is_timed_out}
use Rattle.gw_station.specs.Frames.{begins, client_by, client_taking, close_of, closes_judged}
use Rattle.gw_station.specs.Frames.{command_in, event_by, event_taking, floods, judged_asdu}
use Rattle.gw_station.specs.Pump.{client_after_pump, client_by_offer, offered}
use Rattle.gw_station.proofs.Places.{not_flooded}
use Rattle.gw_steps.specs.Controls.{client_told_of, clients_told}
use Rattle.gw_steps.specs.Steps.{client_after_frame, client_answered}
use Rattle.gw_steps.specs.Queries.{started_at}
use Rattle.law_history.proofs.Bits.{bit_at}
use Rattle.law_orders.proofs.Changed.{told_changed, told_kept}

-- ---- one client

-- client n is started now, or it isn't
pub stage_changed : (n : ℕ) (f : Client → Client) (ks : List Client) (c : ℕ) (k : Client) (b : Bool)
    → slice_get ks n ≡ Some k → is_started (f k).stage ≡ b
    → started_at (slice_get (change n f ks) c) ≡ cond (c == n) b (started_at (slice_get ks c))
stage_changed n f ks c k b at is =
    told_changed started_at n f ks c k b (c == n) at is (λ e. eq-eqb c n (sym e)) (λ ne. ne_eqb c n (λ e. ne (sym e)))

pub stage_there : (n : ℕ) (f : Client → Client) (ks : List Client) (c : ℕ) → (n ≡ c → ⊥)
    → started_at (slice_get (change n f ks) c) ≡ started_at (slice_get ks c)
stage_there n f ks c ne = ap started_at (change-there n c f ks ne)

-- it stays as it is
pub stage_stays : (n : ℕ) (f : Client → Client) (ks : List Client) (c : ℕ) (k : Client)
    → slice_get ks n ≡ Some k → is_started (f k).stage ≡ is_started k.stage
    → started_at (slice_get (change n f ks) c) ≡ started_at (slice_get ks c)
stage_stays n f ks c k at same = elim (cases_eq n c) [
  | inl e ↦ subst (λ (x : ℕ). started_at (slice_get (change n f ks) x) ≡ started_at (slice_get ks x)) e
      (ap started_at (change-here n f ks ∙ ap (option_map f) at) ∙ (same ∙ sym (ap started_at at)))
  | inr ne ↦ stage_there n f ks c ne
]

-- ---- all clients

pub told_stage : (xs : List Outcome) (ks : List Client) (c : ℕ)
    → started_at (slice_get (clients_told xs ks) c) ≡ started_at (slice_get ks c)
told_stage [] ks c = refl
told_stage (x ∷ xs) ks c =
    told_stage xs (change x.client (client_told_of x) ks) c
    ∙ told_kept started_at x.client (client_told_of x) ks c (λ k. refl)

-- ---- a tick

-- it closes clients whose t1 has passed
pub ticked_stage : (moment : ℕ) (ks : List Client) (c : ℕ)
    → started_at (slice_get (map (client_after_tick moment) ks) c)
    ≡ cond (bit_at c (map (is_timed_out moment) ks)) false (started_at (slice_get ks c))
ticked_stage moment [] c = refl
ticked_stage moment (k ∷ ks) zero = by (is_timed_out moment k)
  where
    by : (b : Bool) → is_started (cond b (client_after_close k) k).stage ≡ cond b false (is_started k.stage)
    by true = refl
    by false = refl
ticked_stage moment (k ∷ ks) (suc c) = ticked_stage moment ks c

-- ---- a pump

pub pumped_stage : (clocks : Clocks) (moment : ℕ) (k : Client)
    → is_started (client_after_pump clocks moment k).stage ≡ is_started k.stage
pumped_stage clocks moment k = by (offered moment k)
  where
    by : (x : Option Sending) → is_started (client_by_offer clocks moment x k).stage ≡ is_started k.stage
    by None = refl
    by (Some (sendings.Confirm signal)) = refl
    by (Some sendings.Test) = refl
    by (Some (sendings.Answer answer)) = refl
    by (Some (sendings.News x)) = refl
    by (Some (sendings.Part part)) = refl
    by (Some sendings.SFormat) = refl

-- ---- an APDU

answered_stage : (said : Command → Said) (event : Event) (k : Client)
    → is_started (client_answered said event k).stage ≡ is_started k.stage
answered_stage said events.Taken k = refl
answered_stage said (events.Command command) k = refl
answered_stage said (events.Closed why) k = refl

module _ (setup : Setup) (picture : List Observation) (said : Command → Said) (moment : ℕ) (apdu : Apdu) (k : Client)
  where
    -- by why it closes
    abbrev by_why : Option Why → Client
    by_why why = client_answered said (event_by why (command_in setup apdu))
        (client_by why k (client_taking setup picture moment apdu k))

    pub closed_stage : (why : Why) → close_of setup apdu k ≡ Some why
        → is_started (client_after_frame setup picture said moment apdu k).stage ≡ false
    closed_stage why e = ap (λ (y : Option Why). is_started (by_why y).stage) e

    pub taken_stage : close_of setup apdu k ≡ None
        → is_started (client_after_frame setup picture said moment apdu k).stage
        ≡ is_started (client_taking setup picture moment apdu k).stage
    taken_stage e =
        ap (λ (y : Option Why). is_started (by_why y).stage) e
        ∙ answered_stage said (event_taking (command_in setup apdu)) (client_taking setup picture moment apdu k)

-- STARTDT act
pub begun_stage : (setup : Setup) (picture : List Observation) (moment : ℕ) (k : Client)
    → is_started (client_taking setup picture moment (U StartAct) k).stage ≡ true
begun_stage setup picture moment k = by (is_started k.stage) refl
  where
    by : (b : Bool) → is_started k.stage ≡ b → is_started (cond b k (client_anew Started k)).stage ≡ true
    by true e = e
    by false e = refl

-- STOPDT act
pub stopped_stage : (setup : Setup) (picture : List Observation) (moment : ℕ) (k : Client)
    → is_started (client_taking setup picture moment (U StopAct) k).stage ≡ false
stopped_stage setup picture moment k = by (is_started k.stage) refl
  where
    by : (b : Bool) → is_started k.stage ≡ b → is_started (cond b (client_anew Stopped k) k).stage ≡ false
    by true e = refl
    by false e = e

-- an I format is taken of a started client alone
pub information_started : (setup : Setup) (ns nr : ℕ) (asdu : Asdu) (k : Client)
    → close_of setup (I ns nr asdu) k ≡ None → is_started k.stage ≡ true
information_started setup ns nr asdu k e =
    by (is_started k.stage) (drop 1 (closes_judged ns nr (judged_asdu setup asdu) k)) e
  where
    by : (b : Bool) (others : List (Option Why)) → first_of (when (not b) NotStarted ∷ others) ≡ None → b ≡ true
    by true others e = refl
    by false others e = absurd (let none : ⊥ = cc in none)

-- ---- a session begins

flooding : (b : Bool) (why : Why) → first_of (when b Flooded ∷ []) ≡ Some why → b ≡ true
flooding true why e = refl
flooding false why e = absurd (let none : ⊥ = cc in none)

never : (started b : Bool) → b ≡ true → (not started && not b) ≡ false
never true b e = refl
never false b e = ap not e

once_not_started : (started b : Bool) → b ≡ false → (not started && not b) ≡ not started
once_not_started true b e = refl
once_not_started false b e = ap not e

-- none begins where the APDU closes
pub closed_begins : (setup : Setup) (apdu : Apdu) (k : Client) (why : Why) → close_of setup apdu k ≡ Some why
    → begins apdu k ≡ false
closed_begins setup (I ns nr asdu) k why e = refl
closed_begins setup (S nr) k why e = refl
closed_begins setup (U StartAct) k why e =
    never (is_started k.stage) (floods StartAct k) (flooding (floods StartAct k) why e)
closed_begins setup (U StartCon) k why e = refl
closed_begins setup (U StopAct) k why e = refl
closed_begins setup (U StopCon) k why e = refl
closed_begins setup (U TestAct) k why e = refl
closed_begins setup (U TestCon) k why e = refl

-- STARTDT act that is taken begins one where none stands
pub taken_begins : (setup : Setup) (k : Client) → close_of setup (U StartAct) k ≡ None
    → begins (U StartAct) k ≡ not (is_started k.stage)
taken_begins setup k e =
    once_not_started (is_started k.stage) (floods StartAct k) (not_flooded (floods StartAct k) e)
