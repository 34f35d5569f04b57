-- At each place of a run the outstations of the settings are up as the history tells, and there are no others.
use Rattle.std.proofs.Common.{◌≡◌, ℕ, zero, suc, Bool, true, false, cond, eqb, ltb, List, [], ◌∷◌, length, map}
use Rattle.std.proofs.Common.{Option, Some, None, Result, Ok, Err, refl, sym, ap, subst, ◌∙◌, arith, inl, inr}
use Rattle.std.specs.Prelude.{nat_lt, option_map, slice_get}
use Rattle.std.proofs.lemmas.Bool.{cases_Bool, cases_eq, eq-eqb, le-ltb, lt-ltb, ltb-false, ltb-true, ne_eqb}
use Rattle.gw_model.specs.First.{when}
use Rattle.gw_model.specs.Places.{change}
use Rattle.gw_model.specs.declared.control.Order.{Order}
use Rattle.gw_entries.specs.Setup.{OutstationSetup}
use Rattle.gw_map.specs.Settings.{Setup}
use Rattle.gw_picture.proofs.Lists.{change-here, change-there}
use Rattle.dnp_app.specs.Response.{Fragment, is_unsolicited}
use Rattle.dnp_master.specs.declared.exchange.Exchange.{Exchange}
use Rattle.dnp_master.specs.declared.exchange.Exchange.TheVariants.{Idle, Selected, Waiting}
use Rattle.dnp_master.specs.declared.task.Task.{Task}
use Rattle.dnp_master.specs.Fragments.{accepts, master_after_answer, master_after_fragment, master_after_unsolicited}
use Rattle.dnp_master.specs.Master.{Master, due_unanswered, is_late, master_after_given}
use Rattle.dnp_master.specs.Master.{master_after_next, master_after_order, master_after_tick}
use Rattle.dnp_master.specs.Master.{master_after_up, master_down, master_with_exchange_after, task_given}
use Rattle.gw_steps.specs.declared.step.Step.{Step}
use Rattle.gw_steps.specs.declared.step.Step.TheVariants as steps
use Rattle.gw_steps.specs.declared.step.Reply.{Reply}
use Rattle.gw_steps.specs.declared.step.StepFault.{StepFault}
use Rattle.gw_steps.specs.Controls.{order_due}
use Rattle.gw_steps.specs.State.{State}
use Rattle.gw_steps.specs.Steps.{after, is_accepting, latest, outstation_up, parts_after_fragment, parts_after_poll}
use Rattle.gw_steps.specs.Runs.{Entry, state_after}
use Rattle.gw_steps.proofs.Running.{entry}
use Rattle.law_history.specs.Up.{is_outstation_up, up_after}

-- ---- one of many

abbrev up_of : Option Master → Option Bool
up_of x = option_map (λ (m : Master). m.up) x

same_option : (x : Option Bool) → option_map (λ (up : Bool). up) x ≡ x
same_option None = refl
same_option (Some up) = refl

-- one that changes is up then, or isn't
set_up : (p o : ℕ) (f : Master → Master) (ms : List Master) (b : Bool) → ((m : Master) → (f m).up ≡ b)
    → up_of (slice_get (change p f ms) o)
    ≡ option_map (λ (up : Bool). cond (eqb p o) b up) (up_of (slice_get ms o))
set_up p o f ms b is = elim (cases_eq p o) [
  | inl same ↦ rw (eq-eqb p o same) (subst (λ (q : ℕ). up_of (slice_get (change q f ms) o)
      ≡ option_map (λ (up : Bool). b) (up_of (slice_get ms o))) (sym same)
      (ap up_of (change-here o f ms) ∙ here (slice_get ms o)))
  | inr ne ↦ rw (ne_eqb p o ne)
      (ap up_of (change-there p o f ms ne) ∙ sym (same_option (up_of (slice_get ms o))))
]
  where
    here : (x : Option Master) → up_of (option_map f x) ≡ option_map (λ (up : Bool). b) (up_of x)
    here None = refl
    here (Some m) = ap Some (is m)

kept_up : (p o : ℕ) (f : Master → Master) (ms : List Master) → ((m : Master) → (f m).up ≡ m.up)
    → up_of (slice_get (change p f ms) o) ≡ up_of (slice_get ms o)
kept_up p o f [] same = refl
kept_up zero zero f (m ∷ ms) same = ap Some (same m)
kept_up zero (suc o) f (m ∷ ms) same = refl
kept_up (suc p) zero f (m ∷ ms) same = refl
kept_up (suc p) (suc o) f (m ∷ ms) same = kept_up p o f ms same

all_kept : (o : ℕ) (f : Master → Master) (ms : List Master) → ((m : Master) → (f m).up ≡ m.up)
    → up_of (slice_get (map f ms) o) ≡ up_of (slice_get ms o)
all_kept o f [] same = refl
all_kept zero f (m ∷ ms) same = ap Some (same m)
all_kept (suc o) f (m ∷ ms) same = all_kept o f ms same

-- ---- what leaves a master up

pub given_up : (moment : ℕ) (task : Option Task) (m : Master) → (master_after_given moment task m).up ≡ m.up
given_up moment None m = refl
given_up moment (Some task) m = refl

pub late_up : (moment : ℕ) (ex : Exchange) (m : Master) → (master_with_exchange_after moment ex m).up ≡ m.up
late_up moment Idle m = refl
late_up moment (Selected order) m = refl
late_up moment (Waiting w) m = by (is_late moment m.poll w.since)
  where
    by : (b : Bool)
        → (cond b (record m { exchange = Idle; due = due_unanswered w.task m.due }) m).up ≡ m.up
    by true = refl
    by false = refl

answered_up : (moment : ℕ) (f : Fragment) (ex : Exchange) (m : Master) → (master_after_answer moment f ex m).up ≡ m.up
answered_up moment f Idle m = refl
answered_up moment f (Waiting w) m = refl
answered_up moment f (Selected order) m = refl

pub fragment_up : (moment : ℕ) (f : Fragment) (m : Master) → (master_after_fragment moment f m).up ≡ m.up
fragment_up moment f m = by (accepts m f) (is_unsolicited f)
  where
    by : (a b : Bool)
        → (cond a (cond b (master_after_unsolicited f m) (master_after_answer moment f m.exchange m)) m).up ≡ m.up
    by true true = refl
    by true false = answered_up moment f m.exchange m
    by false b = refl

-- ---- each step

polled_up : (s : State) (moment o wall : ℕ) (order : Option Order) (p : ℕ)
    → outstation_up (parts_after_poll s moment o wall order) p ≡ outstation_up s p
polled_up s moment o wall None p =
    kept_up o p (master_after_next moment wall) s.outstations (λ m. given_up moment (task_given moment wall m) m)
polled_up s moment o wall (Some order) p = kept_up o p (master_after_order moment order) s.outstations (λ m. refl)

fragment_kept : (setup : Setup) (s : State) (moment : ℕ) (f : Fragment) (p : ℕ) (taken : Bool)
    → outstation_up (cond taken (parts_after_fragment setup s moment f) s) p ≡ outstation_up s p
fragment_kept setup s moment f p true =
    kept_up f.outstation p (master_after_fragment moment f) s.outstations (λ m. fragment_up moment f m)
fragment_kept setup s moment f p false = refl

step_up : (setup : Setup) (s : State) (step : Step) (p : ℕ)
    → outstation_up (after setup s step) p ≡ option_map (up_after p step) (outstation_up s p)
step_up setup s (steps.OutstationUp o m) p =
    set_up o p (master_after_up (latest s m)) s.outstations true (λ x. refl)
step_up setup s (steps.OutstationDown o m) p =
    set_up o p (λ (x : Master). master_down x.poll) s.outstations false (λ x. refl)
step_up setup s (steps.Fragment f m) p =
    fragment_kept setup s (latest s m) f p (is_accepting s f) ∙ sym (same_option (outstation_up s p))
step_up setup s (steps.Poll o m wall) p =
    polled_up s (latest s m) o wall (order_due s o) p ∙ sym (same_option (outstation_up s p))
step_up setup s (steps.Tick m) p =
    all_kept p (master_after_tick (latest s m)) s.outstations (λ x. late_up (latest s m) x.exchange x)
    ∙ sym (same_option (outstation_up s p))
step_up setup s (steps.ClientUp c m) p = sym (same_option (outstation_up s p))
step_up setup s (steps.ClientDown c m) p = sym (same_option (outstation_up s p))
step_up setup s (steps.Frame c apdu m) p = sym (same_option (outstation_up s p))
step_up setup s (steps.Pump c m) p = sym (same_option (outstation_up s p))

-- ---- each place

shifted : (o n : ℕ) → nat_lt (suc o) (suc n) ≡ nat_lt o n
shifted o n = elim (cases_Bool (ltb o n)) [
  | inl is ↦ lt-ltb (suc o) (suc n) (omega (arith, ltb-true o n is)) ∙ sym is
  | inr out ↦ le-ltb (suc o) (suc n) (omega (arith, ltb-false o n out)) ∙ sym out
]

first_down : (xs : List OutstationSetup) (o : ℕ)
    → up_of (slice_get (map (λ (x : OutstationSetup). master_down x.poll) xs) o) ≡ when (nat_lt o (length xs)) false
first_down [] o = rw (le-ltb o 0 (omega arith)) refl
first_down (x ∷ xs) zero = rw (lt-ltb 0 (length (x ∷ xs)) (omega arith)) refl
first_down (x ∷ xs) (suc o) = first_down xs o ∙ ap (λ (b : Bool). when b false) (sym (shifted o (length xs)))

when_map : (f : Bool → Bool) (b up : Bool) → option_map f (when b up) ≡ when b (f up)
when_map f true up = refl
when_map f false up = refl

-- an outstation of the settings is up as the history tells, and there is no other
pub told_up : (setup : Setup) (past : List Entry) (o : ℕ)
    → outstation_up (state_after setup past) o
    ≡ when (nat_lt o (length setup.outstations)) (is_outstation_up o past)
told_up setup [] o = first_down setup.outstations o
told_up setup (e ∷ past) o = by e.step e.reply (told_up setup past o)
  where
    by : (step : Step) (reply : Result Reply StepFault)
        → outstation_up (state_after setup past) o
        ≡ when (nat_lt o (length setup.outstations)) (is_outstation_up o past)
        → outstation_up (state_after setup (entry step reply ∷ past)) o
        ≡ when (nat_lt o (length setup.outstations)) (is_outstation_up o (entry step reply ∷ past))
    by step (Ok r) so_far =
        step_up setup (state_after setup past) step o
        ∙ (ap (option_map (up_after o step)) so_far
        ∙ when_map (up_after o step) (nat_lt o (length setup.outstations)) (is_outstation_up o past))
    by step (Err f) so_far = so_far
