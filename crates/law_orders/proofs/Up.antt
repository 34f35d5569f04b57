-- At each place of a run an outstation is up where the history tells so.
use Rattle.std.proofs.Common.{◌≡◌, ℕ, zero, suc, true, false, List, [], ◌∷◌, map, Option}
use Rattle.std.proofs.Common.{Some, None, Result, Ok, Err, refl, ap, ◌∙◌, inl, inr}
use Rattle.std.specs.Prelude.{◌==◌, slice_get}
use Rattle.std.proofs.lemmas.Bool.{cases_Bool, eq-eqb, ne_eqb}
use Rattle.gw_model.specs.declared.control.Order.{Order}
use Rattle.gw_entries.specs.Setup.{OutstationSetup}
use Rattle.gw_map.specs.Settings.{Setup}
use Rattle.dnp_app.specs.Response.{Fragment}
use Rattle.dnp_master.specs.Fragments.{master_after_fragment}
use Rattle.dnp_master.specs.Master.{Master, master_after_next, master_after_order}
use Rattle.dnp_master.specs.Master.{master_after_tick, master_after_up, master_down, task_given}
use Rattle.gw_steps.specs.declared.step.Step.{Step}
use Rattle.gw_steps.specs.declared.step.Step.TheVariants as steps
use Rattle.gw_steps.specs.declared.step.Reply.{Reply}
use Rattle.gw_steps.specs.declared.step.StepFault.{StepFault}
use Rattle.gw_steps.specs.declared.step.StepFault.TheVariants.{NoOutstation}
use Rattle.gw_steps.specs.Controls.{is_up_at, order_due}
use Rattle.gw_steps.specs.State.{State, at_first}
use Rattle.gw_steps.specs.Steps.{Allowed, after, can_be_counted, fault_of, is_accepting, latest, needs, outcome, parts_after_poll, reply_to}
use Rattle.gw_steps.specs.Runs.{Entry, state_after}
use Rattle.gw_steps.proofs.Inversion.{answered, who_is_down, who_is_up}
use Rattle.gw_steps.proofs.Running.{entry}
use Rattle.law_history.specs.Up.{is_outstation_up, up_after}
use Rattle.law_orders.proofs.Changed.{all_told, told_changed, told_kept}
use Rattle.law_history.proofs.Ups.{given_up, late_up, fragment_up}

-- ---- each step

polled_up : (s : State) (moment o wall : ℕ) (order : Option Order) (p : ℕ)
    → is_up_at (slice_get (parts_after_poll s moment o wall order).outstations p) ≡ is_up_at (slice_get s.outstations p)
polled_up s moment o wall None p =
    told_kept is_up_at o (master_after_next moment wall) s.outstations p
    (λ m. given_up moment (task_given moment wall m) m)
polled_up s moment o wall (Some order) p =
    told_kept is_up_at o (master_after_order moment order) s.outstations p (λ m. refl)

module _ (setup : Setup) (s : State) (p : ℕ) where
  abbrev Ups : Step → Type 0
  Ups step = is_up_at (slice_get (after setup s step).outstations p)
      ≡ up_after p step (is_up_at (slice_get s.outstations p))

  outstation_up : (o m : ℕ) (r : Reply) → outcome setup s (steps.OutstationUp o m) ≡ Ok r → Ups (steps.OutstationUp o m)
  outstation_up o m r e =
      let step : Step = steps.OutstationUp o m in
      let told = answered (fault_of s step) (can_be_counted s (needs setup s step)) (reply_to setup s step) r e in
      let down = who_is_down (λ (x : Master). x.up) NoOutstation (slice_get s.outstations o) told.0 in
      told_changed is_up_at o (master_after_up (latest s m)) s.outstations p down.0 true (o == p) down.1 refl
      (eq-eqb o p) (ne_eqb o p)

  outstation_down : (o m : ℕ) (r : Reply) → outcome setup s (steps.OutstationDown o m) ≡ Ok r
      → Ups (steps.OutstationDown o m)
  outstation_down o m r e =
      let step : Step = steps.OutstationDown o m in
      let told = answered (fault_of s step) (can_be_counted s (needs setup s step)) (reply_to setup s step) r e in
      let up = who_is_up (λ (x : Master). x.up) NoOutstation (slice_get s.outstations o) told.0 in
      told_changed is_up_at o (λ (x : Master). master_down x.poll) s.outstations p up.0 false (o == p) up.1 refl
      (eq-eqb o p) (ne_eqb o p)

  fragment : (f : Fragment) (m : ℕ) → Ups (steps.Fragment f m)
  fragment f m = elim (cases_Bool (is_accepting s f)) [
    | inl taken ↦ rw taken
        (told_kept is_up_at f.outstation (master_after_fragment (latest s m) f) s.outstations p
        (λ x. fragment_up (latest s m) f x))
    | inr left ↦ rw left refl
  ]

  step_up : (step : Step) (r : Reply) → outcome setup s step ≡ Ok r → Ups step
  step_up (steps.OutstationUp o m) r e = outstation_up o m r e
  step_up (steps.OutstationDown o m) r e = outstation_down o m r e
  step_up (steps.Fragment f m) r e = fragment f m
  step_up (steps.Poll o m wall) r e = polled_up s (latest s m) o wall (order_due s o) p
  step_up (steps.ClientUp c m) r e = refl
  step_up (steps.ClientDown c m) r e = refl
  step_up (steps.Frame c apdu m) r e = refl
  step_up (steps.Pump c m) r e = refl
  step_up (steps.Tick m) r e = all_told is_up_at (master_after_tick (latest s m)) s.outstations p
      (λ x. late_up (latest s m) x.exchange x)

-- ---- each place

-- the outstations of the state are up as the history tells
abbrev pub AreUp : List Entry → State → Type 0
AreUp past s = (o : ℕ) → is_up_at (slice_get s.outstations o) ≡ is_outstation_up o past

first_down : (xs : List OutstationSetup) (o : ℕ)
    → is_up_at (slice_get (map (λ (x : OutstationSetup). master_down x.poll) xs) o) ≡ false
first_down [] o = refl
first_down (x ∷ xs) zero = refl
first_down (x ∷ xs) (suc o) = first_down xs o

pub first_up : (setup : Setup) → AreUp [] (at_first setup)
first_up setup o = first_down setup.outstations o

pub up_more : (setup : Setup) (past : List Entry) (step : Step) (reply : Result Reply StepFault)
    → Allowed setup (state_after setup past) step reply (state_after setup (entry step reply ∷ past))
    → AreUp past (state_after setup past)
    → AreUp (entry step reply ∷ past) (state_after setup (entry step reply ∷ past))
up_more setup past step (Ok r) allowed before o =
    step_up setup (state_after setup past) o step r allowed.0 ∙ ap (up_after o step) (before o)
up_more setup past step (Err f) allowed before o = before o
