-- An outstation comes up, or is lost: all of its orders fail.
use Rattle.std.proofs.Common.{◌≡◌, ℕ, ◌≤◌, Bool, true, false, not, List, [], ◌∷◌, ◌++◌}
use Rattle.std.proofs.Common.{length, map, Option, Some, None, Ok, refl, sym, ap, subst, ◌∙◌}
use Rattle.std.specs.Prelude.{◌==◌, slice_get}
use Rattle.std.specs.List.{filter}
use Rattle.std.specs.Option.{option_to_list}
use Rattle.std.proofs.lemmas.Bool.{eq-eqb, eqb-true, ne_eqb}
use Rattle.gw_model.specs.declared.control.Ended.{Ended}
use Rattle.gw_map.specs.Settings.{Setup}
use Rattle.dnp_master.specs.Master.{Master, ended_by_loss}
use Rattle.gw_control.specs.declared.accepted.Accepted.{Accepted}
use Rattle.gw_control.specs.declared.answer.Outcome.{Outcome}
use Rattle.gw_control.specs.Controls.{Controls}
use Rattle.gw_control.specs.Orders.{Outgoing, outcome_of, places}
use Rattle.gw_steps.specs.declared.step.Step.{Step}
use Rattle.gw_steps.specs.declared.step.Step.TheVariants as steps
use Rattle.gw_steps.specs.declared.step.Reply.{Reply}
use Rattle.gw_steps.specs.declared.step.StepFault.TheVariants.{NoOutstation}
use Rattle.gw_steps.specs.Controls.{controls_with_ended, ended_lost, outcomes_lost}
use Rattle.gw_steps.specs.State.{State}
use Rattle.gw_steps.specs.Steps.{after, can_be_counted, fault_of, needs, outcome, outcomes_of_loss, reply_to}
use Rattle.gw_steps.specs.Runs.{Entry}
use Rattle.gw_steps.proofs.Inversion.{answered, who_is_up}
use Rattle.gw_steps.proofs.Running.{entry}
use Rattle.law_orders.proofs.Ends.{ended_at, ended_here, ended_waiting, lost_there, order_fails}
use Rattle.law_orders.proofs.Held.{under_way_at, waiting_at}
use Rattle.law_orders.proofs.Moves.{in_order_at}
use Rattle.law_orders.proofs.Story.{Holds, story}
use Rattle.law_orders.proofs.Tells.{TellsAt, failure_tells}
use Rattle.law_orders.specs.Pending.{Pending, is_over, kept}
use Rattle.law_orders.specs.Outcomes.{telling_of}
use Rattle.law_orders.proofs.Overs.{HasFew, all_told, SaysDone, nothing_left, outcome_in, outcome_there, rows_lost, waiting_fail}
use Rattle.law_orders.proofs.PendingPlaces.{At, at_calm, same_rows}
use Rattle.law_orders.proofs.Rows.{none_leaves, rows}
use Rattle.law_orders.proofs.Shapes.{all_unmarked}
use Rattle.law_orders.proofs.Kept.{StepFollows, Before, calm, one_tells, within, few_wait}

-- ---- OutstationUp

pub outstation_up : (setup : Setup) (past : List Entry) (o m : ℕ) (r : Reply) (s : State)
    → StepFollows setup past (steps.OutstationUp o m) r s (after setup s (steps.OutstationUp o m))
outstation_up setup past o m r s =
    calm setup past (steps.OutstationUp o m) r s (after setup s (steps.OutstationUp o m)) refl
    (λ p. at_calm setup past (entry (steps.OutstationUp o m) (Ok r)) r p (slice_get s.controls.outgoing p)
    (slice_get s.controls.outgoing p) (same_rows past (rows (slice_get s.controls.outgoing p))) (λ x. refl))

-- ---- OutstationDown

none_left : (ps : List Pending) → filter (λ p. not true) ps ≡ []
none_left [] = refl
none_left (p ∷ ps) = none_left ps

all_over : (b : Bool) (ps : List Pending) → b ≡ true → filter (λ p. not b) ps ≡ []
all_over b ps is = subst (λ (x : Bool). filter (λ p. not x) ps ≡ []) (sym is) (none_left ps)

says_failed : (setup : Setup) (past : List Entry) (e : Option Ended) (q : Option Outgoing)
    → TellsAt (story setup past) e q → SaysDone past e q
says_failed setup past None q k = tt
says_failed setup past (Some e) q k =
    λ u at named. (k u at (eqb-true u.accepted.order.number e.number named)).done

lost_here : (setup : Setup) (past : List Entry) (o m : ℕ) (r : Reply) (s : State) (x : Master) → Before setup past s
    → slice_get s.outstations o ≡ Some x
    → At setup past (entry (steps.OutstationDown o m) (Ok r)) r o (slice_get s.controls.outgoing o)
    (slice_get (after setup s (steps.OutstationDown o m)).controls.outgoing o)
    (map telling_of (outcomes_of_loss s o))
lost_here setup past o m r s x k at =
    let en : Entry = entry (steps.OutstationDown o m) (Ok r) in
    let q : Option Outgoing = slice_get s.controls.outgoing o in
    let e : Option Ended = ended_lost (slice_get s.outstations o) in
    let v : Controls = controls_with_ended o e s.controls in
    let held : Holds (story setup past) o (Some x) q =
    subst (λ (y : Option Master). Holds (story setup past) o y q) at (k.orders.places o) in
    let failed : e ≡ ended_by_loss x = ap ended_lost at in
    let gone : under_way_at (ended_at e q) ≡ None =
    ap (λ (y : Option Ended). under_way_at (ended_at y q)) failed
    ∙ order_fails (story setup past) o x.exchange q held.going in
    let here : slice_get v.outgoing o ≡ ended_at e q = ended_here o e s.controls in
    let waits : waiting_at (slice_get v.outgoing o) ≡ waiting_at q = ap waiting_at here ∙ ended_waiting e q in
    let few : HasFew places (slice_get v.outgoing o) =
    subst (λ (xs : List Accepted). length xs ≤ places) (sym waits)
    (few_wait s.controls.ordered q (in_order_at s.controls.ordered s.controls.outgoing o k.sound.controls.orders)) in
    let says : SaysDone (en ∷ past) e q =
    says_failed setup past e q
    (subst (λ (y : Option Ended). TellsAt (story setup past) y q) (sym failed)
    (failure_tells (story setup past) o x.exchange q held.going)) in
    let over : (p : Pending) → is_over setup o past en en.step p ≡ true = λ p. eq-eqb o o refl in
    let kept_all : rows q ≡ kept setup past en r (rows q) = sym (none_leaves past (rows q)) in
    let told : outcomes_of_loss s o ≡ option_to_list (outcome_in e q) ++ map (outcome_of false) (waiting_at q) =
    ap (λ (y : Option Outcome). option_to_list y ++ outcomes_lost places o v) (outcome_there o e s.controls)
    ∙ ap (λ (xs : List Outcome). option_to_list (outcome_in e q) ++ xs)
    (waiting_fail places o v few ∙ ap (map (outcome_of false)) waits) in
    record {
      pending = nothing_left places o v (ap under_way_at here ∙ gone) few
          ∙ sym (ap (λ (ps : List Pending). ps ++ [])
          (all_over (o == o) (kept setup past en r (rows q)) (eq-eqb o o refl)));
      told = ap (map telling_of) told
          ∙ (rows_lost (is_over setup o past en en.step) (en ∷ past) e q over gone
          (all_unmarked (story setup past) o (waiting_at q) held.waiting) says
          ∙ ap (all_told (is_over setup o past en en.step) (en ∷ past)) kept_all);
    }

lost_there_too : (setup : Setup) (past : List Entry) (o m : ℕ) (r : Reply) (s : State) (p : ℕ) → (o ≡ p → ⊥)
    → At setup past (entry (steps.OutstationDown o m) (Ok r)) r p (slice_get s.controls.outgoing p)
    (slice_get (after setup s (steps.OutstationDown o m)).controls.outgoing p) []
lost_there_too setup past o m r s p ne =
    at_calm setup past (entry (steps.OutstationDown o m) (Ok r)) r p (slice_get s.controls.outgoing p)
    (slice_get (after setup s (steps.OutstationDown o m)).controls.outgoing p)
    (ap rows (lost_there places o (ended_lost (slice_get s.outstations o)) s.controls p ne)
    ∙ same_rows past (rows (slice_get s.controls.outgoing p))) (λ x. ne_eqb o p ne)

pub outstation_down : (setup : Setup) (past : List Entry) (o m : ℕ) (r : Reply) (s : State)
    → outcome setup s (steps.OutstationDown o m) ≡ Ok r → Before setup past s
    → StepFollows setup past (steps.OutstationDown o m) r s (after setup s (steps.OutstationDown o m))
outstation_down setup past o m r s e k =
    let step : Step = steps.OutstationDown o m in
    let told = answered (fault_of s step) (can_be_counted s (needs setup s step)) (reply_to setup s step) r e in
    let up = who_is_up (λ (x : Master). x.up) NoOutstation (slice_get s.outstations o) told.0 in
    one_tells setup past step r s (after setup s step) o (within setup s o up.0 k.sound up.1)
    (lost_here setup past o m r s up.0 k up.1) (lost_there_too setup past o m r s)
