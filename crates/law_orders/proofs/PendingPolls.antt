-- A poll gives the first of the orders that wait, or none.
use Rattle.std.proofs.Common.{◌≡◌, ℕ, Bool, true, false, cond, List, [], ◌∷◌, Option}
use Rattle.std.proofs.Common.{Some, None, Ok, option_map, refl, ap, subst, ◌∙◌, inl, inr}
use Rattle.std.specs.Prelude.{option_and_then, slice_get}
use Rattle.std.proofs.lemmas.Bool.{cases_eq}
use Rattle.gw_model.specs.Places.{change}
use Rattle.gw_model.specs.declared.control.Order.{Order}
use Rattle.gw_map.specs.Settings.{Setup}
use Rattle.gw_picture.proofs.Lists.{change-here, change-there}
use Rattle.dnp_master.specs.Master.{Master, is_ready}
use Rattle.gw_control.specs.declared.accepted.Accepted.{Accepted}
use Rattle.gw_control.specs.declared.accepted.UnderWay.{UnderWay}
use Rattle.gw_control.specs.Orders.{Outgoing, order_given, outgoing_after_taking}
use Rattle.gw_steps.specs.declared.step.Step.{Step}
use Rattle.gw_steps.specs.declared.step.Step.TheVariants as steps
use Rattle.gw_steps.specs.declared.step.Reply.{Reply}
use Rattle.gw_steps.specs.Controls.{order_due, order_for}
use Rattle.gw_steps.specs.State.{State}
use Rattle.gw_steps.specs.Steps.{after, latest, parts_after_poll}
use Rattle.gw_steps.specs.Runs.{Entry}
use Rattle.gw_steps.proofs.Running.{entry}
use Rattle.law_orders.proofs.PendingPlaces.{at_calm, same_rows}
use Rattle.law_orders.proofs.Rows.{rows, rows_in}
use Rattle.law_orders.proofs.Kept.{StepFollows, calm}

-- an order that is given was the first of those that wait
given_rows : (q : Option Outgoing) (order : Order) → option_and_then order_given q ≡ Some order
    → rows (option_map outgoing_after_taking q) ≡ rows q
given_rows None order e = refl
given_rows (Some q) order e = by q.under_way q.waiting e
  where
    by : (u : Option UnderWay) (xs : List Accepted)
        → order_given (record { waiting = xs; under_way = u }) ≡ Some order
        → rows (Some (outgoing_after_taking (record { waiting = xs; under_way = u }))) ≡ rows_in u xs
    by (Some u) xs given = absurd (let no : ⊥ = cc in no)
    by None [] given = absurd (let no : ⊥ = cc in no)
    by None (x ∷ xs) given = refl

due_given : (m : Option Master) (q : Option Outgoing) (order : Order) → order_for m q ≡ Some order
    → option_and_then order_given q ≡ Some order
due_given None q order e = absurd (let no : ⊥ = cc in no)
due_given (Some m) q order e = by (is_ready m) e
  where
    by : (ready : Bool) → cond ready (option_and_then order_given q) None ≡ Some order
        → option_and_then order_given q ≡ Some order
    by true given = given
    by false given = absurd (let no : ⊥ = cc in no)

polled_rows : (s : State) (moment o wall p : ℕ) (due : Option Order) → order_due s o ≡ due
    → rows (slice_get (parts_after_poll s moment o wall due).controls.outgoing p)
    ≡ rows (slice_get s.controls.outgoing p)
polled_rows s moment o wall p None is = refl
polled_rows s moment o wall p (Some order) is = elim (cases_eq o p) [
  | inl e ↦ subst (λ (x : ℕ). rows (slice_get (change o outgoing_after_taking s.controls.outgoing) x)
      ≡ rows (slice_get s.controls.outgoing x)) e
      (ap rows (change-here o outgoing_after_taking s.controls.outgoing)
      ∙ given_rows (slice_get s.controls.outgoing o) order
      (due_given (slice_get s.outstations o) (slice_get s.controls.outgoing o) order is))
  | inr ne ↦ ap rows (change-there o p outgoing_after_taking s.controls.outgoing ne)
]

pub poll : (setup : Setup) (past : List Entry) (o m wall : ℕ) (r : Reply) (s : State)
    → StepFollows setup past (steps.Poll o m wall) r s (after setup s (steps.Poll o m wall))
poll setup past o m wall r s =
    let step : Step = steps.Poll o m wall in
    calm setup past step r s (after setup s step) refl
    (λ p. at_calm setup past (entry step (Ok r)) r p (slice_get s.controls.outgoing p)
    (slice_get (after setup s step).controls.outgoing p)
    (polled_rows s (latest s m) o wall p (order_due s o) refl
    ∙ same_rows past (rows (slice_get s.controls.outgoing p))) (λ x. refl))
