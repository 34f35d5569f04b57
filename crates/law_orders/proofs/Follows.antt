-- In every run the orders that are pending, and what is told of them, are what the history says.
use Rattle.std.proofs.Common.{◌≡◌, ℕ, zero, suc, not, List, [], ◌∷◌, length, map, replicate}
use Rattle.std.proofs.Common.{Option, Some, None, Result, Ok, Err, refl, sym, ap, ◌∙◌}
use Rattle.std.specs.Prelude.{slice_get}
use Rattle.std.specs.List.{AllByRecursion, filter}
use Rattle.gw_map.specs.Settings.{Setup}
use Rattle.gw_control.specs.declared.accepted.Accepted.{Accepted}
use Rattle.gw_control.specs.declared.accepted.UnderWay.{UnderWay}
use Rattle.gw_control.specs.Orders.{Outgoing, nothing_outgoing}
use Rattle.gw_steps.specs.declared.step.Step.{Step}
use Rattle.gw_steps.specs.declared.step.StepFault.{StepFault}
use Rattle.gw_steps.specs.declared.step.Reply.{Reply}
use Rattle.gw_steps.specs.State.{State}
use Rattle.gw_steps.specs.Steps.{Allowed, after}
use Rattle.gw_steps.specs.Runs.{AtEach, Entry, IsRun, state_after}
use Rattle.gw_steps.proofs.Running.{entry, last_place, at_each}
use Rattle.gw_steps.specs.Premises.{IsSoundRun}
use Rattle.law_history.proofs.Places.{Place as HistoryPlace, places as history_places}
use Rattle.law_orders.specs.Bonds.{HasShortIndex}
use Rattle.law_orders.specs.Marks.{marks}
use Rattle.law_orders.proofs.Held.{waiting_at}
use Rattle.law_orders.proofs.Bonded.{Place as BondPlace, places as bond_places}
use Rattle.law_orders.specs.Outcomes.{TellsDue}
use Rattle.law_orders.specs.Pending.{Pending, is_marked, pending, pending_with}
use Rattle.law_orders.proofs.PendingPlaces.{none_due}
use Rattle.law_orders.proofs.Rows.{Marked, row_waiting, rows, rows_in}
use Rattle.law_orders.proofs.Shapes.{marked_of}
use Rattle.law_orders.proofs.Kept.{Before, Follows, StepFollows}
use Rattle.law_orders.proofs.PendingSteps.{step_follows}

pub record Place (setup : Setup) (past : List Entry) : Type 0 where
  pub history : HistoryPlace setup past
  pub bonds : BondPlace setup past
  pub follows : Follows setup past (state_after setup past)
  pub told : TellsDue setup past

first_rows : (n o : ℕ) → rows (slice_get (replicate n nothing_outgoing) o) ≡ []
first_rows zero o = refl
first_rows (suc n) zero = refl
first_rows (suc n) (suc o) = first_rows n o

before_of : (setup : Setup) (past : List Entry) → HistoryPlace setup past → BondPlace setup past
    → Before setup past (state_after setup past)
before_of setup past history bonds =
    record { sound = history.known.sound; history = history.known.tied; orders = bonds.tied }

one_more : (setup : Setup) (past : List Entry) (step : Step) (reply : Result Reply StepFault)
    → Allowed setup (state_after setup past) step reply (state_after setup (entry step reply ∷ past))
    → HistoryPlace setup (entry step reply ∷ past) → BondPlace setup (entry step reply ∷ past) → Place setup past
    → Place setup (entry step reply ∷ past)
one_more setup past step (Ok r) allowed history bonds so_far =
    let k : StepFollows setup past step r (state_after setup past) (after setup (state_after setup past) step) =
    step_follows setup past step r allowed.0 (before_of setup past so_far.history so_far.bonds) bonds.tied in
    record {
      history = history;
      bonds = bonds;
      follows = λ o. k.pending o
          ∙ ap (λ (ps : List Pending). pending_with setup o past (entry step (Ok r)) ps r) (so_far.follows o);
      told = k.told so_far.follows;
    }
one_more setup past step (Err f) allowed history bonds so_far =
    record {
      history = history;
      bonds = bonds;
      follows = so_far.follows;
      told = sym (none_due setup past (entry step (Err f)) (length setup.outstations) (λ p. refl));
    }

joined : (setup : Setup) (past : List Entry) → IsRun setup past → AtEach (HistoryPlace setup) past
    → AtEach (BondPlace setup) past → AtEach (Place setup) past
joined setup [] run history bonds = record {
  history = history;
  bonds = bonds;
  follows = λ o. first_rows (length setup.outstations) o;
  told = tt;
}
joined setup (e ∷ past) run history bonds =
    let so_far = joined setup past run.1 history.1 bonds.1 in
    (one_more setup past e.step e.reply run.0 history.0 bonds.0 (last_place (Place setup) past so_far), so_far)

pub places : (setup : Setup) (past : List Entry) → IsSoundRun setup past → AllByRecursion HasShortIndex setup.controls
    → AtEach (Place setup) past
places setup past given short =
    joined setup past given.run (history_places setup past given)
    (bond_places setup past (record { run = given.run; sound = given.sound; indices = short }))

pub told_when_due : (setup : Setup) (past : List Entry) → IsSoundRun setup past
    → AllByRecursion HasShortIndex setup.controls → AtEach (TellsDue setup) past
told_when_due setup past given short =
    at_each (Place setup) (TellsDue setup) (λ before k. k.told) past (places setup past given short)

-- ---- orders that wait

waiting_rows : (past : List Entry) (xs : List Accepted) → AllByRecursion (λ x. marks x.order.number past ≡ []) xs
    → length (filter (λ p. not (is_marked (marks p.number past))) (map row_waiting xs)) ≡ length xs
waiting_rows past [] all = refl
waiting_rows past (x ∷ xs) all = rw all.0 (ap suc (waiting_rows past xs all.1))

unmarked_rows : (past : List Entry) (u : Option UnderWay) (xs : List Accepted)
    → Marked past (Some (record { waiting = xs; under_way = u }))
    → length (filter (λ p. not (is_marked (marks p.number past))) (rows_in u xs)) ≡ length xs
unmarked_rows past None xs k = waiting_rows past xs k.waiting
unmarked_rows past (Some u) xs k = rw (k.under_way u refl) (waiting_rows past xs k.waiting)

waiting_in : (past : List Entry) (q : Option Outgoing) → Marked past q
    → length (filter (λ p. not (is_marked (marks p.number past))) (rows q)) ≡ length (waiting_at q)
waiting_in past None k = refl
waiting_in past (Some q) k = unmarked_rows past q.under_way q.waiting k

-- as many wait as the history says
pub waiting_is : (setup : Setup) (past : List Entry) (o : ℕ) → Place setup past
    → length (waiting_at (slice_get (state_after setup past).controls.outgoing o))
    ≡ length (filter (λ p. not (is_marked (marks p.number past))) (pending setup o past))
waiting_is setup past o k =
    let s : State = state_after setup past in
    let q : Option Outgoing = slice_get s.controls.outgoing o in
    sym (waiting_in past q (marked_of setup past o (slice_get s.outstations o) q (k.bonds.tied.places o)))
    ∙ ap (λ (ps : List Pending). length (filter (λ p. not (is_marked (marks p.number past))) ps)) (k.follows o)
