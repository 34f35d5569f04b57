-- At each place of every run a poll gave what was due.
use Rattle.std.proofs.Common.{List, [], ◌∷◌}
use Rattle.std.specs.List.{AllByRecursion}
use Rattle.gw_map.specs.Settings.{Setup}
use Rattle.gw_steps.specs.Runs.{AtEach, Entry, IsRun, state_after}
use Rattle.gw_steps.proofs.Running.{last_place, at_each}
use Rattle.gw_steps.specs.Premises.{IsSoundRun}
use Rattle.law_orders.specs.Bonds.{HasShortIndex}
use Rattle.law_orders.proofs.Follows.{Place as OrderPlace, places as order_places}
use Rattle.law_orders.specs.Requests.{Requests}
use Rattle.law_orders.proofs.RequestGiven.{Known, entry_gives}
use Rattle.law_orders.proofs.RequestSteps.{Told, first_told, told_more}

record Place (setup : Setup) (past : List Entry) : Type 0 where
  told : Told setup past (state_after setup past)
  gives : Requests setup past

known : (setup : Setup) (past : List Entry) → OrderPlace setup past → Told setup past (state_after setup past)
    → Known setup past
known setup past here told = record {
  history = here.history.known.tied;
  orders = here.bonds.tied.places;
  pending = here.follows;
  told = told;
}

joined : (setup : Setup) (past : List Entry) → IsRun setup past → AtEach (OrderPlace setup) past
    → AtEach (Place setup) past
joined setup [] run at = record { told = first_told setup; gives = tt }
joined setup (e ∷ past) run at =
    let so_far = joined setup past run.1 at.1 in
    let here : OrderPlace setup past = last_place (OrderPlace setup) past at.1 in
    let before : Place setup past = last_place (Place setup) past so_far in (
      record {
        told = told_more setup past e.step e.reply run.0 here.history.known.tied before.told;
        gives = entry_gives setup past e.step e.reply run.0 (known setup past here before.told);
      },
      so_far,
    )

pub requests_due : (setup : Setup) (past : List Entry) → IsSoundRun setup past
    → AllByRecursion HasShortIndex setup.controls → AtEach (Requests setup) past
requests_due setup past given short =
    at_each (Place setup) (Requests setup) (λ before k. k.gives) past
    (joined setup past given.run (order_places setup past given short))
