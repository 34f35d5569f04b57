-- Each step leaves pending what the history says, and tells what is due.
use Rattle.std.proofs.Common.{◌≡◌, List, ◌∷◌, Ok, refl}
use Rattle.std.specs.Prelude.{slice_get}
use Rattle.gw_map.specs.Settings.{Setup}
use Rattle.gw_steps.specs.declared.step.Step.{Step}
use Rattle.gw_steps.specs.declared.step.Step.TheVariants as steps
use Rattle.gw_steps.specs.declared.step.Reply.{Reply}
use Rattle.gw_steps.specs.State.{State}
use Rattle.gw_steps.specs.Steps.{after, outcome}
use Rattle.gw_steps.specs.Runs.{Entry, state_after}
use Rattle.gw_steps.proofs.Running.{entry}
use Rattle.law_orders.proofs.PendingPlaces.{at_calm, same_rows}
use Rattle.law_orders.proofs.Rows.{rows}
use Rattle.law_orders.proofs.Kept.{StepFollows, Before, calm, After}
use Rattle.law_orders.proofs.Losses.{outstation_up, outstation_down}
use Rattle.law_orders.proofs.PendingPolls.{poll}
use Rattle.law_orders.proofs.Fragments.{fragment}
use Rattle.law_orders.proofs.Ticks.{tick}
use Rattle.law_orders.proofs.PendingApdus.{client_down, frame}

pub step_follows : (setup : Setup) (past : List Entry) (step : Step) (r : Reply)
    → outcome setup (state_after setup past) step ≡ Ok r → Before setup past (state_after setup past)
    → After setup (entry step (Ok r) ∷ past) (after setup (state_after setup past) step)
    → StepFollows setup past step r (state_after setup past) (after setup (state_after setup past) step)
step_follows setup past (steps.OutstationUp o m) r e k known = outstation_up setup past o m r (state_after setup past)
step_follows setup past (steps.OutstationDown o m) r e k known =
    outstation_down setup past o m r (state_after setup past) e k
step_follows setup past (steps.Fragment f m) r e k known =
    fragment setup past f m r (state_after setup past) e k known
step_follows setup past (steps.Poll o m wall) r e k known = poll setup past o m wall r (state_after setup past)
step_follows setup past (steps.ClientUp c m) r e k known =
    let s : State = state_after setup past in
    calm setup past (steps.ClientUp c m) r s (after setup s (steps.ClientUp c m)) refl
    (λ p. at_calm setup past (entry (steps.ClientUp c m) (Ok r)) r p (slice_get s.controls.outgoing p)
    (slice_get s.controls.outgoing p) (same_rows past (rows (slice_get s.controls.outgoing p))) (λ x. refl))
step_follows setup past (steps.ClientDown c m) r e k known =
    client_down setup past c m r (state_after setup past) k
step_follows setup past (steps.Frame c apdu m) r e k known = frame setup past c apdu m r e k
step_follows setup past (steps.Pump c m) r e k known =
    let s : State = state_after setup past in
    calm setup past (steps.Pump c m) r s (after setup s (steps.Pump c m)) refl
    (λ p. at_calm setup past (entry (steps.Pump c m) (Ok r)) r p (slice_get s.controls.outgoing p)
    (slice_get s.controls.outgoing p) (same_rows past (rows (slice_get s.controls.outgoing p))) (λ x. refl))
step_follows setup past (steps.Tick m) r e k known = tick setup past m r (state_after setup past) e k
