-- In every run: each order that was accepted has ended, and that was told once, or it is on its way.
use Rattle.std.proofs.Common.{◌≡◌, ℕ, zero, suc, ◌+◌, Bool, List, [], ◌∷◌, ◌++◌}
use Rattle.std.proofs.Common.{length, map, Result, Ok, Err, refl, sym, ap, ◌∙◌, arith}
use Rattle.std.specs.Prelude.{replicate}
use Rattle.std.proofs.lemmas.List.{map-append}
use Rattle.gw_map.specs.Settings.{Setup}
use Rattle.gw_control.specs.Orders.{nothing_outgoing}
use Rattle.gw_steps.specs.declared.step.Step.{Step}
use Rattle.gw_steps.specs.declared.step.Step.TheVariants as steps
use Rattle.gw_steps.specs.declared.step.Reply.{Reply}
use Rattle.gw_steps.specs.declared.step.StepFault.{StepFault}
use Rattle.gw_steps.specs.Effects.{effects_with, no_effects}
use Rattle.gw_steps.specs.State.{State, at_first}
use Rattle.gw_steps.specs.Steps.{Allowed}
use Rattle.gw_steps.specs.Runs.{Entry, state_after, AtEach, IsRun}
use Rattle.gw_steps.specs.Sound.{LeavesSound}
use Rattle.gw_steps.proofs.Running.{entry, last_place}
use Rattle.gw_steps.specs.Premises.{IsSoundRun}
use Rattle.law_clients.proofs.Clients.{eight_clients}
use Rattle.law_fates.specs.Fates.{Named, accepted_in, all_accepted, all_ended, effects_by}
use Rattle.law_fates.specs.Fates.{down_from, ended_in, on_their_way, HasOneFateEach, NewestEnds}
use Rattle.law_fates.proofs.Counts.{all_count, all_so, times, times_append}
use Rattle.law_fates.proofs.Ordering.{numbered_with}
use Rattle.law_fates.proofs.Permuted.{permuted}
use Rattle.law_fates.proofs.Steps.{step_ends, step_numbers}

-- ---- one step

-- with a fault it does nothing
none_accepted : (p : Named → Bool) (setup : Setup) (step : Step) → times p (accepted_in setup step no_effects) ≡ 0
none_accepted p setup (steps.Frame c apdu m) = refl
none_accepted p setup _ = refl

none_numbered : (setup : Setup) (step : Step) (count : ℕ)
    → numbered_with (accepted_in setup step no_effects) count ≡ down_from count
none_numbered setup (steps.Frame c apdu m) count = refl
none_numbered setup _ count = refl

entry_ends : (p : Named → Bool) (setup : Setup) (past : List Entry) (step : Step) (reply : Result Reply StepFault)
    → Allowed setup (state_after setup past) step reply (state_after setup (entry step reply ∷ past))
    → LeavesSound setup past
    → times p (on_their_way (state_after setup past))
    + times p (accepted_in setup step (effects_with setup (state_after setup past) step reply))
    ≡ times p (ended_in (effects_with setup (state_after setup past) step reply))
    + times p (on_their_way (state_after setup (entry step reply ∷ past)))
entry_ends p setup past step (Ok r) allowed sound =
    step_ends p setup (state_after setup past) step r sound (eight_clients setup past) allowed.0
entry_ends p setup past step (Err fault) allowed sound = omega (arith, none_accepted p setup step)

entry_numbers : (setup : Setup) (past : List Entry) (step : Step) (reply : Result Reply StepFault)
    → numbered_with (accepted_in setup step (effects_with setup (state_after setup past) step reply))
    (state_after setup past).controls.ordered
    ≡ down_from (state_after setup (entry step reply ∷ past)).controls.ordered
entry_numbers setup past step (Ok r) = step_numbers setup (state_after setup past) step
entry_numbers setup past step (Err fault) =
    none_numbered setup step (state_after setup past).controls.ordered

-- ---- a run

none_so : (p : Named → Bool) (i n : ℕ) → all_so p i (replicate n nothing_outgoing) ≡ 0
none_so p i zero = refl
none_so p i (suc n) = omega (arith, none_so p (suc i) n)

run_ends : (p : Named → Bool) (setup : Setup) (past : List Entry) → IsRun setup past → AtEach (LeavesSound setup) past
    → times p (all_accepted setup past)
    ≡ times p (all_ended setup past) + times p (on_their_way (state_after setup past))
run_ends p setup [] run sound =
    omega (
      arith,
      all_count p 0 (at_first setup).controls.outgoing,
      none_so p 0 (length setup.outstations),
    )
run_ends p setup (e ∷ past) run sound =
    let newest : times p (on_their_way (state_after setup past))
    + times p (accepted_in setup e.step (effects_by setup past e))
    ≡ times p (ended_in (effects_by setup past e)) + times p (on_their_way (state_after setup (e ∷ past))) =
    entry_ends p setup past e.step e.reply run.0 (last_place (LeavesSound setup) past sound.1) in
    omega (
      arith,
      newest,
      times_append p (accepted_in setup e.step (effects_by setup past e)) (all_accepted setup past),
      times_append p (ended_in (effects_by setup past e)) (all_ended setup past),
      run_ends p setup past run.1 sound.1,
    )

run_numbers : (setup : Setup) (past : List Entry)
    → map (λ x. x.number) (all_accepted setup past) ≡ down_from (state_after setup past).controls.ordered
run_numbers setup [] = refl
run_numbers setup (e ∷ past) =
    let number : Named → ℕ = λ x. x.number in
    let accepted : List Named = accepted_in setup e.step (effects_by setup past e) in
    map-append number accepted (all_accepted setup past)
    ∙ (ap (λ (ns : List ℕ). map number accepted ++ ns) (run_numbers setup past)
    ∙ entry_numbers setup past e.step e.reply)

newest_ends : (setup : Setup) (past : List Entry) → IsRun setup past → AtEach (LeavesSound setup) past
    → NewestEnds setup past
newest_ends setup [] run sound = tt
newest_ends setup (e ∷ past) run sound =
    let s : State = state_after setup past in
    let new : State = state_after setup (e ∷ past) in
    let accepted : List Named = accepted_in setup e.step (effects_by setup past e) in
    let ended : List Named = ended_in (effects_by setup past e) in
    permuted (on_their_way s ++ accepted) (ended ++ on_their_way new)
    (λ p. times_append p (on_their_way s) accepted
    ∙ (entry_ends p setup past e.step e.reply run.0 (last_place (LeavesSound setup) past sound.1)
    ∙ sym (times_append p ended (on_their_way new))))

here : (setup : Setup) (past : List Entry) → IsRun setup past → AtEach (LeavesSound setup) past
    → HasOneFateEach setup past
here setup past run sound = record {
  numbered = run_numbers setup past;
  once = permuted (all_accepted setup past) (all_ended setup past ++ on_their_way (state_after setup past))
      (λ p. run_ends p setup past run sound
      ∙ sym (times_append p (all_ended setup past) (on_their_way (state_after setup past))));
  newest = newest_ends setup past run sound;
}

each : (setup : Setup) (past : List Entry) → IsRun setup past → AtEach (LeavesSound setup) past
    → AtEach (HasOneFateEach setup) past
each setup [] run sound = here setup [] run sound
each setup (e ∷ past) run sound = (here setup (e ∷ past) run sound, each setup past run.1 sound.1)

pub fates : (setup : Setup) (past : List Entry) → IsSoundRun setup past → AtEach (HasOneFateEach setup) past
fates setup past run = each setup past run.run run.sound
