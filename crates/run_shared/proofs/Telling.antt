-- What the newest call of an actor did, behind calls of its own and of others; and the room for that.
use Rattle.std.proofs.Common.{◌≡◌, ◌==◌, ◌≤◌, ℕ, length, Bool, true, false, cond, List, []}
use Rattle.std.proofs.Common.{◌∷◌, ◌++◌, Some, None, Result, refl, sym, ap, subst, ◌∙◌, eq-eqb}
use Rattle.std.specs.List.{cons_option}
use Rattle.std.proofs.lemmas.List.{length-replicate}
use Rattle.gw_map.specs.Settings.{Setup}
use Rattle.gw_steps.specs.declared.step.Step.{Step}
use Rattle.gw_steps.specs.declared.step.Reply.{Reply}
use Rattle.gw_steps.specs.declared.step.StepFault.{StepFault}
use Rattle.gw_steps.specs.State.{Hub, State}
use Rattle.gw_steps.specs.Runs.{state_after}
use Rattle.gw_steps.specs.Effects.{Effects, effects_with}
use Rattle.run_log.specs.Follows.{Follows, of_lane}
use Rattle.run_shared.specs.Reached.{Deed, IsFirst, IsReached, entries_of, entry}
use Rattle.run_shared.specs.Told.{newest_effects}

-- behind a call of the actor it is what that call did
pub effects_then : (setup : Setup) (actor : ℕ) (step : Step) (reply : Result Reply StepFault) (past : List Deed)
    → newest_effects setup actor ((actor, entry step reply) ∷ past)
    ≡ effects_with setup (state_after setup (entries_of past)) step reply
effects_then setup actor step reply past =
    ap (λ (same : Bool). cond same (effects_with setup (state_after setup (entries_of past)) step reply)
    (newest_effects setup actor past)) (eq-eqb actor actor refl)

-- which a hub told that a history led to
pub told_then : (setup : Setup) (hub : Hub) (past now : List Deed) (made actor : ℕ) (step : Step)
    (reply : Result Reply StepFault) (told : Effects)
    → IsReached setup hub past made → told ≡ effects_with hub.setup hub.state step reply
    → now ≡ (actor, entry step reply) ∷ past → told ≡ newest_effects setup actor now
told_then setup hub past now made actor step reply told reached tells is =
    tells
    ∙ (ap (λ (s : Setup). effects_with s hub.state step reply) reached.setup_is
    ∙ (ap (λ (s : State). effects_with setup s step reply) reached.state
    ∙ (sym (effects_then setup actor step reply past) ∙ ap (newest_effects setup actor) (sym is))))

-- behind calls of others it is what it was
pub told_still : (setup : Setup) (actor : ℕ) (past later : List Deed) → Follows actor past later
    → newest_effects setup actor later ≡ newest_effects setup actor past
told_still setup actor past later follows = ap (newest_effects setup actor) follows.is ∙ by follows.newer follows.apart
  where
    by : (newer : List Deed) → of_lane actor newer ≡ []
        → newest_effects setup actor (newer ++ past) ≡ newest_effects setup actor past
    by [] apart = refl
    by (deed ∷ newer) apart = other (actor == deed.0) apart (λ none. by newer none)
      where
        other : (same : Bool) → cons_option (cond same (Some deed.1) None) (of_lane actor newer) ≡ []
            → (of_lane actor newer ≡ [] → newest_effects setup actor (newer ++ past) ≡ newest_effects setup actor past)
            → cond same (effects_with setup (state_after setup (entries_of (newer ++ past))) deed.1.step deed.1.reply)
            (newest_effects setup actor (newer ++ past))
            ≡ newest_effects setup actor past
        other true none rest = absurd (cc none)
        other false none rest = rest none

-- room for all outstations that a hub has at first
pub room_for_all : (setup : Setup) (hub : Hub) (room : ℕ) → IsFirst setup hub
    → length hub.state.controls.outgoing ≤ room → length setup.outstations ≤ room
room_for_all setup hub room first fits =
    subst (λ (n : ℕ). n ≤ room)
    (ap (λ (s : State). length s.controls.outgoing) first.state ∙ length-replicate _ _) fits
