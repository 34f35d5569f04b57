-- One more call on a hub that a tape replays to.
use Rattle.std.proofs.Common.{◌≡◌, ℕ, List, [], ◌∷◌, ◌++◌, Option, Some}
use Rattle.std.proofs.Common.{None, Result, Ok, Err, refl, sym, subst, ◌∙◌}
use Rattle.std.specs.Prelude.{option_map}
use Rattle.gw_map.specs.Settings.{Setup}
use Rattle.gw_steps.specs.declared.step.Step.{Step}
use Rattle.gw_steps.specs.declared.step.Reply.{Reply}
use Rattle.gw_steps.specs.declared.step.StepFault.{StepFault}
use Rattle.gw_steps.specs.State.{Hub, State}
use Rattle.gw_steps.specs.Steps.{Allowed}
use Rattle.run_shared.specs.declared.entry.Entry.{Entry}
use Rattle.run_shared.specs.Recorded.{replayed, state_following, IsReplay}
use Rattle.run_shared.specs.Recording.{Replays, Tape, call_of, tape_with}

-- what a step leads to
pub following : (setup : Setup) (s : State) (step : Step) (reply : Result Reply StepFault) (new : State)
    → Allowed setup s step reply new → new ≡ state_following setup s step reply
following setup s step (Ok r) new allowed = allowed.1
following setup s step (Err f) new allowed = allowed.1

replayed-push : (setup : Setup) (s : State) (es : List Entry) (e : Entry)
    → replayed setup s (es ++ e ∷ []) ≡ state_following setup (replayed setup s es) e.step e.reply
replayed-push setup s [] e = refl
replayed-push setup s (x ∷ es) e = replayed-push setup (state_following setup s x.step x.reply) es e

replay-push : (setup : Setup) (s : State) (es : List Entry) (e : Entry) → IsReplay setup s es
    → Allowed setup (replayed setup s es) e.step e.reply (state_following setup (replayed setup s es) e.step e.reply)
    → IsReplay setup s (es ++ e ∷ [])
replay-push setup s [] e before allowed = (allowed, tt)
replay-push setup s (x ∷ es) e before allowed =
    (before.0, replay-push setup (state_following setup s x.step x.reply) es e before.1 allowed)

-- a step was made on the hub, and noted
pub replays-push : (tape : Option Tape) (old new : Hub) (counts : List ℕ) (actor : ℕ) (step : Step)
    (reply : Result Reply StepFault)
    → Replays tape old → Allowed old.setup old.state step reply new.state → new.setup ≡ old.setup
    → Replays (option_map (tape_with (call_of counts actor step reply)) tape) new
replays-push None old new counts actor step reply replays allowed setup = tt
replays-push (Some tape) old new counts actor step reply replays allowed setup =
    let e : Entry = call_of counts actor step reply in
    let base = tape.base.setup in
    let so_far = replayed base tape.base.state tape.entries in
    let there : Allowed base so_far step reply new.state =
    subst (λ (s : State). Allowed base s step reply new.state) replays.2
    (subst (λ (c : Setup). Allowed c old.state step reply new.state) (sym replays.0) allowed) in
    let leads : new.state ≡ state_following base so_far step reply =
    following base so_far step reply new.state there in (
      replays.0 ∙ sym setup,
      replay-push base tape.base.state tape.entries e replays.1
          (subst (λ (s : State). Allowed base so_far step reply s) leads there),
      leads ∙ sym (replayed-push base tape.base.state tape.entries e),
    )
