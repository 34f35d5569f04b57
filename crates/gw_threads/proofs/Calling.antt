-- Calls that are made with a pass, one after another.
use Rattle.std.proofs.Common.{◌≡◌, List, [], ◌∷◌, ◌++◌, Result, refl, sym, ap, subst, ◌∙◌, append_assoc}
pub use Rattle.gw_station.proofs.All.{all-append}
use Rattle.gw_map.specs.Settings.{Setup}
use Rattle.gw_steps.specs.declared.step.Step.{Step}
use Rattle.gw_steps.specs.declared.step.Reply.{Reply}
use Rattle.gw_steps.specs.declared.step.StepFault.{StepFault}
use Rattle.run_shared.specs.Turn.{Pass}
use Rattle.run_shared.proofs.Pumping.{same_actor}
use Rattle.gw_threads.specs.Calls.{AreCalls, Call, given_by}

pub calls_then : (setup : Setup) (mine mid after : Pass) (a b : List Call) → AreCalls setup mine a mid
    → AreCalls setup mid b after → AreCalls setup mine (a ++ b) after
calls_then setup mine mid after [] b first more = subst (λ (p : Pass). AreCalls setup p b after) (sym first) more
calls_then setup mine mid after (c ∷ a) b first more =
    (first.0, (first.1.0, calls_then setup first.0 mid after a b first.1.1 more))

-- whoever makes them stays the actor that it is
pub calls_own : (setup : Setup) (mine after : Pass) (calls : List Call) → AreCalls setup mine calls after
    → after.actor ≡ mine.actor
calls_own setup mine after [] made = ap (λ (p : Pass). p.actor) (sym made)
calls_own setup mine after (c ∷ calls) made =
    calls_own setup made.0 after calls made.1.1 ∙ same_actor setup mine made.0 c.step (c.number, c.reply) made.1.0

pub given_then : {X : Type 0} (gives : Step → Result Reply StepFault → List X) (a b : List Call)
    → given_by gives (a ++ b) ≡ given_by gives a ++ given_by gives b
given_then {X} gives [] b = refl
given_then {X} gives (c ∷ a) b =
    ap (λ (rest : List X). gives c.step c.reply ++ rest) (given_then gives a b)
    ∙ sym (append_assoc (gives c.step c.reply) (given_by gives a) (given_by gives b))
