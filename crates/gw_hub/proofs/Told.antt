-- What is told behind a step is what it did.
use Rattle.std.proofs.Common.{◌≡◌, ℕ, ◌+◌, ◌-◌, true, Result, Ok, Err, refl, sym, ap, ◌∙◌, arith}
use Rattle.gw_map.specs.Settings.{Setup}
use Rattle.gw_steps.specs.declared.step.Step.{Step}
use Rattle.gw_steps.specs.declared.step.Reply.{Reply}
use Rattle.gw_steps.specs.declared.step.StepFault.{StepFault}
use Rattle.gw_steps.specs.State.{State}
use Rattle.gw_steps.specs.Steps.{after, can_be_counted, fault_of, needs, reply_to, Allowed}
use Rattle.gw_steps.specs.Effects.{Effects, clients_due, done_by, effects_of, effects_with, outstations_due, told_unless_fault, waiting_for}
use Rattle.gw_steps.proofs.Inversion.{answered}
use Rattle.gw_hub.specs.Hub.{told_behind}

rise : (before more : ℕ) → (before + more) - before ≡ more
rise before more = omega arith

-- where the step led to its state
behind : (setup : Setup) (s : State) (step : Step)
    → told_behind (after setup s step) step s.counts.news (waiting_for s step) (done_by setup s step)
    ≡ effects_of setup s step
behind setup s step =
    let new = after setup s step in
    let done = done_by setup s step in
    ap (λ (news : ℕ). record done {
      news = news;
      acknowledged = waiting_for s step - waiting_for new step;
      due_outstations = outstations_due new step done;
      due_clients = clients_due new step done;
    }) (rise s.counts.news (needs setup s step).counts.news)

pub told_either : (setup : Setup) (s : State) (step : Step) (reply : Result Reply StepFault) (new : State) (told : Effects)
    (news waiting : ℕ) → Allowed setup s step reply new
    → (can_be_counted s (needs setup s step) ≡ true → told ≡ done_by setup s step)
    → news ≡ s.counts.news → waiting ≡ waiting_for s step
    → told_unless_fault reply (told_behind new step news waiting told) ≡ effects_with setup s step reply
told_either setup s step (Err fault) new told news waiting allowed is n w = refl
told_either setup s step (Ok r) new told news waiting allowed is n w =
    let rises = (answered (fault_of s step) (can_be_counted s (needs setup s step)) (reply_to setup s step) r allowed.0).1 in
    ap (λ (t : State). told_behind t step news waiting told) allowed.1
    ∙ (ap (λ (it : Effects). told_behind (after setup s step) step news waiting it) (is rises)
    ∙ (ap (λ (m : ℕ). told_behind (after setup s step) step m waiting (done_by setup s step)) n
    ∙ (ap (λ (m : ℕ). told_behind (after setup s step) step s.counts.news m (done_by setup s step)) w
    ∙ behind setup s step)))
