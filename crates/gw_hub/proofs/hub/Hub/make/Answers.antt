use Rattle.std.proofs.Common.{[], length, refl, sym, ap, subst, ◌∙◌, arith}
use Rattle.gw_map.specs.Settings.{Setup}
use Rattle.gw_steps.specs.Carried.{IsMeant}
use Rattle.gw_steps.specs.Sound.{IsSoundState}
use Rattle.gw_steps.specs.State.{State}
use Rattle.gw_steps.specs.Steps.{Allowed}
use Rattle.gw_steps.proofs.Running.{Ran, ran_first, run_on, run_all}
use Rattle.gw_hub.proofs.Made.{made}
use Rattle.gw_hub.proofs.Each.{all_more}
use Rattle.gw_hub.proofs.hub.Hub.make.Goals as goal

pub loop-step-init : goal.loop-step-init
loop-step-init c = (
  ap length c.in_ok-replies.ensures.items,
  refl,
  subst (λ (s : State). Ran c.args.self.now.setup [] s) (sym c.requires.first) (ran_first c.args.self.now.setup),
  tt,
)

pub loop-step-preserved : goal.loop-step-preserved
loop-step-preserved c =
    let setup = c.args.self.now.setup in
    let before = c.loop-step.self.state in
    let new = c.step.new.self.state in
    let same = c.loop-step.invariant.1 in
    let allowed : Allowed setup before c.step-item.result c.step.result new =
    subst (λ (s : Setup). Allowed s before c.step-item.result c.step.result new) same c.step.ensures.step in
    let sound : IsSoundState setup new =
    subst (λ (s : Setup). IsSoundState s new) (c.step.ensures.setup ∙ same) c.step.ensures.sound in (
      omega (arith, c.loop-step.invariant.0, c.in_ok-push.ensures.len),
      c.step.ensures.setup ∙ same,
      run_on setup c.args.steps.now c.loop-step.replies.items c.push.new.self.items c.loop-step.step-index
          c.step-item.result c.step.result before new
          allowed sound (omega (arith, c.loop-step-test.true)) c.step-item.is c.loop-step.invariant.0
          c.in_ok-push.ensures.items c.loop-step.invariant.2,
      all_more IsMeant c.args.steps.now c.loop-step.step-index c.step-item.result
          (omega (arith, c.loop-step-test.true)) c.step-item.is c.attest.ensures
          c.loop-step.invariant.3,
    )

pub returns-clause-run : goal.returns-clause-run
returns-clause-run c =
    made c.args.self.now.setup c.args.steps.now c.loop-step.replies.items c.loop-step.step-index c.loop-step.self.state
    c.requires.addresses c.attest_rows.ensures c.requires.station
    c.loop-step-test.false c.loop-step.invariant.2 c.loop-step.invariant.3

pub returns-clause-replies : goal.returns-clause-replies
returns-clause-replies c = omega (arith, c.loop-step.invariant.0, c.loop-step.auto, c.loop-step-test.false)

pub returns-clause-state : goal.returns-clause-state
returns-clause-state c =
    let ran = run_all c.args.self.now.setup c.args.steps.now c.loop-step.replies.items c.loop-step.step-index
    c.loop-step.self.state c.loop-step-test.false c.loop-step.invariant.2 in
    ran.state
