use Rattle.std.proofs.Common.{◌++◌, ◌∙◌, ℕ, List, Result, ap, subst, sym}
use Rattle.gw_steps.specs.declared.step.Step.TheVariants as steps
use Rattle.gw_steps.specs.declared.step.Reply.{Reply}
use Rattle.gw_steps.specs.declared.step.StepFault.{StepFault}
use Rattle.run_shared.specs.Turn.{Core}
use Rattle.run_shared.specs.Made.{IsMadeInto, octets_given}
use Rattle.run_shared.proofs.Making.{made_one, nothing_given}
use Rattle.run_shared.proofs.locked.Core.pump_next.Goals as goal

pub returns-in-Some-clause-made : goal.returns-in-Some-clause-made
returns-in-Some-clause-made g c =
    let batch = c.args.batch.now in
    let answer = c.answer-number.result.0 in
    subst (λ (core : Core). IsMadeInto g.L.Course.setup (steps.Pump c.args.client c.args.moment) c.args.self.now core c.args.pass.now
    c.answer-number.new.pass batch c.add.new.self) (sym c.self.view_is)
    (made_one _ _ _ _ _ _ _ _ answer c.answer-number.ensures.step
    (c.add.ensures
    ∙ ap (λ (back : List ℕ). batch ++ back) (c.as_slice.ensures
    ∙ sym (ap (λ (r : Result Reply StepFault). octets_given (answer.0, r)) c.in-Some.ensures))))

pub returns-in-None-clause-made : goal.returns-in-None-clause-made
returns-in-None-clause-made g c =
    made_one _ _ _ _ _ _ _ _ c.answer-number.result.0 c.answer-number.ensures.step
    (nothing_given _ c.answer-number.result.0 c.in-None.ensures)
