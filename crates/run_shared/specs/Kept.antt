-- The step that is kept.
use Rattle.gw_steps.specs.declared.step.Step.{Step}
use Rattle.gw_steps.specs.declared.step.Step.TheVariants as steps
use Rattle.run_shared.specs.declared.kept.Kept.{Kept}
use Rattle.run_shared.specs.declared.kept.Kept.TheVariants.{Fragment, Other}

abbrev pub step_of : Kept → Step
step_of (Fragment response moment) = steps.Fragment response moment
step_of (Other step) = step
