use Rattle.std.proofs.Common.{◌≡◌, List, [], Result, subst}
use Rattle.gw_map.specs.Settings.{Setup}
use Rattle.gw_steps.specs.declared.step.Step.{Step}
use Rattle.gw_steps.specs.declared.step.Reply.{Reply}
use Rattle.gw_steps.specs.declared.step.StepFault.{StepFault}
use Rattle.gw_steps.specs.Runs.{history}
use Rattle.std.specs.List.{AllByRecursion}
use Rattle.gw_steps.specs.Premises.{IsSoundRun}
use Rattle.law_orders.specs.Bonds.{HasShortIndex, IsControlRun}
use Rattle.law_orders.proofs.Bonded.{bound, told_once}
use Rattle.law_orders.proofs.Follows.{told_when_due}
use Rattle.law_orders.proofs.CommandsTold.{commands_answered}
use Rattle.law_orders.proofs.RequestPlaces.{requests_due}
use Rattle.law_fates.proofs.Runs.{fates}
use Rattle.law_fates.proofs.Tells.{fates_told}
use Rattle.law_effects.proofs.Together.{steps_tell}
use Rattle.law_clients.proofs.Promised.{keeps_promises}
use Rattle.law_clients.proofs.Kept.{keeps_connections}
use Rattle.gw_hub.proofs.hub.Hub.run.Goals as goal

-- the run of a hub that was made of settings
run_of : (setup settings : Setup) (held steps : List Step) (replies : List (Result Reply StepFault))
    → setup ≡ settings → held ≡ steps → IsSoundRun setup (history [] held replies)
    → IsSoundRun settings (history [] steps replies)
run_of setup settings held steps replies same all run =
    subst (λ (s : Setup). IsSoundRun s (history [] steps replies)) same
    (subst (λ (ss : List Step). IsSoundRun setup (history [] ss replies)) all run)

pub returns-clause-promises : goal.returns-clause-promises
returns-clause-promises c =
    keeps_promises c.args.settings _
    (run_of _ _ _ c.args.steps.items c.in_ok-replies.replies.items c.in_ok-hub.ensures.setup c.deref.ensures.value
    c.in_ok-replies.ensures.run)

-- with what the settings keep of controls
control_run : (setup settings : Setup) (held steps : List Step) (replies : List (Result Reply StepFault))
    → setup ≡ settings → held ≡ steps → IsSoundRun setup (history [] held replies)
    → AllByRecursion HasShortIndex settings.controls → IsControlRun settings (history [] steps replies)
control_run setup settings held steps replies same all run short =
    let here = run_of setup settings held steps replies same all run in
    record { run = here.run; sound = here.sound; indices = short }

pub returns-clause-bonds : goal.returns-clause-bonds
returns-clause-bonds c =
    bound c.args.settings _
    (control_run _ _ _ c.args.steps.items c.in_ok-replies.replies.items c.in_ok-hub.ensures.setup c.deref.ensures.value
    c.in_ok-replies.ensures.run c.in_ok-hub.ensures.indices)

pub returns-clause-outcomes : goal.returns-clause-outcomes
returns-clause-outcomes c =
    told_once c.args.settings _
    (control_run _ _ _ c.args.steps.items c.in_ok-replies.replies.items c.in_ok-hub.ensures.setup c.deref.ensures.value
    c.in_ok-replies.ensures.run c.in_ok-hub.ensures.indices)

pub returns-clause-due : goal.returns-clause-due
returns-clause-due c =
    told_when_due c.args.settings _
    (run_of _ _ _ c.args.steps.items c.in_ok-replies.replies.items c.in_ok-hub.ensures.setup c.deref.ensures.value
    c.in_ok-replies.ensures.run) c.in_ok-hub.ensures.indices

pub returns-clause-fates : goal.returns-clause-fates
returns-clause-fates c =
    fates c.args.settings _
    (run_of _ _ _ c.args.steps.items c.in_ok-replies.replies.items c.in_ok-hub.ensures.setup c.deref.ensures.value
    c.in_ok-replies.ensures.run)

pub returns-clause-told : goal.returns-clause-told
returns-clause-told c =
    fates_told c.args.settings _
    (run_of _ _ _ c.args.steps.items c.in_ok-replies.replies.items c.in_ok-hub.ensures.setup c.deref.ensures.value
    c.in_ok-replies.ensures.run)

pub returns-clause-tells : goal.returns-clause-tells
returns-clause-tells c =
    steps_tell c.args.settings _
    (run_of _ _ _ c.args.steps.items c.in_ok-replies.replies.items c.in_ok-hub.ensures.setup c.deref.ensures.value
    c.in_ok-replies.ensures.run) c.in_ok-hub.ensures.indices

pub returns-clause-commands : goal.returns-clause-commands
returns-clause-commands c =
    commands_answered c.args.settings _
    (run_of _ _ _ c.args.steps.items c.in_ok-replies.replies.items c.in_ok-hub.ensures.setup c.deref.ensures.value
    c.in_ok-replies.ensures.run) c.in_ok-hub.ensures.indices

pub returns-clause-requests : goal.returns-clause-requests
returns-clause-requests c =
    requests_due c.args.settings _
    (run_of _ _ _ c.args.steps.items c.in_ok-replies.replies.items c.in_ok-hub.ensures.setup c.deref.ensures.value
    c.in_ok-replies.ensures.run) c.in_ok-hub.ensures.indices

pub returns-clause-connections : goal.returns-clause-connections
returns-clause-connections c =
    keeps_connections c.args.settings _
    (run_of _ _ _ c.args.steps.items c.in_ok-replies.replies.items c.in_ok-hub.ensures.setup c.deref.ensures.value
    c.in_ok-replies.ensures.run)
