-- What is confirmed is what is due.
use Rattle.std.proofs.Common.{◌≡◌, List, Ok, refl, ap, ◌∙◌}
use Rattle.gw_map.specs.Settings.{Setup}
use Rattle.dnp_master.specs.declared.verdict.Verdict.TheVariants as verdicts
use Rattle.gw_steps.specs.declared.step.Step.{Step}
use Rattle.gw_steps.specs.declared.step.Step.TheVariants as steps
use Rattle.gw_steps.specs.declared.step.Reply.{Reply}
use Rattle.gw_steps.specs.declared.step.Reply.TheVariants as replies
use Rattle.gw_steps.specs.Runs.{Entry}
use Rattle.law_history.specs.Confirmations as due
use Rattle.gw_threads.specs.Confirms.{confirmation_given, confirmation_in, octets_of}

-- both say the same of a reply
same_confirmation : (reply : Reply)
    → confirmation_in (Ok reply) ≡ octets_of (due.confirmation_in (due.verdict_in reply))
same_confirmation replies.Done = refl
same_confirmation (replies.Verdict (verdicts.Accepted confirm more ended)) = refl
same_confirmation (replies.Verdict (verdicts.Repeated confirm)) = refl
same_confirmation (replies.Verdict (verdicts.Ignored why)) = refl
same_confirmation (replies.Request request) = refl
same_confirmation (replies.Apdu apdu) = refl
same_confirmation replies.Taken = refl
same_confirmation (replies.Closed why) = refl
same_confirmation replies.Nothing = refl
same_confirmation (replies.Ticked closed) = refl

pub due_given : (setup : Setup) (past : List Entry) (step : Step) (reply : Reply)
    → due.Confirms setup past step reply
    → confirmation_given step (Ok reply) ≡ octets_of (due.confirmation_due setup past step)
due_given setup past (steps.Fragment f moment) reply confirms =
    same_confirmation reply ∙ ap octets_of confirms.confirmation
due_given setup past (steps.OutstationUp o moment) reply confirms = refl
due_given setup past (steps.OutstationDown o moment) reply confirms = refl
due_given setup past (steps.Poll o moment wall) reply confirms = refl
due_given setup past (steps.ClientUp c moment) reply confirms = refl
due_given setup past (steps.ClientDown c moment) reply confirms = refl
due_given setup past (steps.Frame c apdu moment) reply confirms = refl
due_given setup past (steps.Pump c moment) reply confirms = refl
due_given setup past (steps.Tick moment) reply confirms = refl
