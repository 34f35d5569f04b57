-- The laws together, at each place of a run.
use Rattle.std.proofs.Common.{List, [], ◌∷◌}
use Rattle.std.specs.List.{AllByRecursion}
use Rattle.gw_map.specs.Settings.{Setup}
use Rattle.gw_steps.specs.Runs.{AtEach, Entry}
use Rattle.gw_steps.specs.Premises.{IsSoundRun}
use Rattle.law_orders.specs.Bonds.{HasShortIndex}
use Rattle.law_effects.specs.Rousing.{LeavesNobodyAsleep}
use Rattle.law_effects.specs.Lateness.{TellsLate}
use Rattle.law_effects.specs.Replies.{RepliesFate}
use Rattle.law_effects.specs.Endings.{TellsEnds}
use Rattle.law_effects.specs.Refusals.{TellsReason}
use Rattle.law_effects.specs.Tells.{Tells}
use Rattle.law_effects.proofs.Asleep.{nobody_asleep}
use Rattle.law_effects.proofs.Late.{late_told}
use Rattle.law_effects.proofs.Replied.{fates_replied}
use Rattle.law_effects.proofs.Ending.{ends_told}
use Rattle.law_effects.proofs.Refused.{reasons_told}

joined : (setup : Setup) (past : List Entry) → AtEach (LeavesNobodyAsleep setup) past → AtEach (TellsLate setup) past
    → AtEach (RepliesFate setup) past → AtEach (TellsEnds setup) past → AtEach (TellsReason setup) past
    → AtEach (Tells setup) past
joined setup [] asleep late fates ends reasons =
    record { asleep = asleep; late = late; fates = fates; ends = ends; reasons = reasons }
joined setup (e ∷ past) asleep late fates ends reasons = (
  record { asleep = asleep.0; late = late.0; fates = fates.0; ends = ends.0; reasons = reasons.0 },
  joined setup past asleep.1 late.1 fates.1 ends.1 reasons.1,
)

pub steps_tell : (setup : Setup) (past : List Entry) → IsSoundRun setup past
    → AllByRecursion HasShortIndex setup.controls → AtEach (Tells setup) past
steps_tell setup past run short =
    joined setup past (nobody_asleep setup past) (late_told setup past run) (fates_replied setup past run short)
    (ends_told setup past run) (reasons_told setup past)
