-- What the reply to a fragment says of the order that ended with it is the fate of that order.
use Rattle.std.specs.Prelude.{◌≡◌, List, [], ◌∷◌, map, Option, None}
use Rattle.std.specs.Option.{option_to_list}
use Rattle.gw_model.specs.declared.control.Ended.{Ended}
use Rattle.gw_map.specs.Settings.{Setup}
use Rattle.gw_steps.specs.declared.effects.OrderEnd.{OrderEnd}
use Rattle.gw_steps.specs.declared.step.Step.{Step}
use Rattle.gw_steps.specs.declared.step.Step.TheVariants as steps
use Rattle.gw_steps.specs.declared.step.Reply.{Reply}
use Rattle.gw_steps.specs.declared.step.Reply.TheVariants as replies
use Rattle.gw_steps.specs.Controls.{ended_in}
use Rattle.gw_steps.specs.Runs.{Entry, unless_fault}
use Rattle.law_fates.specs.Fates.{effects_by}
use Rattle.law_fates.specs.Told.{is_done}

-- the order that ended, as a reply has it: its number, and whether it was done
abbrev pub ended_by_reply : Reply → Option Ended
ended_by_reply (replies.Verdict verdict) = ended_in verdict
ended_by_reply _ = None

-- and as its fate has it
abbrev pub ended_by_fate : OrderEnd → Ended
ended_by_fate x = record { number = x.order; done = is_done x.fate }

-- ---- the law

-- of the orders that ended, an entry's reply says what it told
abbrev pub SaysFate : Setup → List Entry → Entry → Type 0
SaysFate setup past e =
    map ended_by_fate (effects_by setup past e).ended ≡ option_to_list (unless_fault None ended_by_reply e.reply)

-- a fragment's does
abbrev pub SaysFateOf : Setup → List Entry → Entry → Step → Type 0
SaysFateOf setup past e (steps.Fragment f moment) = SaysFate setup past e
SaysFateOf setup past e _ = Unit {0}

-- that of the newest entry
abbrev pub RepliesFate : Setup → List Entry → Type 0
RepliesFate setup [] = Unit {0}
RepliesFate setup (e ∷ past) = SaysFateOf setup past e e.step
