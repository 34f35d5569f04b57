-- All that is promised of what steps tell besides their replies, at a place of a history.
use Rattle.gw_map.specs.Settings.{Setup}
use Rattle.gw_steps.specs.Runs.{Entry}
use Rattle.law_effects.specs.Rousing.{LeavesNobodyAsleep}
use Rattle.law_effects.specs.Lateness.{TellsLate}
use Rattle.law_effects.specs.Replies.{RepliesFate}
use Rattle.law_effects.specs.Endings.{TellsEnds}
use Rattle.law_effects.specs.Refusals.{TellsReason}
use Rattle.std.specs.Prelude.{List}

pub record Tells (setup : Setup) (past : List Entry) : Type 0 where
  pub asleep : LeavesNobodyAsleep setup past
  pub late : TellsLate setup past
  pub fates : RepliesFate setup past
  pub ends : TellsEnds setup past
  pub reasons : TellsReason setup past
