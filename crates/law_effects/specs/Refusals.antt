-- Why a command is answered negatively is told exactly where it is.
use Rattle.std.specs.Prelude.{◌≡◌, Bool, true, false, is_some, List, [], ◌∷◌, Option, Some, None}
use Rattle.gw_map.specs.Settings.{Setup}
use Rattle.gw_control.specs.declared.answer.Answer.{Answer}
use Rattle.gw_control.specs.declared.answer.Answer.TheVariants as answers
use Rattle.gw_steps.specs.declared.effects.Judged.{Judged}
use Rattle.gw_steps.specs.Runs.{Entry}
use Rattle.law_fates.specs.Fates.{effects_by}

abbrev pub is_negative : Answer → Bool
is_negative answers.Negative = true
is_negative _ = false

-- ---- the law

-- what was judged of a command has a reason exactly where it is negative
abbrev pub HasReason : Option Judged → Type 0
HasReason None = Unit {0}
HasReason (Some judged) = is_some judged.refusal ≡ is_negative judged.answer

-- in the newest entry
abbrev pub TellsReason : Setup → List Entry → Type 0
TellsReason setup [] = Unit {0}
TellsReason setup (e ∷ past) = HasReason (effects_by setup past e).command
