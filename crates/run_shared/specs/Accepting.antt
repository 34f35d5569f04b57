-- The order that a step accepted.
use Rattle.std.specs.Prelude.{ℕ, Option, Some, None, option_and_then}
use Rattle.gw_control.specs.declared.answer.Answer.{Answer}
use Rattle.gw_control.specs.declared.answer.Answer.TheVariants.{Ordered}
use Rattle.gw_steps.specs.declared.effects.Judged.{Judged}
use Rattle.gw_steps.specs.Effects.{Effects}

-- the number of the order as which a command was accepted, if it was
abbrev pub number_in : Answer → Option ℕ
number_in (Ordered number) = Some number
number_in _ = None

-- that of the command that a step judged
abbrev pub order_accepted : Effects → Option ℕ
order_accepted told = option_and_then (λ (judged : Judged). number_in judged.answer) told.command
