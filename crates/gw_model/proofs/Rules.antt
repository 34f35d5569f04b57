-- That a rule has its numbers has one proof at most, so it may be a ghost field.
use Rattle.std.proofs.Common.{Option}
use Rattle.std.proofs.Props.{props}
use Rattle.gw_model.specs.declared.rule.ClockRule.{ClockRule}
use Rattle.gw_model.specs.Rule.{IsRuleOrNone}

pub IsRuleOrNone-prop : (rule : Option ClockRule) → IsProp (IsRuleOrNone rule)
unfolding IsRuleOrNone
IsRuleOrNone-prop rule = hlevel props
