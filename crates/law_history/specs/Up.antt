-- Which outstations are up, by steps and replies alone.
use Rattle.std.specs.Prelude.{ℕ, Bool, true, false, ◌==◌, List, [], ◌∷◌, if◌then◌else◌}
use Rattle.gw_steps.specs.declared.step.Step.{Step}
use Rattle.gw_steps.specs.declared.step.Step.TheVariants as steps
use Rattle.gw_steps.specs.Runs.{Entry, unless_fault}

-- after a step without a fault
abbrev pub up_after : ℕ → Step → Bool → Bool
up_after o (steps.OutstationUp p moment) up = if p == o then true else up
up_after o (steps.OutstationDown p moment) up = if p == o then false else up
up_after o _ up = up

-- outstation o came up, and wasn't lost since
abbrev pub is_outstation_up : ℕ → List Entry → Bool
is_outstation_up o [] = false
is_outstation_up o (e ∷ past) =
    let up = is_outstation_up o past in unless_fault up (λ reply. up_after o e.step up) e.reply
