-- The history of a worked run: news wait, a client interrogates the station, and other news come.
use Rattle.std.specs.Prelude.{ℕ, List, [], ◌∷◌, ◌++◌}
use Rattle.gw_map.specs.Settings.{Setup}
use Rattle.gw_steps.specs.declared.step.Step.{Step}
use Rattle.gw_steps.specs.State.{State, at_first}
use Rattle.gw_steps.specs.Steps.{outcome, after}
use Rattle.gw_steps.specs.Runs.{Entry}
use Rattle.gw_steps.specs.Example.{setup, interrogated, pumps}

-- after a past these steps, none of which has a fault
abbrev pub made_after : Setup → State → List Entry → List Step → List Entry
made_after setup s past [] = past
made_after setup s past (step ∷ more) =
    made_after setup (after setup s step) (record { step = step; reply = outcome setup s step } ∷ past) more

-- the history of these steps, from the first state
abbrev pub history_of : Setup → List Step → List Entry
history_of setup ss = made_after setup (at_first setup) [] ss

abbrev pub made : List Step → List Entry
made ss = history_of setup ss

-- so many pumps after the interrogation
abbrev pub pumped : ℕ → List Entry
pumped n = made (interrogated ++ pumps n)
