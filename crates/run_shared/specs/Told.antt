-- What an actor's newest call did besides what it was answered.
use Rattle.std.specs.Prelude.{ℕ, ◌==◌, List, [], ◌∷◌, if◌then◌else◌}
use Rattle.gw_map.specs.Settings.{Setup}
use Rattle.gw_steps.specs.Effects.{Effects, effects_with, no_effects}
use Rattle.gw_steps.specs.Runs.{state_after}
use Rattle.run_shared.specs.Reached.{Deed, entries_of}

-- what the newest of an actor's calls did, where this is the history, the newest first; before its first call, nothing
abbrev pub newest_effects : Setup → ℕ → List Deed → Effects
newest_effects setup actor [] = no_effects
newest_effects setup actor (deed ∷ before) =
    if actor == deed.0 then effects_with setup (state_after setup (entries_of before)) deed.1.step deed.1.reply
    else newest_effects setup actor before
