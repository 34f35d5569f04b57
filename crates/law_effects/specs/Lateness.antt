-- A request is told unanswered where the time for its answer has passed, by the history.
use Rattle.std.specs.Prelude.{◌≡◌, ℕ, Bool, false, List, [], ◌∷◌}
use Rattle.gw_map.specs.Settings.{Setup}
use Rattle.gw_steps.specs.declared.step.Step.{Step}
use Rattle.gw_steps.specs.declared.step.Step.TheVariants as steps
use Rattle.gw_steps.specs.State.{later}
use Rattle.gw_steps.specs.Runs.{Entry, unless_fault}
use Rattle.law_history.specs.Accepted.{moment_after}
use Rattle.law_orders.specs.Pending.{is_late_at}
use Rattle.law_fates.specs.Fates.{effects_by}
use Rattle.law_effects.specs.Rousing.{is_among}

-- a step finds the answer to the request of an outstation late, as only a tick does
abbrev pub is_late_in : Setup → ℕ → List Entry → Step → Bool
is_late_in setup o past (steps.Tick moment) = is_late_at setup o past (later (moment_after past) moment)
is_late_in setup o past _ = false

-- an entry does
abbrev pub is_late_by : Setup → ℕ → List Entry → Entry → Bool
is_late_by setup o past e = unless_fault false (λ _. is_late_in setup o past e.step) e.reply

-- ---- the law

-- the newest entry tells it of an outstation exactly where it does so
abbrev pub TellsLate : Setup → List Entry → Type 0
TellsLate setup [] = Unit {0}
TellsLate setup (e ∷ past) =
    (o : ℕ) → is_among o (effects_by setup past e).unanswered ≡ is_late_by setup o past e
