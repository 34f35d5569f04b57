-- A client whose session ends is told of, with the news that were dropped in it.
use Rattle.std.specs.Prelude.{◌≡◌, ℕ, true, List, [], ◌∷◌, slice_get, Option}
use Rattle.std.specs.Prelude.{Some, None, Result, Ok, Err, if◌then◌else◌}
use Rattle.gw_map.specs.Settings.{Setup}
use Rattle.gw_steps.specs.declared.step.Step.{Step}
use Rattle.gw_steps.specs.declared.step.Reply.{Reply}
use Rattle.gw_steps.specs.declared.step.StepFault.{StepFault}
use Rattle.gw_steps.specs.Effects.{Effects, is_so}
use Rattle.gw_steps.specs.Queries.{dropped_at}
use Rattle.gw_steps.specs.Runs.{Entry}
use Rattle.gw_steps.specs.Premises.{client_at}
use Rattle.law_orders.specs.Sessions.{ends_session}
use Rattle.law_fates.specs.Fates.{effects_by}

-- 0 where there is no such client
abbrev pub count_at : Option ℕ → ℕ
count_at None = 0
count_at (Some n) = n

-- how many news were dropped in the session of client c that a step with this reply ends, if it ends it
abbrev pub dropped_by : Setup → List Entry → Step → Reply → ℕ → ℕ
dropped_by setup past step reply c = if ends_session step reply c then dropped_at (client_at setup c past) else 0

-- ---- the law

pub record TellsEnd (setup : Setup) (past : List Entry) (step : Step) (reply : Reply) (told : Effects) (c : ℕ) : Type 0
  where
    -- where its session ends, its writer is told
    pub due : ends_session step reply c ≡ true → is_so (slice_get told.due_clients c) ≡ true
    -- and how many news were dropped in it; of a session that doesn't end nothing is told
    pub dropped : count_at (slice_get told.dropped c) ≡ dropped_by setup past step reply c

-- of each client; a fault ends nothing
abbrev pub TellsEndsBy : Setup → List Entry → Entry → Result Reply StepFault → Type 0
TellsEndsBy setup past e (Ok reply) = (c : ℕ) → TellsEnd setup past e.step reply (effects_by setup past e) c
TellsEndsBy setup past e (Err fault) = Unit {0}

-- in the newest entry
abbrev pub TellsEnds : Setup → List Entry → Type 0
TellsEnds setup [] = Unit {0}
TellsEnds setup (e ∷ past) = TellsEndsBy setup past e e.reply
