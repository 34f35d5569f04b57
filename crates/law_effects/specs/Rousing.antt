-- Nobody is left asleep: a step tells of each outstation and each client to which it brings something to do.
use Rattle.std.specs.Prelude.{◌≡◌, ℕ, Bool, true, false, not, ◌&&◌, ◌||◌}
use Rattle.std.specs.Prelude.{◌==◌, List, [], ◌∷◌, slice_get, Result, Ok, Err}
use Rattle.gw_map.specs.Settings.{Setup}
use Rattle.gw_steps.specs.declared.step.Step.{Step}
use Rattle.gw_steps.specs.declared.step.Step.TheVariants as steps
use Rattle.gw_steps.specs.declared.step.Reply.{Reply}
use Rattle.gw_steps.specs.declared.step.StepFault.{StepFault}
use Rattle.gw_steps.specs.Effects.{Effects, is_so}
use Rattle.gw_steps.specs.Queries.{has_offer, is_poll_due_of}
use Rattle.gw_steps.specs.State.{State}
use Rattle.gw_steps.specs.Runs.{Entry, state_after}
use Rattle.law_fates.specs.Fates.{effects_by}

-- ---- who has something to do

-- by a state, a request would be due to an outstation at a moment
abbrev pub is_due_at : ℕ → State → ℕ → Bool
is_due_at moment s o = is_poll_due_of moment (slice_get s.controls.outgoing o) (slice_get s.outstations o)

-- by a state, something might be put out to a client at a moment
abbrev pub is_offered_at : ℕ → State → ℕ → Bool
is_offered_at moment s c = has_offer moment (slice_get s.clients c)

-- ---- what a step brings

-- it would be so at the moment of a step also without it. That counts for nothing at a tick, which comes as time passes
abbrev pub is_without : Step → Bool → Bool
is_without (steps.Tick moment) before = false
is_without _ before = before

-- it is so now, and wouldn't be without the step
abbrev pub comes_by : Step → Bool → Bool → Bool
comes_by step before now = now && not (is_without step before)

-- a request comes to be due
abbrev pub becomes_due : State → Step → State → ℕ → Bool
becomes_due s step new o = comes_by step (is_due_at new.moment s o) (is_due_at new.moment new o)

-- and something to be put out
abbrev pub becomes_offered : State → Step → State → ℕ → Bool
becomes_offered s step new c = comes_by step (is_offered_at new.moment s c) (is_offered_at new.moment new c)

-- ---- the law

-- a number is one of these
abbrev pub is_among : ℕ → List ℕ → Bool
is_among n [] = false
is_among n (x ∷ xs) = (x == n) || is_among n xs

-- a step that led from one state to another tells of them
pub record Rouses (s : State) (step : Step) (told : Effects) (new : State) : Type 0 where
  pub outstations : (o : ℕ) → becomes_due s step new o ≡ true → is_among o told.due_outstations ≡ true
  pub clients : (c : ℕ) → becomes_offered s step new c ≡ true → is_so (slice_get told.due_clients c) ≡ true

-- one with a fault changes nothing
abbrev pub RousesBy : State → Step → Effects → State → Result Reply StepFault → Type 0
RousesBy s step told new (Ok reply) = Rouses s step told new
RousesBy s step told new (Err fault) = Unit {0}

-- the newest entry does
abbrev pub LeavesNobodyAsleep : Setup → List Entry → Type 0
LeavesNobodyAsleep setup [] = Unit {0}
LeavesNobodyAsleep setup (e ∷ past) =
    RousesBy (state_after setup past) e.step (effects_by setup past e) (state_after setup (e ∷ past)) e.reply
