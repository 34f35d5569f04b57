-- What clients are told of orders that end, and their fates: an order is told done exactly where its fate is that the
-- outstation did it.
use Rattle.std.specs.Prelude.{◌≡◌, ℕ, Bool, true, false, not, ◌&&◌, List, [], ◌∷◌, map, slice_get, Option, Some, None}
use Rattle.std.specs.List.{filter}
use Rattle.gw_map.specs.Settings.{Setup}
use Rattle.gw_control.specs.declared.accepted.UnderWay.{UnderWay}
use Rattle.gw_control.specs.declared.answer.Outcome.{Outcome}
use Rattle.gw_control.specs.Controls.{Controls}
use Rattle.gw_control.specs.Orders.{Outgoing, is_numbered}
use Rattle.dnp_master.specs.declared.fate.Fate.{Fate}
use Rattle.dnp_master.specs.declared.fate.Fate.TheVariants as fates
use Rattle.gw_steps.specs.declared.effects.OrderEnd.{OrderEnd}
use Rattle.gw_steps.specs.declared.step.Step.{Step}
use Rattle.gw_steps.specs.declared.step.Step.TheVariants as steps
use Rattle.gw_steps.specs.State.{State}
use Rattle.gw_steps.specs.Steps.{controls_closed, latest, outcomes_of}
use Rattle.gw_steps.specs.Runs.{Entry, state_after, unless_fault}
use Rattle.law_fates.specs.Fates.{effects_by}

-- ---- fates

abbrev pub is_done : Fate → Bool
is_done fates.Done = true
is_done _ = false

abbrev pub is_let_go : Fate → Bool
is_let_go fates.LetGo = true
is_let_go _ = false

-- ---- who is told

-- an order is under way, and its session has ended
abbrev pub is_left : ℕ → Option UnderWay → Bool
is_left number None = false
is_left number (Some u) = is_numbered number u.accepted && u.left

abbrev pub is_left_at : ℕ → Option Outgoing → Bool
is_left_at number None = false
is_left_at number (Some q) = is_left number q.under_way

-- an end is told of, unless the order's session has ended
abbrev pub is_told : Controls → OrderEnd → Bool
is_told v x = not (is_let_go x.fate) && not (is_left_at x.order (slice_get v.outgoing x.outstation))

-- a tick ends sessions before it ends orders
abbrev pub controls_then : State → Step → Controls
controls_then s (steps.Tick moment) = controls_closed s (latest s moment)
controls_then s _ = s.controls

-- ---- what they are told: whose the order is, and whether it was done

abbrev pub told_by_end : OrderEnd → ℕ × Bool
told_by_end x = (x.client, is_done x.fate)

abbrev pub told_by_outcome : Outcome → ℕ × Bool
told_by_outcome x = (x.client, x.done)

-- by an entry behind a past, one after the other
abbrev pub told_in : Setup → List Entry → Entry → List (ℕ × Bool)
told_in setup past e =
    map told_by_outcome (unless_fault [] (λ _. outcomes_of (state_after setup past) e.step) e.reply)

-- ---- the law

-- of the orders that end in an entry
abbrev pub due_by_fates : Setup → List Entry → Entry → List (ℕ × Bool)
due_by_fates setup past e =
    map told_by_end (filter (is_told (controls_then (state_after setup past) e.step)) (effects_by setup past e).ended)

-- what the newest entry tells is what became of them
abbrev pub TellsFates : Setup → List Entry → Type 0
TellsFates setup [] = Unit {0}
TellsFates setup (e ∷ past) = told_in setup past e ≡ due_by_fates setup past e
