-- The orders that are pending: accepted executes that aren't over, and didn't go with their session. An order waits
-- until a request asks for it. It is over when its request was answered to the end, but for a SELECT that was taken;
-- when no answer came in time; or when its outstation is lost.
use Rattle.std.specs.Prelude.{ℕ, suc, Bool, true, false, not, ◌&&◌, ◌||◌, ◌==◌, is_none, is_some, List}
use Rattle.std.specs.Prelude.{[], ◌∷◌, ◌++◌, length, map, Option, Some, option_and_then, option_map}
use Rattle.std.specs.List.{filter}
use Rattle.std.specs.Option.{option_to_list}
use Rattle.gw_model.specs.First.{when}
use Rattle.gw_map.specs.Settings.{Setup}
use Rattle.dnp_app.specs.declared.operation.Operation.{Operation}
use Rattle.dnp_app.specs.declared.operation.Operation.TheVariants.{Select}
use Rattle.iec_command.specs.declared.command.Command.{Command}
use Rattle.gw_steps.specs.declared.step.Step.{Step}
use Rattle.gw_steps.specs.declared.step.Step.TheVariants as steps
use Rattle.gw_steps.specs.declared.step.Reply.{Reply}
use Rattle.gw_steps.specs.State.{later}
use Rattle.gw_steps.specs.Runs.{Entry, unless_fault}
use Rattle.law_history.specs.Accepted.{asked_at, asked_of, moment_after, poll_at}
use Rattle.law_orders.specs.Executes.{Execute, execute_in, executes}
use Rattle.law_orders.specs.Marks.{Mark, Asked, Answered, marks}
use Rattle.law_orders.specs.Bonds.{operation_in}
use Rattle.law_orders.specs.Sessions.{ends_session}

-- an order that is pending
pub record Pending : Type 0 where
  pub number : ℕ
  -- whose execute it is
  pub client : ℕ
  pub command : Command
  -- the session of that client ended since the order was asked for
  pub left : Bool

-- ---- an order comes

abbrev pub pending_by : ℕ → Execute → Pending
pending_by number x = record { number = number; client = x.client; command = x.command; left = false }

-- an execute for a control of this outstation
abbrev pub for_outstation : ℕ → Execute → Option Execute
for_outstation o x = when (x.control.outstation == o) x

-- the order with a number, by the execute that is accepted, if one is
abbrev pub order_made : ℕ → ℕ → Option Execute → Option Pending
order_made o number x = option_map (pending_by number) (option_and_then (for_outstation o) x)

-- the order that an entry makes, behind a past
abbrev pub made_in : Setup → ℕ → List Entry → Entry → Option Pending
made_in setup o past e = order_made o (suc (length (executes setup past))) (execute_in setup past e)

-- ---- sessions end

-- a request asked for it
abbrev pub is_marked : List Mark → Bool
is_marked [] = false
is_marked (m ∷ before) = true

-- an order that nothing asked for goes with its session, and one that was asked for goes on without it
abbrev pub stays : (ℕ → Bool) → List Entry → Pending → Bool
stays ends past p = is_marked (marks p.number past) || not (ends p.client)

abbrev pub leaving : (ℕ → Bool) → Pending → Pending
leaving ends p = record p { left = p.left || ends p.client }

abbrev pub after_sessions : (ℕ → Bool) → List Entry → List Pending → List Pending
after_sessions ends past ps = map (leaving ends) (filter (stays ends past) ps)

-- ---- an order is over

abbrev pub is_select : Option Operation → Bool
is_select (Some Select) = true
is_select _ = false

-- its request was answered to the end; that isn't all where the outstation took a SELECT
abbrev pub is_final : List Mark → Bool
is_final (Answered taken ∷ Asked outstation r ∷ before) = not (taken && is_select (operation_in r))
is_final _ = false

-- its request awaits an answer
abbrev pub awaits : List Mark → Bool
awaits (Asked outstation r ∷ before) = true
awaits _ = false

-- at a moment the answer to the request of an outstation is late
abbrev pub is_late_at : Setup → ℕ → List Entry → ℕ → Bool
is_late_at setup o past moment =
    is_some (asked_of setup o past) && is_none (asked_at moment (poll_at setup o) (asked_of setup o past))

-- an entry ends an order of outstation o
abbrev pub is_over : Setup → ℕ → List Entry → Entry → Step → Pending → Bool
is_over setup o past e (steps.OutstationDown p moment) x = p == o
is_over setup o past e (steps.Fragment f moment) x = is_final (marks x.number (e ∷ past))
is_over setup o past e (steps.Tick moment) x =
    is_late_at setup o past (later (moment_after past) moment) && awaits (marks x.number past)
is_over setup o past e _ x = false

-- ---- what is pending

-- those whose session an entry doesn't end
abbrev pub kept : Setup → List Entry → Entry → Reply → List Pending → List Pending
kept setup past e reply ps = after_sessions (ends_session e.step reply) past ps

-- of these, those that an entry leaves
abbrev pub left_pending : Setup → ℕ → List Entry → Entry → List Pending → Reply → List Pending
left_pending setup o past e ps reply =
    filter (λ p. not (is_over setup o past e e.step p)) (kept setup past e reply ps)

abbrev pub pending_with : Setup → ℕ → List Entry → Entry → List Pending → Reply → List Pending
pending_with setup o past e ps reply =
    left_pending setup o past e ps reply ++ option_to_list (made_in setup o past e)

-- the orders towards outstation o that are pending, oldest first
abbrev pub pending : Setup → ℕ → List Entry → List Pending
pending setup o [] = []
pending setup o (e ∷ past) =
    let ps = pending setup o past in unless_fault ps (pending_with setup o past e ps) e.reply
