-- Which outcomes are told, and when: that of each order in the step that ends it, to the client whose execute it is,
-- where the session of the execute stands. By steps, replies and the executes that were accepted.
use Rattle.std.specs.Prelude.{◌≡◌, ℕ, zero, suc, Bool, not, ◌&&◌, List, [], ◌∷◌, ◌++◌, length, map}
use Rattle.std.specs.List.{filter}
use Rattle.gw_map.specs.Settings.{Setup}
use Rattle.iec_command.specs.declared.command.Command.{Command}
use Rattle.gw_control.specs.declared.answer.Outcome.{Outcome}
use Rattle.gw_steps.specs.declared.step.Reply.{Reply}
use Rattle.gw_steps.specs.Runs.{Entry, unless_fault}
use Rattle.law_orders.specs.Marks.{marks}
use Rattle.law_orders.specs.ToldOnce.{told_in, was_done}
use Rattle.law_orders.specs.Pending.{Pending, is_over, kept, pending}

-- a client is told what became of its command
pub record Telling : Type 0 where
  pub client : ℕ
  pub command : Command
  pub done : Bool

abbrev pub telling_of : Outcome → Telling
telling_of x = record { client = x.client; command = x.command; done = x.done }

-- ---- what is to be told

-- of an order, by what became of it
abbrev pub telling_by : List Entry → Pending → Telling
telling_by past p = record { client = p.client; command = p.command; done = was_done (marks p.number past) }

-- an entry ends an order, and the session of its execute stands
abbrev pub is_told : Setup → ℕ → List Entry → Entry → Pending → Bool
is_told setup o past e p = is_over setup o past e e.step p && not p.left

-- where these were pending
abbrev pub due_with : Setup → ℕ → List Entry → Entry → List Pending → Reply → List Telling
due_with setup o past e ps reply =
    map (telling_by (e ∷ past)) (filter (is_told setup o past e) (kept setup past e reply ps))

-- of the orders towards outstation o
abbrev pub due_at : Setup → List Entry → Entry → ℕ → List Telling
due_at setup past e o = unless_fault [] (due_with setup o past e (pending setup o past)) e.reply

-- of so many outstations from one on, in turn
abbrev pub due_from : Setup → List Entry → Entry → ℕ → ℕ → List Telling
due_from setup past e o zero = []
due_from setup past e o (suc n) = due_at setup past e o ++ due_from setup past e (suc o) n

-- of all
abbrev pub due : Setup → List Entry → Entry → List Telling
due setup past e = due_from setup past e 0 (length setup.outstations)

-- ---- the law

-- what the newest entry tells is what it has to tell
abbrev pub TellsDue : Setup → List Entry → Type 0
TellsDue setup [] = Unit {0}
TellsDue setup (e ∷ past) = map telling_of (told_in setup past e) ≡ due setup past e
