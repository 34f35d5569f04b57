-- What became of orders, as clients are told: each outcome is that of one accepted execute.
use Rattle.std.specs.Prelude.{◌≡◌, ℕ, ◌+◌, ◌≤◌, Bool, true, false, ◌&&◌}
use Rattle.std.specs.Prelude.{◌==◌, List, [], ◌∷◌, ◌++◌, Option, Some}
use Rattle.gw_map.specs.Settings.{Setup}
use Rattle.dnp_app.specs.declared.operation.Operation.{Operation}
use Rattle.dnp_app.specs.declared.operation.Operation.TheVariants.{Operate, DirectOperate}
use Rattle.gw_control.specs.declared.answer.Outcome.{Outcome}
use Rattle.gw_control.specs.Moves.{one_if}
use Rattle.gw_steps.specs.Runs.{Entry, state_after, unless_fault}
use Rattle.gw_steps.specs.Steps.{outcomes_of}
use Rattle.law_orders.specs.Executes.{Execute, executes, numbered}
use Rattle.law_orders.specs.Marks.{Mark, Asked, Answered, marks}
use Rattle.law_orders.specs.Bonds.{operation_in}

-- ---- what was told

abbrev pub told_in : Setup → List Entry → Entry → List Outcome
told_in setup past e = unless_fault [] (λ _. outcomes_of (state_after setup past) e.step) e.reply

-- all of it, that of the newest entry first
abbrev pub told : Setup → List Entry → List Outcome
told setup [] = []
told setup (e ∷ past) = told_in setup past e ++ told setup past

-- ---- what it has to be

-- OPERATE or DIRECT_OPERATE
abbrev pub is_operation : Option Operation → Bool
is_operation (Some Operate) = true
is_operation (Some DirectOperate) = true
is_operation _ = false

-- an order was done where the outstation took what the newest request asked, and that operates
abbrev pub was_done : List Mark → Bool
was_done (Answered taken ∷ Asked outstation r ∷ before) = taken && is_operation (operation_in r)
was_done _ = false

-- an outcome is that of order n, of which this became: it is told the client whose execute it was, of its command
pub record TellsOf (accepted : List Execute) (became : List Mark) (n : ℕ) (x : Outcome) : Type 0 where
  pub execute : Execute
  pub at : numbered n accepted ≡ Some execute
  pub client : x.client ≡ execute.client
  pub command : x.command ≡ execute.command
  pub done : x.done ≡ was_done became

-- outcomes are those of orders with these numbers
abbrev pub AllTell : List Execute → (ℕ → List Mark) → List ℕ → List Outcome → Type 0
AllTell accepted became [] [] = Unit {0}
AllTell accepted became (n ∷ ns) (x ∷ xs) = TellsOf accepted (became n) n x × AllTell accepted became ns xs
AllTell accepted became _ _ = ⊥

-- how often a number is among others
abbrev pub counted : ℕ → List ℕ → ℕ
counted n [] = 0
counted n (m ∷ ms) = one_if (m == n) + counted n ms

-- ---- the law

-- all that was told is of accepted executes, and of each one at most once
pub record TellsOnce (setup : Setup) (past : List Entry) : Type 0 where
  pub numbers : List ℕ
  pub tell : AllTell (executes setup past) (λ n. marks n past) numbers (told setup past)
  pub once : (n : ℕ) → counted n numbers ≤ 1
