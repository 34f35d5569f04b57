-- The connection of each client that stands: when it began, and its turns since, each with its moment, newest first.
-- Moments never go back: the largest so far counts.
use Rattle.std.specs.Prelude.{ℕ, ◌<◌, Bool, false, List, [], ◌∷◌, map, Option, Some, None, IfSome}
use Rattle.gw_map.specs.Settings.{Setup}
use Rattle.gw_steps.specs.State.{client_limit}
use Rattle.gw_steps.specs.Runs.{Entry}
use Rattle.law_history.specs.Accepted.{moment_after}
use Rattle.law_history.specs.Life.{Turn, Ends, turn_of}

pub data TimedTurn : Type 0 where
  At : ℕ → Turn → TimedTurn

abbrev pub turn_in : TimedTurn → Turn
turn_in (At moment turn) = turn

pub record Connection : Type 0 where
  pub began : ℕ
  pub timed : List TimedTurn

abbrev pub turns : Connection → List Turn
turns x = map turn_in x.timed

-- one turn more, if it goes on
abbrev pub going_on : ℕ → Turn → Option Connection → Option Connection
going_on now turn None = None
going_on now turn (Some x) = Some (record x { timed = At now turn ∷ x.timed })

-- a client comes up; its connection ends; or it goes on
abbrev pub connection_with : ℕ → Option Turn → Option Connection → Option Connection
connection_with now None x = Some (record { began = now; timed = [] })
connection_with now (Some Ends) x = None
connection_with now (Some turn) x = going_on now turn x

-- the connection of client c, if it is up
abbrev pub connection : Setup → ℕ → List Entry → Option Connection
connection setup c [] = None
connection setup c (e ∷ past) =
    connection_with (moment_after (e ∷ past)) (turn_of setup c past e) (connection setup c past)

-- a law of each connection that stands
abbrev pub OfEachConnection : (Connection → Type 0) → Setup → List Entry → Type 0
OfEachConnection Law setup past = (c : ℕ) → c < client_limit → IfSome (connection setup c past) Law

-- it is there, and so
abbrev pub is_so : {A : Type 0} → (A → Bool) → Option A → Bool
is_so test None = false
is_so test (Some x) = test x

-- what a step of a client says of its connection: there is one
abbrev pub OfStanding : (Connection → Type 0) → Option Connection → Type 0
OfStanding Law None = ⊥
OfStanding Law (Some x) = Law x
