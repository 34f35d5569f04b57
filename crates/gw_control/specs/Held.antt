-- How many orders of a client hold places: those that wait, and each under way whose session hasn't ended.
use Rattle.std.specs.Prelude.{ℕ, zero, suc, ◌+◌, Bool, not, ◌&&◌, ◌==◌, List, [], ◌∷◌, length, Option, Some, None}
use Rattle.gw_control.specs.declared.accepted.Accepted.{Accepted}
use Rattle.gw_control.specs.declared.accepted.UnderWay.{UnderWay}
use Rattle.gw_control.specs.declared.answer.Outcome.{Outcome}
use Rattle.gw_control.specs.Orders.{Outgoing}
use Rattle.gw_control.specs.Controls.{Controls, controls_after_lost}
use Rattle.gw_control.specs.Moves.{one_if}

-- ---- orders of a client

abbrev pub is_of : ℕ → Accepted → Bool
is_of client x = x.client == client

-- of those that wait
abbrev pub waiting_of : ℕ → List Accepted → ℕ
waiting_of client [] = 0
waiting_of client (x ∷ xs) = one_if (is_of client x) + waiting_of client xs

-- 1 where one is under way, is the client's, and its session hasn't ended
abbrev pub under_way_of : ℕ → Option UnderWay → ℕ
under_way_of client None = 0
under_way_of client (Some u) = one_if (not u.left && is_of client u.accepted)

-- to one outstation
abbrev pub orders_in : ℕ → Outgoing → ℕ
orders_in client o = waiting_of client o.waiting + under_way_of client o.under_way

abbrev pub orders_among : ℕ → List Outgoing → ℕ
orders_among client [] = 0
orders_among client (o ∷ os) = orders_in client o + orders_among client os

-- to all outstations
abbrev pub orders_of : ℕ → Controls → ℕ
orders_of client v = orders_among client v.outgoing

-- ---- outcomes

-- 1 where there is one and it is that client's
abbrev pub outcomes_to : ℕ → Option Outcome → ℕ
outcomes_to client None = 0
outcomes_to client (Some outcome) = one_if (outcome.client == client)

-- ---- an outstation that is lost

-- how many orders wait for it
abbrev pub waiting_in : Option Outgoing → ℕ
waiting_in None = 0
waiting_in (Some o) = length o.waiting

-- so many of them fail, one after the other
abbrev pub controls_after_losses : ℕ → ℕ → Controls → Controls
controls_after_losses zero outstation v = v
controls_after_losses (suc n) outstation v = controls_after_losses n outstation (controls_after_lost outstation v)
