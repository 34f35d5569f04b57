-- Orders on their way to one outstation: those that wait, and the one that is under way.
use Rattle.std.specs.Prelude.{ℕ, ◌≤◌, ◌<◌, Bool, false, not, ◌&&◌, ◌||◌, ◌==◌, nat_lt, is_some, List, []}
use Rattle.std.specs.Prelude.{◌∷◌, ◌++◌, drop, length, map, slice_get, Option, Some, None, option_map, if◌then◌else◌}
use Rattle.std.specs.List.{filter}
use Rattle.std.specs.Option.{option_to_list}
use Rattle.gw_model.specs.First.{when}
use Rattle.gw_model.specs.declared.control.Order.{Order}
use Rattle.gw_model.specs.declared.control.Ended.{Ended}
use Rattle.gw_control.specs.declared.accepted.Accepted.{Accepted}
use Rattle.gw_control.specs.declared.accepted.UnderWay.{UnderWay}
use Rattle.gw_control.specs.declared.answer.Outcome.{Outcome}

pub record Outgoing : Type 0 where
  -- oldest first
  pub waiting : List Accepted
  pub under_way : Option UnderWay

abbrev pub nothing_outgoing : Outgoing
nothing_outgoing = record { waiting = []; under_way = None }

-- ---- they come

-- so many orders may wait for an outstation
abbrev pub places : ℕ
places = 16

abbrev pub is_full : Outgoing → Bool
is_full o = not (nat_lt (length o.waiting) places)

-- one more waits
abbrev pub outgoing_with : Accepted → Outgoing → Outgoing
outgoing_with x o = record o { waiting = o.waiting ++ x ∷ [] }

-- ---- they go

-- the oldest one that waits, where none is under way
abbrev pub next_of : Outgoing → Option Accepted
next_of o = if is_some o.under_way then None else slice_get o.waiting 0

abbrev pub order_given : Outgoing → Option Order
order_given o = option_map (λ x. x.order) (next_of o)

abbrev pub outgoing_sending : Option Accepted → Outgoing → Outgoing
outgoing_sending None o = o
outgoing_sending (Some x) o =
    record { waiting = drop 1 o.waiting; under_way = Some (record { accepted = x; left = false }) }

-- it is under way
abbrev pub outgoing_after_taking : Outgoing → Outgoing
outgoing_after_taking o = outgoing_sending (next_of o) o

-- ---- they end

abbrev pub outcome_of : Bool → Accepted → Outcome
outcome_of done x =
    record { client = x.client; session = x.session; command = x.command; done = done }

abbrev pub is_named : Ended → UnderWay → Bool
is_named ended u = u.accepted.order.number == ended.number

-- the outcome of the order under way, where it is the one that ended: none where its session ended before
abbrev pub outcome_by : Ended → Option UnderWay → Option Outcome
outcome_by ended None = None
outcome_by ended (Some u) = when (is_named ended u && not u.left) (outcome_of ended.done u.accepted)

abbrev pub under_way_after : Ended → Option UnderWay → Option UnderWay
under_way_after ended None = None
under_way_after ended (Some u) = if is_named ended u then None else Some u

abbrev pub outcome_at : Ended → Outgoing → Option Outcome
outcome_at ended o = outcome_by ended o.under_way

abbrev pub outgoing_after_ended : Ended → Outgoing → Outgoing
outgoing_after_ended ended o = record o { under_way = under_way_after ended o.under_way }

-- the outstation is lost: the oldest one that waits fails
abbrev pub outcome_lost : Outgoing → Option Outcome
outcome_lost o = option_map (outcome_of false) (slice_get o.waiting 0)

abbrev pub outgoing_after_lost : Outgoing → Outgoing
outgoing_after_lost o = record o { waiting = drop 1 o.waiting }

-- ---- a client's session ends

abbrev pub is_of_others : ℕ → Accepted → Bool
is_of_others client x = not (x.client == client)

abbrev pub left_by : ℕ → UnderWay → UnderWay
left_by client u = record u { left = u.left || (u.accepted.client == client) }

-- its orders that wait go, and the one under way is marked
abbrev pub outgoing_after_end : ℕ → Outgoing → Outgoing
outgoing_after_end client o =
    record { waiting = filter (is_of_others client) o.waiting; under_way = option_map (left_by client) o.under_way }

-- ---- numbers

-- it has this number
abbrev pub is_numbered : ℕ → Accepted → Bool
is_numbered number x = x.order.number == number

-- ---- what their numbers keep

-- each is above the one before, from above the first number to the last
abbrev pub Rise : ℕ → ℕ → List ℕ → Type 0
Rise low high [] = low ≤ high
Rise low high (n ∷ ns) = (low < n) × Rise n high ns

-- the numbers of orders, the one under way first
abbrev pub numbers_of : Outgoing → List ℕ
numbers_of o = map (λ u. u.accepted.order.number) (option_to_list o.under_way) ++ map (λ x. x.order.number) o.waiting

-- after so many orders in all: at most 16 wait, and the numbers rise
pub record IsInOrder (count : ℕ) (o : Outgoing) : Type 0 where
  pub few : length o.waiting ≤ places
  pub rise : Rise 0 count (numbers_of o)
