-- How many orders for an outstation were accepted, and what became of them.
use Rattle.std.specs.Prelude.{ℕ, ◌+◌, ◌-◌, ◌^◌, min}
use Rattle.dnp_master.specs.declared.fate.Fate.{Fate}
use Rattle.dnp_master.specs.declared.fate.Fate.TheVariants.{Done, Refused, Otherwise, Unanswered, Lost, LetGo}
use Rattle.run_shared.specs.declared.order_counts.OrderCounts.{OrderCounts}

-- one more, as long as there is a number for it
abbrev pub one_more : ℕ → ℕ
one_more count = min (count + 1) (2 ^ 64 - 1)

-- none
abbrev pub no_orders : OrderCounts
no_orders = record { accepted = 0; done = 0; failed = 0; let_go = 0 }

-- one more was accepted
abbrev pub counting_accepted : OrderCounts → OrderCounts
counting_accepted counts = record counts { accepted = one_more counts.accepted }

-- one more failed
abbrev pub counting_failed : OrderCounts → OrderCounts
counting_failed counts = record counts { failed = one_more counts.failed }

-- one more ended so
abbrev pub counting_ended : Fate → OrderCounts → OrderCounts
counting_ended Done counts = record counts { done = one_more counts.done }
counting_ended (Refused operation status) counts = counting_failed counts
counting_ended (Otherwise operation) counts = counting_failed counts
counting_ended (Unanswered operation) counts = counting_failed counts
counting_ended Lost counts = counting_failed counts
counting_ended LetGo counts = record counts { let_go = one_more counts.let_go }
