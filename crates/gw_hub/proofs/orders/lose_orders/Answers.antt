use Rattle.std.specs.Prelude.{slice_get}
use Rattle.std.specs.Option.{option_to_list}
use Rattle.std.proofs.Common.{◌≡◌, ℕ, suc, ◌+◌, ◌-◌, ◌<◌, List, sym, ap, ◌∙◌, arith}
use Rattle.std.proofs.lemmas.List.{append-nil}
use Rattle.gw_control.specs.Controls.{controls_after_lost, outcome_lost_at}
use Rattle.gw_control.specs.Held.{controls_after_losses}
use Rattle.gw_control.specs.Orders.{places}
use Rattle.gw_control.specs.declared.answer.Outcome.{Outcome}
use Rattle.gw_steps.specs.Controls.{clients_told, outcomes_lost}
use Rattle.gw_hub.proofs.Holding.{holds_lost, told_more}
use Rattle.gw_hub.proofs.orders.lose_orders.Goals as goal

pub lose_order-requires : goal.lose_order-requires
lose_order-requires c = c.loop.invariant.2

-- one fewer is left
left : (n : ℕ) → n < places → places - n ≡ suc (places - (n + 1))
left n lt = omega (arith, lt)

pub loop-preserved : goal.loop-preserved
loop-preserved c =
    let o = c.args.outstation in
    let n = c.loop.counter in
    let v = c.loop.controls in
    let ks = c.loop.clients.each in
    let more : ℕ = places - (n + 1) in
    let first : List Outcome = option_to_list (outcome_lost_at (slice_get v.outgoing o)) in
    let one = left n (omega (arith, c.loop-test.true)) in
    let single : outcomes_lost 1 o v ≡ first = append-nil first in
    rw (c.lose_order.ensures.controls, c.lose_order.ensures.clients, single) (
      sym (ap (λ (m : ℕ). controls_after_losses m o v) one) ∙ c.loop.invariant.0,
      sym (told_more first (outcomes_lost more o (controls_after_lost o v)) ks)
          ∙ (sym (ap (λ (m : ℕ). clients_told (outcomes_lost m o v) ks) one) ∙ c.loop.invariant.1),
      holds_lost o ks v c.loop.invariant.2,
      c.lose_order.ensures.news ∙ c.loop.invariant.3,
    )
