-- Some orders failed; the others still do.
use Rattle.std.proofs.Common.{◌≡◌, ◌-◌}
use Rattle.gw_control.specs.Held.{controls_after_losses}
use Rattle.gw_control.specs.Orders.{places}
use Rattle.gw_steps.specs.Controls.{clients_told, outcomes_lost}
use Rattle.gw_hub.specs.Hub.{HoldsPlaces}
use Rattle.gw_hub.proofs.orders.lose_orders.Given as goal

abbrev pub invariant-loop : goal.invariant-loop
invariant-loop l =
    (controls_after_losses (places - l.counter) l.outstation l.controls
    ≡ controls_after_losses places l.outstation l.fn.controls)
    × (clients_told (outcomes_lost (places - l.counter) l.outstation l.controls) l.clients.each
    ≡ clients_told (outcomes_lost places l.outstation l.fn.controls) l.fn.clients.each)
    × HoldsPlaces l.clients.each l.controls
    × (l.clients.news ≡ l.fn.clients.news)
