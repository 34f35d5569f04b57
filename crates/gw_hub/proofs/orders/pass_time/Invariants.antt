-- The time passed for the outstations before this one.
use Rattle.std.proofs.Common.{◌≡◌, map, drop, length}
use Rattle.dnp_master.specs.Master.{ended_by_tick, master_after_tick}
use Rattle.gw_steps.specs.Controls.{clients_told, controls_after_all_ended, outcomes_ended}
use Rattle.gw_hub.specs.Hub.{HoldsPlaces}
use Rattle.gw_hub.proofs.Time.{map_from}
use Rattle.gw_hub.proofs.orders.pass_time.Given as goal

abbrev pub invariant-loop-position : goal.invariant-loop-position
invariant-loop-position l =
    (map_from l.position (master_after_tick l.moment) l.outstations ≡ map (master_after_tick l.moment) l.fn.outstations)
    × (length l.outstations ≡ length l.fn.outstations)
    × (controls_after_all_ended l.position (map (ended_by_tick l.moment) (drop l.position l.outstations)) l.controls
    ≡ controls_after_all_ended 0 (map (ended_by_tick l.moment) l.fn.outstations) l.fn.controls)
    × (clients_told
    (outcomes_ended l.position (map (ended_by_tick l.moment) (drop l.position l.outstations)) l.controls) l.clients.each
    ≡ clients_told (outcomes_ended 0 (map (ended_by_tick l.moment) l.fn.outstations) l.fn.controls) l.fn.clients.each)
    × HoldsPlaces l.clients.each l.controls
    × (l.clients.news ≡ l.fn.clients.news)
