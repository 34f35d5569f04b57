-- Those of the outstations before this one are down already.
use Rattle.std.proofs.Common.{◌≡◌, ◌++◌, map, drop}
use Rattle.dnp_master.specs.Master.{master_down}
use Rattle.gw_parts.proofs.outstations.Outstations.new.Given as goal

abbrev pub invariant-loop-outstation : goal.invariant-loop-outstation
invariant-loop-outstation l =
    l.masters.items ++ map (λ outstation. master_down outstation.poll) (drop l.outstation-index l.outstations)
    ≡ map (λ outstation. master_down outstation.poll) l.outstations
