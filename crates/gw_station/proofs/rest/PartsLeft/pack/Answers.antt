use Rattle.std.proofs.Common.{Some, ap, ◌∙◌}
use Rattle.gw_answers.specs.declared.outgoing.OwnAsdu.{OwnAsdu}
use Rattle.gw_station.proofs.rest.PartsLeft.pack.Goals as goal

pub pack-requires : goal.pack-requires
pack-requires c =
    (c.rows.ensures c.in-Observation.cause c.in-Observation.originator c.in-Observation.observation
    (c.requires ∙ ap (λ (part : OwnAsdu). Some part) c.in-Observation.is)).1
