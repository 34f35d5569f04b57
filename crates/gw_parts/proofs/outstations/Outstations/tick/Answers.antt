use Rattle.std.proofs.Common.{ap, ◌∙◌}
use Rattle.gw_model.specs.Places.{change}
use Rattle.dnp_master.specs.Master.{master_after_tick}
use Rattle.gw_parts.proofs.Places.{index_changed}
use Rattle.gw_parts.proofs.outstations.Outstations.tick.Goals as goal

pub returns-clause-masters : goal.returns-clause-masters
returns-clause-masters c =
    index_changed c.args.position (master_after_tick c.args.moment) c.self.inside.masters.items c.index_mut.result.now
    c.tick.new.self c.index_mut.ensures.value c.tick.ensures.after
    ∙ ap (change c.args.position (master_after_tick c.args.moment)) c.self.view_is
