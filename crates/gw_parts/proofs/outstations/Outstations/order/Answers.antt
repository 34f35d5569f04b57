use Rattle.dnp_master.specs.Master.{master_after_order}
use Rattle.gw_parts.proofs.Places.{lent_changed, none_changed}
use Rattle.gw_parts.proofs.outstations.Outstations.order.Goals as goal

pub returns-in-Some-clause-masters : goal.returns-in-Some-clause-masters
returns-in-Some-clause-masters c = lent_changed c.args.outstation (master_after_order c.args.moment c.args.order)
    c.args.self.now c.in-Some.master.now c.order.new.self c.in-Some.ensures.value c.order.ensures.after

pub returns-in-None-clause-masters : goal.returns-in-None-clause-masters
returns-in-None-clause-masters c =
    none_changed c.args.outstation (master_after_order c.args.moment c.args.order) c.args.self.now
    c.in-None.ensures.value
