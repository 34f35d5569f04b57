use Rattle.dnp_master.specs.Master.{master_after_next}
use Rattle.gw_parts.proofs.Places.{lent_changed, none_changed}
use Rattle.gw_parts.proofs.outstations.Outstations.next.Goals as goal

pub returns-in_default-clause-masters : goal.returns-in_default-clause-masters
returns-in_default-clause-masters c = none_changed c.args.outstation
    (master_after_next c.args.moment c.args.wall) c.args.self.now c.in_default.ensures.value

pub returns-in-Some-next-clause-masters : goal.returns-in-Some-next-clause-masters
returns-in-Some-next-clause-masters c =
    lent_changed c.args.outstation (master_after_next c.args.moment c.args.wall) c.args.self.now c.in-Some.master.now
    c.next.new.self c.in-Some.ensures.value c.next.ensures.after

pub returns-in-None-clause-masters : goal.returns-in-None-clause-masters
returns-in-None-clause-masters c =
    lent_changed c.args.outstation (master_after_next c.args.moment c.args.wall) c.args.self.now c.in-Some.master.now
    c.next.new.self c.in-Some.ensures.value c.next.ensures.after
