use Rattle.dnp_master.specs.Master.{master_down}
use Rattle.gw_parts.proofs.Places.{lent_changed, none_changed}
use Rattle.gw_parts.proofs.outstations.Outstations.go_down.Goals as goal

pub returns-in-Some-clause-masters : goal.returns-in-Some-clause-masters
returns-in-Some-clause-masters c = lent_changed c.args.outstation (λ master. master_down master.poll) c.args.self.now
    c.in-Some.master.now c.down.new.self c.in-Some.ensures.value c.down.ensures.after

pub returns-in-None-clause-masters : goal.returns-in-None-clause-masters
returns-in-None-clause-masters c =
    none_changed c.args.outstation (λ master. master_down master.poll) c.args.self.now c.in-None.ensures.value
