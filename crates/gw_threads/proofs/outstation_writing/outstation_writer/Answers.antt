use Rattle.gw_threads.proofs.Alone.{sends_all}
use Rattle.gw_threads.proofs.Requesting.{sent_own}
use Rattle.gw_threads.proofs.outstation_writing.outstation_writer.Goals as goal

pub returns-clause-sent : goal.returns-clause-sent
returns-clause-sent g c = (c.join.result, (c.join.ensures, c.write_on-end.ensures.sent))

pub returns-clause-own : goal.returns-clause-own
returns-clause-own g c = sent_own _ _ _ _ _ _ _ c.write_on-end.ensures.sent

pub returns-clause-all : goal.returns-clause-all
returns-clause-all g c =
    sends_all g.L.Course.setup g.L.Course.roles c.args.outstation c.args.pass c.write_on-end.new.self.worker.pass
    c.write_on-end.new.self.front _ c.attest.ensures.roles c.attest-2.ensures.roles (returns-clause-sent g c)
