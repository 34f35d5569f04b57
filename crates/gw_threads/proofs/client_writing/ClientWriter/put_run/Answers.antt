use Rattle.gw_threads.proofs.Gathering.{client_put, wrote-put}
use Rattle.gw_threads.proofs.client_writing.ClientWriter.put_run.Goals as goal

pub returns-clause-client : goal.returns-clause-client
returns-clause-client g c =
    client_put g.L.Course.setup c.args.self.now c.put_out.new.source (g.W.Outgoing.contents c.args.writer.now)
    (g.W.Outgoing.contents c.put_out.new.writer) c.put_out.result c.put_out.ensures.put

pub returns-clause-written : goal.returns-clause-written
returns-clause-written g c =
    wrote-put g.L.Course.setup c.args.self.now c.put_out.new.source (g.W.Outgoing.contents c.args.writer.now)
    (g.W.Outgoing.contents c.put_out.new.writer) c.put_out.result c.put_out.ensures.put
