use Rattle.run_ends.specs.declared.worker_end.WorkerEnd.TheVariants as ends
use Rattle.gw_threads.proofs.Framing.{reads_end, reads_stop}
use Rattle.gw_threads.proofs.client_reading.ClientReader.turn.Goals as goal

pub returns-else-stands-clause-reads : goal.returns-else-stands-clause-reads
returns-else-stands-clause-reads g c =
    reads_end g.L.Course.setup c.args.self.now.client c.args.self.now.worker.pass _ _ c.args.feed.now ends.Stopping
    c.in-Later.ensures.given tt

pub returns-in-End-clause-reads : goal.returns-in-End-clause-reads
returns-in-End-clause-reads g c =
    reads_stop g.L.Course.setup c.args.self.now.client c.args.self.now.worker.pass _ _ c.args.feed.now c.receive-arrival.new.buffer
    c.receive-arrival.result c.end.result c.in-End.is c.end.ensures c.receive-arrival.ensures.given c.requires.drained
