-- What was owed so far was confirmed, and taken whole; the frames so far were taken, and their responses stepped.
use Rattle.std.proofs.Common.{◌≡◌, ◌++◌, false, length}
use Rattle.gw_threads.specs.Confirms.{ReadsAll}
use Rattle.gw_threads.proofs.Hearing.{Halfway}
use Rattle.gw_threads.proofs.outstation_reading.OutstationReader.take.Given as goal

abbrev pub invariant-events : goal.invariant-events
invariant-events g l = record {
  outstation : l.self.outstation ≡ l.fn.self.outstation;
  confirmed : ReadsAll g.L.Course.setup l.fn.self.outstation l.fn.self.worker.pass l.self.worker.pass l.fn.self.front l.self.front false;
  heard : Halfway g.L.Course.setup l.fn.self.outstation l.fn.self.worker.pass l.self.worker.pass l.fn.receiver l.receiver
      (l.fn.feed ++ l.piece) l.feed;
}

-- each event uses up octets
abbrev pub decreases-events : goal.decreases-events
decreases-events g l = length l.feed
