-- What its polls gave was sent so far, and taken whole.
use Rattle.std.proofs.Common.{◌≡◌, false}
use Rattle.gw_threads.specs.Sends.{SentAll}
use Rattle.gw_threads.proofs.outstation_writing.OutstationWriter.write_on.Given as goal

abbrev pub invariant-requests : goal.invariant-requests
invariant-requests g l = record {
  outstation : l.self.outstation ≡ l.fn.self.outstation;
  sent : SentAll g.L.Course.setup l.fn.self.outstation l.fn.self.worker.pass l.self.worker.pass l.fn.self.front l.self.front false;
}
