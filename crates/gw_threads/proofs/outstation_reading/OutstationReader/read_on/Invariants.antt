-- What was owed so far was confirmed and taken whole, and no read failed; the responses of the octets so far were stepped.
use Rattle.std.proofs.Common.{◌≡◌, None, false}
use Rattle.gw_threads.specs.Confirms.{ReadsAll}
use Rattle.gw_threads.specs.Heard.{HearsOctets, IsDrained}
use Rattle.gw_threads.proofs.outstation_reading.OutstationReader.read_on.Given as goal

abbrev pub invariant-pieces : goal.invariant-pieces
invariant-pieces g l = record {
  outstation : l.self.outstation ≡ l.fn.self.outstation;
  confirmed : ReadsAll g.L.Course.setup l.fn.self.outstation l.fn.self.worker.pass l.self.worker.pass l.fn.self.front l.self.front false;
  heard : HearsOctets g.L.Course.setup l.fn.self.outstation l.fn.self.worker.pass l.self.worker.pass l.fn.receiver l.receiver l.fn.feed
      l.feed (g.I.Incoming.given l.fn.input) (g.I.Incoming.given l.input) None;
  drained : IsDrained l.feed;
  failed : g.I.Incoming.has_failed l.input ≡ g.I.Incoming.has_failed l.fn.input;
}
