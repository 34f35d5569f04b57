-- The pieces so far were taken, and nothing of them waits.
use Rattle.std.proofs.Common.{◌≡◌, [], None}
use Rattle.iec_apci.specs.Calls.{reading_of_ending}
use Rattle.gw_threads.specs.Frames.{Reads}
use Rattle.gw_threads.proofs.client_reading.ClientReader.read_on.Given as goal

abbrev pub invariant-pieces : goal.invariant-pieces
invariant-pieces g l = record {
  client : l.self.client ≡ l.initial.self.client;
  reads : Reads g.L.Course.setup l.initial.self.client l.initial.self.worker.pass l.self.worker.pass (g.I.Incoming.given l.initial.input)
      (g.I.Incoming.given l.input) l.initial.feed l.feed None;
  drained : (reading_of_ending l.feed).apdus ≡ [];
  failed : g.I.Incoming.has_failed l.input ≡ g.I.Incoming.has_failed l.initial.input;
}
