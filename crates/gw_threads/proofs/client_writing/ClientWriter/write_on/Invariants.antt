-- The runs so far were handed over, and no write failed.
use Rattle.std.proofs.Common.{◌≡◌}
use Rattle.gw_threads.specs.Written.{Asked, Wrote}
use Rattle.gw_threads.proofs.client_writing.ClientWriter.write_on.Given as goal

abbrev pub invariant-runs : goal.invariant-runs
invariant-runs g l = record {
  client : l.self.client ≡ l.initial.self.client;
  wrote : Wrote (Asked g.L.Course.setup l.initial.self.client l.initial.self.pass l.self.pass)
      (g.W.Outgoing.contents l.initial.writer) (g.W.Outgoing.contents l.writer);
  failed : g.W.Outgoing.has_failed l.writer ≡ g.W.Outgoing.has_failed l.initial.writer;
}
