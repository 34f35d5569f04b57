-- The APDUs so far were given and taken, and no write failed.
use Rattle.std.proofs.Common.{◌≡◌}
use Rattle.run_ends.specs.PutOut.{Handed}
use Rattle.run_ends.proofs.putting.put_out.Given as goal

abbrev pub invariant-batches : goal.invariant-batches
invariant-batches g l = record {
  handed : Handed g.S.Source.Gives l.initial.source l.source (g.W.Outgoing.contents l.initial.writer)
      (g.W.Outgoing.contents l.writer);
  failed : g.W.Outgoing.has_failed l.writer ≡ g.W.Outgoing.has_failed l.initial.writer;
}
