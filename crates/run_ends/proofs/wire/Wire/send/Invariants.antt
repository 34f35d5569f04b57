-- The segments so far were handed over, a frame each, and no write failed.
use Rattle.std.proofs.Common.{◌≡◌, ◌+◌, ◌%◌, ◌++◌, length}
use Rattle.std.specs.Io.KnownBytes.{Appends}
use Rattle.run_ends.specs.Framed.{framed}
use Rattle.run_ends.proofs.wire.Wire.send.Given as goal

abbrev pub invariant-segments : goal.invariant-segments
invariant-segments g l = record {
  own : l.self.own ≡ l.initial.self.own;
  peer : l.self.peer ≡ l.initial.self.peer;
  sequence : l.self.sequence % 64 ≡ (l.initial.self.sequence + length l.yielded) % 64;
  segments : l.yielded ++ l.segment-iterator ≡ l.initial.segment-iterator;
  handed : Appends (g.W.Outgoing.contents l.initial.self.writer) (g.W.Outgoing.contents l.self.writer)
      (framed l.initial.self.own l.initial.self.peer l.yielded);
  failed : g.W.Outgoing.has_failed l.self.writer ≡ g.W.Outgoing.has_failed l.initial.self.writer;
}
