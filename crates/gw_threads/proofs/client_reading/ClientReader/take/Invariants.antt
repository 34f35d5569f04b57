-- The APDUs so far were stepped.
use Rattle.std.proofs.Common.{◌≡◌}
use Rattle.iec_apci.proofs.Streams.{size_held}
use Rattle.iec_apci.specs.Calls.{ending_after_piece}
use Rattle.gw_threads.specs.Frames.{Stepped}
use Rattle.gw_threads.proofs.client_reading.ClientReader.take.Given as goal

abbrev pub invariant-apdus : goal.invariant-apdus
invariant-apdus g l = record {
  client : l.self.client ≡ l.initial.self.client;
  stepped : Stepped g.L.Course.setup l.initial.self.client l.initial.self.worker.pass l.self.worker.pass
      (ending_after_piece l.fn.feed l.piece) l.feed;
}

abbrev pub decreases-apdus : goal.decreases-apdus
decreases-apdus g l = size_held l.feed
