use Rattle.std.proofs.Common.{ℕ, Some, None, ◌∙◌, subst}
use Rattle.gw_threads.specs.Frames.{Reads}
use Rattle.gw_threads.proofs.Framing.{reads_then}
use Rattle.gw_threads.proofs.client_reading.ClientReader.read_on.Goals as goal

pub returns-in-Some-turn-clause-reads : goal.returns-in-Some-turn-clause-reads
returns-in-Some-turn-clause-reads g c =
    reads_then _ _ _ c.pieces.self.worker.pass _ _ (g.I.Incoming.given c.pieces.input) _ _ c.pieces.feed _ _ c.pieces.invariant.reads
    (subst (λ (k : ℕ). Reads g.L.Course.setup k c.pieces.self.worker.pass c.turn.new.self.worker.pass (g.I.Incoming.given c.pieces.input)
    (g.I.Incoming.given c.turn.new.input) c.pieces.feed c.turn.new.feed (Some c.in-Some-turn.end)) c.pieces.invariant.client
    c.in-Some-turn.ensures.reads)

pub pieces-preserved : goal.pieces-preserved
pieces-preserved g c = record {
  client = c.turn.ensures.client ∙ c.pieces.invariant.client;
  reads =
      reads_then _ _ _ c.pieces.self.worker.pass _ _ (g.I.Incoming.given c.pieces.input) _ _ c.pieces.feed _ _
      c.pieces.invariant.reads
      (subst (λ (k : ℕ). Reads g.L.Course.setup k c.pieces.self.worker.pass c.turn.new.self.worker.pass (g.I.Incoming.given c.pieces.input)
      (g.I.Incoming.given c.turn.new.input) c.pieces.feed c.turn.new.feed None) c.pieces.invariant.client
      c.in_default.ensures.reads);
  drained = c.in_default.ensures.drained;
  failed = c.in_default.ensures.failed ∙ c.pieces.invariant.failed;
}
