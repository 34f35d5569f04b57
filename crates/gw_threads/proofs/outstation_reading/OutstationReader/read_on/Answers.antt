use Rattle.std.proofs.Common.{ℕ, Some, None, refl, subst, ◌∙◌}
use Rattle.gw_threads.specs.Heard.{HearsOctets}
use Rattle.gw_threads.proofs.Confirming.{reads_next, reads_none}
use Rattle.gw_threads.proofs.Hearing.{octets_drained, octets_none, octets_then}
use Rattle.gw_threads.proofs.outstation_reading.OutstationReader.read_on.Goals as goal

pub pieces-init : goal.pieces-init
pieces-init g c = record {
  outstation = refl;
  confirmed = reads_none g.L.Course.setup c.args.self.now.outstation c.args.self.now.worker.pass c.args.self.now.front;
  heard =
      octets_none g.L.Course.setup c.args.self.now.outstation c.args.self.now.worker.pass c.args.receiver.now c.args.feed.now
      (g.I.Incoming.given c.args.input.now) (g.I.Incoming.given c.args.input.now) None c.requires.drained refl;
  drained = c.requires.drained;
  failed = refl;
}

pub returns-in-Some-turn-clause-confirmed : goal.returns-in-Some-turn-clause-confirmed
returns-in-Some-turn-clause-confirmed g c =
    reads_next g.L.Course.setup c.args.self.now.outstation c.pieces.self.outstation c.args.self.now.worker.pass c.pieces.self.worker.pass
    c.turn.new.self.worker.pass c.args.self.now.front c.pieces.self.front c.turn.new.self.front _ c.pieces.invariant.outstation
    c.pieces.invariant.confirmed c.in-Some-turn.ensures.confirmed

pub returns-in-Some-turn-clause-heard : goal.returns-in-Some-turn-clause-heard
returns-in-Some-turn-clause-heard g c =
    let setup = g.L.Course.setup in
    let given = g.I.Incoming.given in
    let end = c.in-Some-turn.end in
    octets_then setup c.args.self.now.outstation c.args.self.now.worker.pass c.pieces.self.worker.pass c.turn.new.self.worker.pass
    c.args.receiver.now c.pieces.receiver c.turn.new.receiver c.args.feed.now c.pieces.feed c.turn.new.feed
    (given c.args.input.now) (given c.pieces.input) (given c.turn.new.input) (Some end) c.pieces.invariant.heard
    (subst
    (λ (o : ℕ). HearsOctets setup o c.pieces.self.worker.pass c.turn.new.self.worker.pass c.pieces.receiver c.turn.new.receiver
    c.pieces.feed c.turn.new.feed (given c.pieces.input) (given c.turn.new.input) (Some end))
    c.pieces.invariant.outstation c.in-Some-turn.ensures.heard)

pub pieces-preserved : goal.pieces-preserved
pieces-preserved g c =
    let setup = g.L.Course.setup in
    let given = g.I.Incoming.given in
    let one = subst
    (λ (o : ℕ). HearsOctets setup o c.pieces.self.worker.pass c.turn.new.self.worker.pass c.pieces.receiver c.turn.new.receiver
    c.pieces.feed c.turn.new.feed (given c.pieces.input) (given c.turn.new.input) None)
    c.pieces.invariant.outstation c.in_default.ensures.heard in
    record {
      outstation = c.turn.ensures.outstation ∙ c.pieces.invariant.outstation;
      confirmed =
          reads_next setup c.args.self.now.outstation c.pieces.self.outstation c.args.self.now.worker.pass c.pieces.self.worker.pass
          c.turn.new.self.worker.pass c.args.self.now.front c.pieces.self.front c.turn.new.self.front _
          c.pieces.invariant.outstation c.pieces.invariant.confirmed c.in_default.ensures.confirmed;
      heard =
          octets_then setup c.args.self.now.outstation c.args.self.now.worker.pass c.pieces.self.worker.pass c.turn.new.self.worker.pass
          c.args.receiver.now c.pieces.receiver c.turn.new.receiver c.args.feed.now c.pieces.feed c.turn.new.feed
          (given c.args.input.now) (given c.pieces.input) (given c.turn.new.input) None c.pieces.invariant.heard one;
      drained =
          octets_drained setup c.args.self.now.outstation c.pieces.self.worker.pass c.turn.new.self.worker.pass c.pieces.receiver
          c.turn.new.receiver c.pieces.feed c.turn.new.feed (given c.pieces.input) (given c.turn.new.input) one;
      failed = c.in_default.ensures.failed ∙ c.pieces.invariant.failed;
    }
