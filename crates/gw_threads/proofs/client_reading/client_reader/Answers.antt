use Rattle.std.proofs.Common.{ℕ, ap, subst, ◌∙◌}
use Rattle.iec_apci.specs.Calls.{reading_of_ending}
use Rattle.iec_apci.specs.Stream.{Ending, Reading}
use Rattle.iec_apci.proofs.Drained.{reading_nil}
use Rattle.gw_threads.specs.Frames.{Loses}
use Rattle.gw_threads.proofs.Framing.{framed, framed_lost, framed_own}
use Rattle.gw_threads.proofs.client_reading.client_reader.Goals as goal

pub read_on-end-requires : goal.read_on-end-requires
read_on-end-requires g c = record {
  drained =
      ap (λ (e : Ending). (reading_of_ending e).apdus) c.new-feed.ensures ∙ ap (λ (r : Reading). r.apdus) reading_nil;
}

pub returns-clause-framed : goal.returns-clause-framed
returns-clause-framed g c =
    let setup = g.L.Course.setup in
    let before = g.I.Incoming.given c.args.input.now in
    let now = g.I.Incoming.given c.read_on-end.new.input in
    let end = c.read_on-end.result in
    framed_lost setup c.args.client c.args.pass c.read_on-end.new.self.worker.pass c.lose.new.self.worker.pass before now end
    (framed setup c.args.client c.args.pass c.read_on-end.new.self.worker.pass before now c.new-feed.result
    c.read_on-end.new.feed end c.new-feed.ensures c.read_on-end.ensures.reads)
    (subst (λ (k : ℕ). Loses setup k c.read_on-end.new.self.worker.pass c.lose.new.self.worker.pass end) c.read_on-end.ensures.client
    c.lose.ensures)

pub returns-clause-own : goal.returns-clause-own
returns-clause-own g c = framed_own _ _ _ _ _ _ _ (returns-clause-framed g c)

pub returns-clause-lost : goal.returns-clause-lost
returns-clause-lost g c = (
  c.read_on-end.new.self.worker.pass,
  subst (λ (k : ℕ). Loses g.L.Course.setup k c.read_on-end.new.self.worker.pass c.lose.new.self.worker.pass c.read_on-end.result)
      c.read_on-end.ensures.client c.lose.ensures,
)
