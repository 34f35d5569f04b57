use Rattle.std.proofs.Common.{ℕ, ◌++◌, ◌∷◌, [], Some, None, ap, refl, subst, sym, ◌∙◌}
use Rattle.dnp_link.specs.FrameContent.{content, event_content}
use Rattle.dnp_link.specs.Stream.{reading, reading_with_first}
use Rattle.dnp_link.specs.declared.event.LinkEvent.{LinkEvent}
use Rattle.run_ends.specs.declared.worker_end.WorkerEnd.TheVariants as ends
use Rattle.gw_threads.specs.Heard.{HearsFrames}
use Rattle.gw_threads.proofs.Confirming.{reads_next, reads_none}
use Rattle.gw_threads.proofs.Framing.{fed_whole}
use Rattle.gw_threads.proofs.Hearing.{halfway_frame, halfway_none, piece_ended, piece_none}
use Rattle.gw_threads.proofs.outstation_reading.OutstationReader.take.Goals as goal

pub returns-then-is_err-clause-confirmed : goal.returns-then-is_err-clause-confirmed
returns-then-is_err-clause-confirmed g c =
    reads_none g.L.Course.setup c.args.self.now.outstation c.args.self.now.worker.pass c.args.self.now.front

pub returns-then-is_err-clause-heard : goal.returns-then-is_err-clause-heard
returns-then-is_err-clause-heard g c =
    piece_none g.L.Course.setup c.args.self.now.outstation c.args.self.now.worker.pass c.args.receiver.now c.args.receiver.now
    (c.args.feed.now ++ c.args.piece.now) c.feed.new.self ends.Memory tt

pub events-init : goal.events-init
events-init g c = record {
  outstation = refl;
  confirmed = reads_none g.L.Course.setup c.args.self.now.outstation c.args.self.now.worker.pass c.args.self.now.front;
  heard = halfway_none g.L.Course.setup c.args.self.now.outstation c.args.self.now.worker.pass c.args.receiver.now
      (c.args.feed.now ++ c.args.piece.now) c.feed.new.self
      (fed_whole _ _ c.feed.ensures.ok (sym c.if-is_err.ensures.value));
}

pub returns-in-Some-take_frame-clause-confirmed : goal.returns-in-Some-take_frame-clause-confirmed
returns-in-Some-take_frame-clause-confirmed g c =
    reads_next g.L.Course.setup c.args.self.now.outstation c.events.self.outstation c.args.self.now.worker.pass c.events.self.worker.pass
    c.take_frame.new.self.worker.pass c.args.self.now.front c.events.self.front c.take_frame.new.self.front _
    c.events.invariant.outstation c.events.invariant.confirmed c.in-Some-take_frame.ensures.confirmed

pub returns-in-Some-take_frame-clause-heard : goal.returns-in-Some-take_frame-clause-heard
returns-in-Some-take_frame-clause-heard g c =
    let setup = g.L.Course.setup in
    let mid = c.events.self.worker.pass in
    let after = c.take_frame.new.self.worker.pass in
    let y = c.events.receiver in
    let z = c.take_frame.new.receiver in
    let frame = content c.in-Frame.frame in
    let end = c.in-Some-take_frame.end in
    piece_ended setup c.args.self.now.outstation c.args.self.now.worker.pass mid after c.args.receiver.now y z
    (c.args.feed.now ++ c.args.piece.now) c.events.feed c.next.new.self frame end c.in-Some-take_frame.ensures.end
    (c.in-Some.ensures.reads
    ∙ ap (λ (e : LinkEvent). reading_with_first (event_content e) (reading c.next.new.self)) c.in-Frame.is)
    c.events.invariant.heard
    (subst (λ (o : ℕ). HearsFrames setup o mid after y z (frame ∷ []) (Some end)) c.events.invariant.outstation
    c.in-Some-take_frame.ensures.heard)

pub events-preserved-in_default-take_frame : goal.events-preserved-in_default-take_frame
events-preserved-in_default-take_frame g c =
    let setup = g.L.Course.setup in
    let mid = c.events.self.worker.pass in
    let after = c.take_frame.new.self.worker.pass in
    let y = c.events.receiver in
    let z = c.take_frame.new.receiver in
    let frame = content c.in-Frame.frame in
    record {
      outstation = c.take_frame.ensures.outstation ∙ c.events.invariant.outstation;
      confirmed =
          reads_next g.L.Course.setup c.args.self.now.outstation c.events.self.outstation c.args.self.now.worker.pass mid after
          c.args.self.now.front c.events.self.front c.take_frame.new.self.front _ c.events.invariant.outstation
          c.events.invariant.confirmed c.in_default-take_frame.ensures.confirmed;
      heard =
          halfway_frame setup c.args.self.now.outstation c.args.self.now.worker.pass mid after c.args.receiver.now y z
          (c.args.feed.now ++ c.args.piece.now) c.events.feed c.next.new.self frame
          (c.in-Some.ensures.reads
          ∙ ap (λ (e : LinkEvent). reading_with_first (event_content e) (reading c.next.new.self)) c.in-Frame.is)
          c.events.invariant.heard
          (subst (λ (o : ℕ). HearsFrames setup o mid after y z (frame ∷ []) None) c.events.invariant.outstation
          c.in_default-take_frame.ensures.heard);
    }
