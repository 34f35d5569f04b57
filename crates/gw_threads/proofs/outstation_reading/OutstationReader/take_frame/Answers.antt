use Rattle.std.proofs.Common.{ℕ, Vec, Global, Some, None, ◌∷◌, [], refl, ap, sym, subst, ◌∙◌}
use Rattle.std.specs.Prelude.{option_map}
use Rattle.dnp_link.specs.FrameContent.{content}
use Rattle.run_shared.specs.Turn.{Pass}
use Rattle.run_ends.specs.declared.worker_end.WorkerEnd.TheVariants as ends
use Rattle.gw_threads.specs.Heard.{HearsFrames, HearsOf}
use Rattle.gw_threads.proofs.Confirming.{reads_next}
use Rattle.gw_threads.proofs.Hearing.{frame_heard, frames_none, heard_nothing, responses_at}
use Rattle.gw_threads.proofs.outstation_reading.OutstationReader.take_frame.Goals as goal

pub returns-clause-confirmed : goal.returns-clause-confirmed
returns-clause-confirmed g c =
    reads_next g.L.Course.setup c.args.self.now.outstation c.answer_link.new.self.outstation c.args.self.now.worker.pass
    c.answer_link.new.self.worker.pass c.take_fragment.new.self.worker.pass c.args.self.now.front c.answer_link.new.self.front
    c.take_fragment.new.self.front _ c.answer_link.ensures.outstation c.in_default-answer_link.ensures.confirmed
    c.take_fragment.ensures.confirmed

pub returns-in_default-clause-heard : goal.returns-in_default-clause-heard
returns-in_default-clause-heard g c =
    frames_none g.L.Course.setup c.args.self.now.outstation c.args.self.now.worker.pass c.args.receiver.now c.take.new.self
    (content c.args.frame.now ∷ []) ends.Memory tt

pub returns-in-Some-clause-heard : goal.returns-in-Some-clause-heard
returns-in-Some-clause-heard g c =
    let setup = g.L.Course.setup in
    let outstation = c.args.self.now.outstation in
    let mine = c.args.self.now.worker.pass in
    let x = c.args.receiver.now in
    let y = c.take.new.self in
    let frames = content c.args.frame.now ∷ [] in
    subst (λ (p : Pass). HearsFrames setup outstation mine p x y frames (Some c.in-Some.end))
    (sym c.answer_link.ensures.pass)
    (frames_none setup outstation mine x y frames c.in-Some.end c.in-Some.ensures.end)

pub returns-in_err-received-clause-heard : goal.returns-in_err-received-clause-heard
returns-in_err-received-clause-heard g c =
    let setup = g.L.Course.setup in
    let outstation = c.args.self.now.outstation in
    let mine = c.args.self.now.worker.pass in
    let x = c.args.receiver.now in
    let y = c.take.new.self in
    let frame = content c.args.frame.now in
    let result = c.from_residual.result in
    subst (λ (p : Pass). HearsFrames setup outstation mine p x y (frame ∷ []) result) (sym c.answer_link.ensures.pass)
    (frame_heard setup outstation mine mine x y frame None result c.in-Ok.ensures.taken
    (λ own peer before has.
    sym (ap (option_map (λ (f : Vec ℕ Global). f.items)) c.in_err-received.was)
    ∙ c.in-Ok.ensures.fragment own peer before has) (heard_nothing setup mine [] result refl))

pub returns-clause-heard : goal.returns-clause-heard
returns-clause-heard g c =
    let setup = g.L.Course.setup in
    let octets = c.in_ok-received.field-0.items in
    let after = c.take_fragment.new.self.worker.pass in
    let result = c.take_fragment.result in
    frame_heard setup c.args.self.now.outstation c.args.self.now.worker.pass after c.args.receiver.now c.take.new.self
    (content c.args.frame.now) (Some octets) result c.in-Ok.ensures.taken
    (λ own peer before has.
    sym (ap (option_map (λ (f : Vec ℕ Global). f.items)) c.in_ok-received.was)
    ∙ c.in-Ok.ensures.fragment own peer before has)
    (subst (λ (p : Pass). HearsOf setup p after (responses_at c.args.self.now.outstation (Some octets)) result)
    c.answer_link.ensures.pass
    (subst (λ (o : ℕ). HearsOf setup c.answer_link.new.self.worker.pass after (responses_at o (Some octets)) result)
    c.answer_link.ensures.outstation c.take_fragment.ensures.heard))
