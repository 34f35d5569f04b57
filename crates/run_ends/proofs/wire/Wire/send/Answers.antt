use Rattle.std.proofs.Common.{◌≡◌, ◌%◌, rules, List, ℕ, ◌+◌, ◌++◌, ◌∷◌, [], length}
use Rattle.std.proofs.Common.{min, take, sym, ap, subst, ◌∙◌, append_assoc, arith}
use Rattle.std.proofs.lemmas.List.{length-append}
use Rattle.std.specs.Io.KnownBytes.{Appends}
use Rattle.run_ends.specs.Framed.{framed}
use Rattle.dnp_transport.specs.Cut.{segments_of}
use Rattle.dnp_link.specs.Frame.{frame, frame_content}
use Rattle.run_ends.proofs.Framing.{framed-front, framed-one, front-written}
use Rattle.run_ends.proofs.Runs.{appends-more}
use Rattle.run_ends.proofs.wire.Wire.send.Goals as goal

pub segments-preserved : goal.segments-preserved
segments-preserved g c =
    let own = c.args.self.now.own in
    let peer = c.args.self.now.peer in
    let before = c.segments.yielded in
    let segment = c.in-Some.segment in
    let front = front-written _ _ _ _ c.write_frame-end.ensures.written c.write_frame-end.array_long
    (omega (arith, c.write_frame-end.ensures.length, c.octets.ensures.within)) in
    let framed_so =
    front
    ∙ (ap (λ (user : List ℕ). frame (frame_content 196 c.segments.self.peer c.segments.self.own user))
    c.octets.ensures.octets
    ∙ (ap (λ (n : ℕ). frame (frame_content 196 n c.segments.self.own segment)) c.segments.invariant.peer
    ∙ ap (λ (n : ℕ). frame (frame_content 196 peer n segment)) c.segments.invariant.own))
    in
    record {
      own = c.segments.invariant.own;
      peer = c.segments.invariant.peer;
      sequence = omega (arith, c.segments.invariant.sequence, length-append before (segment ∷ []));
      segments =
          append_assoc before (segment ∷ []) c.next.new.self
          ∙ (ap (λ (rest : List (List ℕ)). before ++ rest) (sym c.in-Some.ensures.steps)
          ∙ c.segments.invariant.segments);
      handed =
          subst (Appends (g.W.Outgoing.contents c.args.self.now.writer) (g.W.Outgoing.contents c.hand.new.self))
          (sym (framed-one own peer before segment))
          (appends-more _ _ _ _ _ c.segments.invariant.handed
          (subst (Appends (g.W.Outgoing.contents c.segments.self.writer) (g.W.Outgoing.contents c.hand.new.self))
          framed_so c.in_default.ensures.ok));
      failed = c.in_default.ensures.failed ∙ c.segments.invariant.failed;
    }

pub returns-in-Err-clause-front : goal.returns-in-Err-clause-front
returns-in-Err-clause-front g c =
    let own = c.args.self.now.own in
    let peer = c.args.self.now.peer in
    let before = c.segments.yielded in
    let segment = c.in-Some.segment in
    let handed = c.in-Err.ensures.front in
    let all : c.into_iter-segment-iterator.result ≡ segments_of c.args.fragment.now (c.args.self.now.sequence % 64) =
    search rules in
    let one : List ℕ = frame (frame_content 196 peer own segment) in
    let count : ℕ = length (framed own peer before) + min handed.0 (length one) in
    let front = front-written _ _ _ _ c.write_frame-end.ensures.written c.write_frame-end.array_long
    (omega (arith, c.write_frame-end.ensures.length, c.octets.ensures.within)) in
    let framed_so =
    front
    ∙ (ap (λ (user : List ℕ). frame (frame_content 196 c.segments.self.peer c.segments.self.own user))
    c.octets.ensures.octets
    ∙ (ap (λ (n : ℕ). frame (frame_content 196 n c.segments.self.own segment)) c.segments.invariant.peer
    ∙ ap (λ (n : ℕ). frame (frame_content 196 peer n segment)) c.segments.invariant.own))
    in (
      count,
      subst (Appends (g.W.Outgoing.contents c.args.self.now.writer) (g.W.Outgoing.contents c.hand.new.self))
          (sym (framed-front own peer before segment c.next.new.self handed.0)
          ∙ ap (λ (segments : List (List ℕ)). take count (framed own peer segments))
          (ap (λ (rest : List (List ℕ)). before ++ rest) (sym c.in-Some.ensures.steps) ∙ (c.segments.invariant.segments ∙ all)))
          (appends-more _ _ _ _ _ c.segments.invariant.handed
          (subst (λ (octets : List ℕ). Appends (g.W.Outgoing.contents c.segments.self.writer)
          (g.W.Outgoing.contents c.hand.new.self) (take handed.0 octets))
          framed_so handed.1)),
    )

pub returns-in-Err-clause-kept : goal.returns-in-Err-clause-kept
returns-in-Err-clause-kept g c =
    let before = c.segments.yielded in
    let segment = c.in-Some.segment in
    let all : c.into_iter-segment-iterator.result ≡ segments_of c.args.fragment.now (c.args.self.now.sequence % 64) =
    search rules in
    let is : before ++ segment ∷ c.next.new.self ≡ segments_of c.args.fragment.now (c.args.self.now.sequence % 64) =
    ap (λ (rest : List (List ℕ)). before ++ rest) (sym c.in-Some.ensures.steps) ∙ (c.segments.invariant.segments ∙ all) in (
      length before,
      (
        omega (arith, ap (λ (l : List (List ℕ)). length l) is, length-append before (segment ∷ c.next.new.self)),
        c.segments.invariant.sequence,
      ),
    )
