use Rattle.std.proofs.Common.{ℕ, Some, None, refl, sym, subst, ◌∙◌}
use Rattle.iec_apci.specs.Calls.{ending_after_piece}
use Rattle.gw_threads.specs.Frames.{TakesAnswer}
use Rattle.gw_threads.proofs.Framing.{drained, ended_by, fed_whole, held_still, stepped_none, stepped_then, takes_then, took_answer}
use Rattle.gw_threads.proofs.client_reading.ClientReader.take.Goals as goal

pub returns-then-is_err-clause-takes : goal.returns-then-is_err-clause-takes
returns-then-is_err-clause-takes g c = (
  ending_after_piece c.args.feed.now c.args.piece.now,
  (stepped_none g.L.Course.setup c.args.self.now.client c.args.self.now.worker.pass _ _ refl, tt),
)

pub apdus-init : goal.apdus-init
apdus-init g c = record {
  client = refl;
  stepped = stepped_none g.L.Course.setup c.args.self.now.client c.args.self.now.worker.pass _ _
      (sym (fed_whole _ _ c.feed.ensures.ok (sym c.if-is_err.ensures.value)));
}

pub returns-in-Some-take_answer-clause-takes : goal.returns-in-Some-take_answer-clause-takes
returns-in-Some-take_answer-clause-takes g c =
    takes_then g.L.Course.setup c.args.self.now.client c.args.self.now.worker.pass c.apdus.self.worker.pass c.take_answer.new.self.worker.pass
    (ending_after_piece c.args.feed.now c.args.piece.now) c.apdus.feed c.next.new.self (Some c.in-Some-take_answer.end)
    c.apdus.invariant.stepped
    (ended_by g.L.Course.setup c.args.self.now.client c.apdus.self.worker.pass c.take_answer.new.self.worker.pass c.apdus.feed
    c.next.new.self c.in-Some.answer c.in-Some-take_answer.end c.in-Some.ensures.answer c.in-Some.ensures.rest
    (subst (λ (k : ℕ). TakesAnswer g.L.Course.setup k c.apdus.self.worker.pass c.take_answer.new.self.worker.pass c.in-Some.answer
    (Some c.in-Some-take_answer.end)) c.apdus.invariant.client c.in-Some-take_answer.ensures.takes))

pub apdus-smaller : goal.apdus-smaller
apdus-smaller g c =
    (took_answer g.L.Course.setup c.apdus.self.client c.apdus.self.worker.pass c.take_answer.new.self.worker.pass c.apdus.feed
    c.next.new.self c.in-Some.answer c.in-Some.ensures.answer c.in-Some.ensures.rest
    c.in_default-take_answer.ensures.takes).1

pub apdus-preserved : goal.apdus-preserved
apdus-preserved g c = record {
  client = c.take_answer.ensures.client ∙ c.apdus.invariant.client;
  stepped =
      stepped_then _ _ _ c.apdus.self.worker.pass _ _ c.apdus.feed _ c.apdus.invariant.stepped
      (took_answer g.L.Course.setup c.args.self.now.client c.apdus.self.worker.pass c.take_answer.new.self.worker.pass c.apdus.feed
      c.next.new.self c.in-Some.answer c.in-Some.ensures.answer c.in-Some.ensures.rest
      (subst (λ (k : ℕ). TakesAnswer g.L.Course.setup k c.apdus.self.worker.pass c.take_answer.new.self.worker.pass c.in-Some.answer None)
      c.apdus.invariant.client c.in_default-take_answer.ensures.takes)).0;
}

pub returns-clause-takes : goal.returns-clause-takes
returns-clause-takes g c =
    stepped_then _ _ _ c.apdus.self.worker.pass _ _ c.apdus.feed _ c.apdus.invariant.stepped
    (stepped_none _ _ c.apdus.self.worker.pass c.apdus.feed c.next.new.self
    (held_still c.apdus.feed c.next.new.self c.in_default.ensures.answer c.in_default.ensures.rest))

pub returns-clause-drained : goal.returns-clause-drained
returns-clause-drained g c =
    drained c.apdus.feed c.next.new.self c.in_default.ensures.answer c.in_default.ensures.rest
