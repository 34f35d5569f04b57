use Rattle.std.proofs.Common.{◌∙◌, inl, inr, subst, true, false, arith}
use Rattle.cmd_text.specs.Reading.{Brings}
use Rattle.cmd_text.specs.declared.reading.Piece.{Piece}
use Rattle.cmd_text.proofs.AnsweringLaws.{after_line, after_nothing, after_part, answered_at_end}
use Rattle.cmd_text.proofs.AnsweringLaws.{at_end, at_first, front_stays, if_ok, stopped, told}
use Rattle.cmd_text.proofs.answering.answer_lines.Goals as goal
use Rattle.cmd_text.proofs.answering.answer_lines.Goals.{in-Nothing, in-Line+in_ok-answer-in-Line+else-not-branch}

pub loop-read-init : goal.loop-read-init
loop-read-init g c =
    rw c.in_ok-line.ensures (record {
      most = c.KEPT.ensures;
      few = omega arith;
      so_far = at_first g.A.AnswersLines.Answers c.args.answerer.now c.KEPT.result
          (g.R.Read.remaining c.args.reader.now) (g.W.Write.contents c.args.writer.now);
    })

pub begin_next-requires : goal.begin_next-requires
begin_next-requires g c =
    let middle = g.R.Read.remaining c.loop-read.reader in
    let rest = g.R.Read.remaining c.read_piece.new.reader in
    let same = front_stays c.in_ok-read_piece.field-0 middle rest c.loop-read.line c.read_piece.new.line
    c.in_ok-read_piece.ensures in
    omega (arith, same.1, c.loop-read.invariant.few)

pub returns-then-not-branch-clause-answers : goal.returns-then-not-branch-clause-answers
returns-then-not-branch-clause-answers g c =
    let R = g.A.AnswersLines.Answers in
    let kept = g.A.AnswersLines.KEPT in
    let decides = g.met.A.AnswersLines.front_decides in
    let first = c.args.answerer.now in
    let now = c.loop-read.answerer in
    let then = c.answer.new.self in
    let front = c.loop-read.line in
    let longer = c.read_piece.new.line in
    let most = c.loop-read.invariant.most in
    let middle = g.R.Read.remaining c.loop-read.reader in
    let rest = g.R.Read.remaining c.read_piece.new.reader in
    let brings = subst (λ (p : Piece). Brings p middle rest front longer) c.in-Line.is c.in_ok-read_piece.ensures in
    let answered = c.in_ok-answer-in-Line.ensures in
    let line = told R first kept decides now then front longer most c.number.result c.octets.result.now _ false
    answered.0 c.number.ensures c.octets.ensures c.if-not-branch.true answered.2 in
    stopped R first kept decides now then front longer most (g.R.Read.remaining c.args.reader.now) middle rest
    (g.W.Write.contents c.args.writer.now) (g.W.Write.contents c.loop-read.writer)
    (g.W.Write.contents c.answer.new.writer) answered.0 c.loop-read.invariant.so_far brings answered.1 line

pub returns-in-End-clause-answers : goal.returns-in-End-clause-answers
returns-in-End-clause-answers g c =
    let middle = g.R.Read.remaining c.loop-read.reader in
    let rest = g.R.Read.remaining c.read_piece.new.reader in
    let front = c.loop-read.line in
    let longer = c.read_piece.new.line in
    let brings = subst (λ (p : Piece). Brings p middle rest front longer) c.in-End.is c.in_ok-read_piece.ensures in
    answered_at_end g.A.AnswersLines.Answers c.args.answerer.now g.A.AnswersLines.KEPT
    g.met.A.AnswersLines.front_decides c.loop-read.answerer c.answer-in-End.new.self front longer
    c.loop-read.invariant.most
    c.number-in-End.result c.octets-in-End.result.now c.answer-in-End.result
    (g.R.Read.remaining c.args.reader.now) middle rest (g.W.Write.contents c.args.writer.now)
    (g.W.Write.contents c.loop-read.writer) (g.W.Write.contents c.answer-in-End.new.writer)
    c.loop-read.invariant.so_far brings c.number-in-End.ensures c.octets-in-End.ensures c.answer-in-End.ensures

pub returns-in-End-clause-end : goal.returns-in-End-clause-end
returns-in-End-clause-end g c =
    let middle = g.R.Read.remaining c.loop-read.reader in
    let rest = g.R.Read.remaining c.read_piece.new.reader in
    let front = c.loop-read.line in
    let longer = c.read_piece.new.line in
    let brings = subst (λ (p : Piece). Brings p middle rest front longer) c.in-End.is c.in_ok-read_piece.ensures in
    if_ok _ c.answer-in-End.result
    (at_end g.A.AnswersLines.Answers c.args.answerer.now c.loop-read.answerer front longer
    (g.R.Read.remaining c.args.reader.now) middle rest (g.W.Write.contents c.args.writer.now)
    (g.W.Write.contents c.loop-read.writer) c.loop-read.invariant.so_far brings)

pub loop-read-preserved : goal.loop-read-preserved
loop-read-preserved g c =
    let R = g.A.AnswersLines.Answers in
    let first = c.args.answerer.now in
    let now = c.loop-read.answerer in
    let front = c.loop-read.line in
    let longer = c.read_piece.new.line in
    let input = g.R.Read.remaining c.args.reader.now in
    let middle = g.R.Read.remaining c.loop-read.reader in
    let rest = g.R.Read.remaining c.read_piece.new.reader in
    let old = g.W.Write.contents c.args.writer.now in
    let between = g.W.Write.contents c.loop-read.writer in
    let read = c.in_ok-read_piece.ensures in
    let same = front_stays c.in_ok-read_piece.field-0 middle rest front longer read in
    let most = c.loop-read.invariant.most in
    let so_far = c.loop-read.invariant.so_far in
    elim c.match-branch-3.branch [
      | in-Nothing w ↦
          rw (w.answerer-is, w.writer-is, w.line-is) (record {
            most = same.0 ∙ most;
            few = omega (arith, same.1, c.loop-read.invariant.few);
            so_far = elim w.in-Nothing.is [
              | inl nothing ↦
                  after_nothing R first now front longer old between input middle rest so_far
                  (subst (λ (p : Piece). Brings p middle rest front longer) nothing read)
              | inr part ↦
                  after_part R first now front longer old between input middle rest so_far
                  (subst (λ (p : Piece). Brings p middle rest front longer) part read)
            ];
          })
      | in-Line+in_ok-answer-in-Line+else-not-branch w ↦
          let kept = g.A.AnswersLines.KEPT in
          let decides = g.met.A.AnswersLines.front_decides in
          let then = w.answer.new.self in
          let new = g.W.Write.contents w.answer.new.writer in
          let brings = subst (λ (p : Piece). Brings p middle rest front longer) w.in-Line.is read in
          let answered = w.in_ok-answer-in-Line.ensures in
          let line = told R first kept decides now then front longer most w.number.result w.octets.result.now _ true
          answered.0 w.number.ensures w.octets.ensures w.if-not-branch.false answered.2 in
          rw (w.answerer-is, w.writer-is, w.line-is, w.begin_next.ensures) (record {
            most = same.0 ∙ most;
            few = omega (arith, same.1, c.loop-read.invariant.few);
            so_far = after_line R first kept decides now then front longer most input middle rest old between new
                answered.0 so_far brings answered.1 line;
          })
    ]
