-- What was read so far is answered, but for the line that is begun; a read ends one line at most.
use Rattle.std.proofs.Common.{◌≡◌, ◌≤◌, ◌+◌}
use Rattle.cmd_text.proofs.AnsweringLaws.{UpTo}
use Rattle.cmd_text.proofs.answering.answer_lines.Given as goal

abbrev pub invariant-loop-read : goal.invariant-loop-read
invariant-loop-read g l = record {
  most : l.line.most ≡ g.A.AnswersLines.KEPT;
  few : l.line.number ≤ l._read + 1;
  so_far : UpTo g.A.AnswersLines.Answers l.initial.answerer l.answerer l.line (g.R.Read.remaining l.initial.reader)
      (g.R.Read.remaining l.reader) (g.W.Write.contents l.initial.writer) (g.W.Write.contents l.writer);
}
