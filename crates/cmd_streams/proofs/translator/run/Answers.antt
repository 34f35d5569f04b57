use Rattle.std.proofs.Common.{◌≡◌, ◌≢◌, IfSome, subst, sym}
use Rattle.std.specs.Io.KnownBytes.{Appends, IsAtEnd}
use Rattle.cmd_text.specs.Lines.{IsAnswered}
use Rattle.cmd_streams.specs.Answers.{AnswersInput, AnswersLine, finding_of, text_of}
use Rattle.cmd_streams.specs.Standing.{Standing}
use Rattle.cmd_streams.specs.declared.translator.Finding.{Finding}
use Rattle.cmd_streams.specs.declared.translator.Finding.TheVariants.{ShortOfMemory}
use Rattle.cmd_streams.proofs.InputLaws.{at_end, finding_is, is_answered, text_is_written}
use Rattle.cmd_streams.proofs.translator.run.Goals as goal

pub returns-in-Ok : goal.returns-in-Ok
returns-in-Ok g c =
    let setup = c.args.settings in
    let input = g.R.Read.remaining c.args.reader.now in
    let old = g.W.Write.contents c.args.writer.now in
    let new = g.W.Write.contents c.answer_lines.new.writer in
    let last = c.answer_lines.new.answerer in
    let goes_on = c.in-Ok.field-0 in
    let whole = subst
    (λ (s : Standing). IfSome input (λ octets. IsAnswered AnswersLine s octets goes_on old new last))
    c.in_ok-translator.ensures c.in-Ok.ensures.answers in
    let found = sym c.finding.ensures in
    record {
      end = at_end setup last goes_on old new (IsAtEnd (g.R.Read.remaining c.answer_lines.new.reader)) input whole
          c.in-Ok.ensures.end;
      answers = subst (λ (f : Finding). IfSome input (λ octets. AnswersInput setup octets f old new)) found
          (is_answered setup last goes_on old new input whole);
      finding = subst (λ (f : Finding). f ≢ ShortOfMemory → IfSome input (λ octets. f ≡ finding_of octets)) found
          (finding_is setup last goes_on old new input whole);
      text = subst
          (λ (f : Finding). f ≢ ShortOfMemory → IfSome input (λ octets. Appends old new (text_of setup octets))) found
          (text_is_written setup last goes_on old new input whole);
    }
