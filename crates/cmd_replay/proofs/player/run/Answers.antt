use Rattle.std.proofs.Common.{Bool, not, IfSome, subst, sym}
use Rattle.cmd_replay.specs.Place.{Place}
use Rattle.cmd_replay.specs.Replay.{AnswersInput, AnswersLine}
use Rattle.cmd_text.specs.Lines.{IsAnswered}
use Rattle.cmd_replay.proofs.InputLaws.{is_answered}
use Rattle.cmd_replay.proofs.player.run.Goals as goal

pub returns-in-Ok : goal.returns-in-Ok
returns-in-Ok g c =
    let setup = c.args.settings in
    let input = g.R.Read.remaining c.args.reader.now in
    let old = g.W.Write.contents c.args.writer.now in
    let new = g.W.Write.contents c.answer_lines.new.writer in
    let last = c.answer_lines.new.answerer in
    let goes_on = c.in-Ok.field-0 in
    let whole = subst
    (λ (s : Place). IfSome input (λ octets. IsAnswered AnswersLine s octets goes_on old new last))
    c.in_ok-player.ensures c.in-Ok.ensures.answers in
    subst (λ (b : Bool). IfSome input (λ octets. AnswersInput setup octets (not b) old new)) (sym c.has_refused.ensures)
    (is_answered setup last goes_on input old new whole)
