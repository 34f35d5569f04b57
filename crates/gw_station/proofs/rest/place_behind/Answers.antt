use Rattle.std.proofs.Common.{◌+◌, length, refl, sym, ap, ◌∙◌}
use Rattle.std.specs.Prelude.{vec_len}
use Rattle.std.proofs.lemmas.Option.{slice_get_read}
use Rattle.gw_answers.specs.declared.interrogation.AnswerSection.{AnswerSection}
use Rattle.gw_station.proofs.Rests.{section_goes, starts}
use Rattle.gw_station.proofs.rest.place_behind.Goals as goal

pub loop-next-preserved : goal.loop-next-preserved
loop-next-preserved c =
    let answer = c.args.answer.now in
    let n = c.loop-next.next in
    let section = c.index-answer-next.result in
    let there = slice_get_read answer (length answer) n section refl c.loop-next-test.true c.index-answer-next.is in
    let rows = c.len.ensures ∙ ap (λ (s : AnswerSection). vec_len s.rows) (sym c.index-answer-next.is)
    ∙ section.rows.ok.0 in
    record {
      within = starts (n + 1) answer;
      left = section_goes n c.loop-next.done c.loop-next.left c.len.result answer section there rows
          c.loop-next.invariant.within c.if-left-here.false
          ∙ c.loop-next.invariant.left;
    }
