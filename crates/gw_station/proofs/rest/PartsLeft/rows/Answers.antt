use Rattle.std.proofs.Common.{List, ap, ◌∙◌}
use Rattle.std.specs.Arc.{arc_slice_items}
use Rattle.gw_answers.specs.declared.interrogation.AnswerSection.{AnswerSection}
use Rattle.gw_station.specs.Kept.{rows_at}
use Rattle.gw_station.proofs.Rests.{rows_of_answer}
use Rattle.gw_station.proofs.rest.PartsLeft.rows.Goals as goal

pub returns-in-Some : goal.returns-in-Some
returns-in-Some c =
    let section = c.self.inside.section in
    let done = c.self.inside.done in
    rows_of_answer arc_slice_items section done c.self.inside.answer c.in-Some.answer c.rows_left.result.now
    c.args.self.now c.in-Some.is c.self.invariant
    (c.rows_left.ensures
    ∙ ap (λ (sections : List AnswerSection). rows_at section done sections) c.as_slice.ensures.value)
    c.self.view_is
