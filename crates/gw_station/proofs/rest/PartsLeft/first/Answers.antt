use Rattle.std.proofs.Common.{List, length, refl, sym, ap, ◌∙◌}
use Rattle.std.specs.Prelude.{option_map, slice_get}
use Rattle.std.specs.Arc.{arc_slice_items}
use Rattle.std.proofs.lemmas.Bool.{ltb-true}
use Rattle.std.proofs.lemmas.Option.{slice_get_read}
use Rattle.gw_model.specs.declared.observation.Observation.{Observation}
use Rattle.gw_answers.specs.declared.interrogation.AnswerSection.{AnswerSection}
use Rattle.gw_answers.specs.declared.outgoing.OwnAsdu.{OwnAsdu}
use Rattle.gw_answers.specs.Interrogations.{answer_with}
use Rattle.gw_answers.specs.Sections.{parts_of}
use Rattle.gw_station.specs.Kept.{parts_left}
use Rattle.gw_station.proofs.Rests.{first_of}
use Rattle.gw_station.proofs.rest.PartsLeft.first.Goals as goal

pub returns : goal.returns
returns c =
    let section = c.self.inside.section in
    let done = c.self.inside.done in
    let sections = c.as_slice.result.now in
    let next = c.in_ok-section.section.now in
    let found = c.in_ok-section.ensures.lookup in
    let there = slice_get_read sections (length sections) section next refl
    (ltb-true section (length sections) (sym found.0)) found.1 in
    first_of section done (arc_slice_items c.in_ok-answer.answer.now) next c.part_at.result
    (ap (λ (xs : List AnswerSection). slice_get xs section) (sym c.as_slice.ensures.value) ∙ there)
    (c.part_at.ensures
    ∙ ap (λ (rows : List Observation). slice_get (answer_with next.command rows) done) c.as_slice-2.ensures.value)
    ∙ (ap (λ o. slice_get (parts_left section done (option_map (λ answer. parts_of (arc_slice_items answer)) o)) 0)
    c.in_ok-answer.ensures.value
    ∙ ap (λ (parts : List OwnAsdu). slice_get parts 0) c.self.view_is)
