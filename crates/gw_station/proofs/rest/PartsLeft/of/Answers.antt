use Rattle.std.proofs.Common.{◌<◌, List, length, sym, subst, arith}
use Rattle.std.proofs.lemmas.Bool.Decides.{nat_tests}
use Rattle.gw_answers.specs.declared.interrogation.AnswerSection.{AnswerSection}
use Rattle.gw_answers.specs.Sections.{parts_of}
use Rattle.gw_station.specs.Kept.{HasPart}
use Rattle.gw_station.proofs.Rests.{begins}
use Rattle.gw_station.proofs.rest.PartsLeft.of.Goals as goal

pub invariant_of-result : goal.invariant_of-result
invariant_of-result c =
    let some : 0 < length c.args.answer.items = grind (arith, nat_tests, c.args.answer.ok.0) in
    subst (λ (sections : List AnswerSection). HasPart 0 0 (parts_of sections)) (sym c.in_ok-from_vec.ensures)
    (begins c.args.answer.items some)
