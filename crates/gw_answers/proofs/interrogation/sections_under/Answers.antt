-- All rows are in their sections.
use Rattle.std.proofs.Common.{List, map, ap, ◌∙◌}
use Rattle.std.proofs.lemmas.List.{take_all}
use Rattle.gw_model.specs.declared.observation.Observation.{Observation}
use Rattle.gw_answers.specs.Interrogations.{rows_under}
use Rattle.gw_answers.proofs.Arranged.{sections_are}
use Rattle.gw_answers.proofs.interrogation.sections_under.Goals as goal

pub returns : goal.returns
returns c =
    sections_are c.args.command.now c.args.picture.now c.args.addresses.now c.loop-observation.sections.items
    c.loop-observation.invariant.0
    (c.loop-observation.invariant.1
    ∙ ap (λ (picture : List Observation). map (rows_under c.args.command.now.action picture) c.args.addresses.now)
    (take_all c.loop-observation.observation-index c.args.picture.now c.loop-observation-test.false))
