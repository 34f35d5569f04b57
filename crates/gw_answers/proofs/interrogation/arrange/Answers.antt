-- The row is where it belongs.
use Rattle.std.proofs.Common.{rules, ◌≡◌, true, false, ◌==◌, List, [], ◌∷◌, ◌++◌, refl, sym, ap, ◌∙◌}
use Rattle.std.specs.List.{list_any}
use Rattle.gw_model.specs.Places.{change}
use Rattle.gw_model.specs.declared.observation.Observation.{Observation}
use Rattle.gw_answers.specs.Interrogations.{is_asked_by}
use Rattle.gw_answers.proofs.Arranged.{here, nowhere}
use Rattle.gw_answers.proofs.interrogation.arrange.Goals as goal

pub returns-in_default-clause-rows : goal.returns-in_default-clause-rows
returns-in_default-clause-rows c before so_far =
    let none : list_any (λ address. address == c.args.row.now.common) c.args.addresses.now ≡ false =
    c.in_default.ensures.nowhere refl in
    so_far ∙ sym (nowhere c.args.action before c.args.row.now c.args.addresses.now none)

pub returns-clause-rows : goal.returns-clause-rows
returns-clause-rows c before so_far =
    let asked : is_asked_by c.args.action c.args.row.now ≡ true = search rules in
    c.in_ok-add_row.ensures.rows
    ∙ (ap (change c.in-Some.place (λ (rows : List Observation). rows ++ c.args.row.now ∷ [])) so_far
    ∙ sym (here c.args.action before c.args.row.now c.args.addresses.now c.in-Some.place asked c.requires
    c.in-Some.ensures.there))
