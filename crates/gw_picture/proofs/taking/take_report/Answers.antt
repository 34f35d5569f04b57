use Rattle.std.proofs.Common.{rules, ◌≡◌, ℕ, Option, Some, sym, ap, subst, ◌∙◌}
use Rattle.std.specs.List.{AllByRecursion}
use Rattle.gw_entries.specs.declared.row.Row.{Row}
use Rattle.gw_model.specs.declared.observation.Observation.{Observation}
use Rattle.gw_map.specs.Settings.{row_from}
use Rattle.gw_model.specs.Fit.{HasWidth}
use Rattle.gw_model.specs.Places.{change}
use Rattle.gw_time.specs.Rule.{clocks_of}
use Rattle.gw_picture.specs.Picture.{picture_by_row, without_time}
use Rattle.gw_picture.specs.Shown.{IsShown}
use Rattle.gw_picture.proofs.Shows.{image_shown}
use Rattle.gw_picture.proofs.taking.take_report.Goals as goal

pub returns-in-Some-clause-shown : goal.returns-in-Some-clause-shown
returns-in-Some-clause-shown c =
    let picture = c.args.shown.now.items in
    let found : Some (c.in-Some.position, c.in-Some.row.now)
    ≡ row_from 0 c.args.report.now.key c.args.settings.now.rows =
    search rules in
    c.show_at.ensures.shown
    ∙ (ap (λ (x : Observation). change c.in-Some.position (λ _. without_time x) picture) c.image-image.ensures.image
    ∙ ap (λ (row : Option (ℕ × Row)). picture_by_row (clocks_of c.args.zone.now) picture c.args.report.now row)
    found)

pub returns-in-Some-clause-keeps : goal.returns-in-Some-clause-keeps
returns-in-Some-clause-keeps c =
    let width : HasWidth c.image-image.result.value = search rules in
    λ all. subst (AllByRecursion IsShown) (sym c.show_at.ensures.shown)
    (image_shown _ _ _ _ c.image-image.ensures.fit width all)
