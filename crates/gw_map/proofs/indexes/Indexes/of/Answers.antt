use Rattle.std.proofs.Common.{map}
use Rattle.std.proofs.lemmas.Result.{err_from_is_err_and}
use Rattle.gw_entries.proofs.Told.{told_front}
use Rattle.gw_map.specs.Settings.{row_object, control_object}
use Rattle.gw_map.proofs.Repeats.{double_split}
use Rattle.gw_map.proofs.indexes.Indexes.of.Goals as goal

pub returns-in_err-points-clause-points : goal.returns-in_err-points-clause-points
returns-in_err-points-clause-points c =
    let p = err_from_is_err_and c.from_residual-in_err-points.result c.from_residual-in_err-points.ensures.1 in
    rw (p.1, p.2, ← c.sections.view_is)
    (told_front _ _ _ (rw c.deref-2.ensures.value at c.in_err-points.ensures))

pub returns-in_err-row_objects-clause-points : goal.returns-in_err-row_objects-clause-points
returns-in_err-row_objects-clause-points c =
    let p = err_from_is_err_and c.from_residual-in_err-row_objects.result c.from_residual-in_err-row_objects.ensures.1 in
    let rows = c.sections.inside.rows.items in
    let controls = c.sections.inside.controls.items in
    let once = rw c.deref-2.ensures.value at c.in_ok-points.ensures.0 in
    rw (p.1, p.2, ← c.sections.view_is)
    (rw (once, double_split (map row_object rows) (map control_object controls))
    (told_front _ _ _ (rw c.deref-3.ensures.value at c.in_err-row_objects.ensures.passes)))

pub returns-in_err-control_objects-clause-points : goal.returns-in_err-control_objects-clause-points
returns-in_err-control_objects-clause-points c =
    let p = err_from_is_err_and c.from_residual-in_err-control_objects.result c.from_residual-in_err-control_objects.ensures.1 in
    let rows = c.sections.inside.rows.items in
    let controls = c.sections.inside.controls.items in
    let once = rw c.deref-2.ensures.value at c.in_ok-points.ensures.0 in
    let objects = rw c.deref-3.ensures.value at c.in_ok-row_objects.ensures in
    let told = rw c.deref-4.ensures.value at (c.in_err-control_objects.ensures.passes (map row_object rows) objects.index) in
    rw (p.1, p.2, ← c.sections.view_is)
    (rw (once, double_split (map row_object rows) (map control_object controls), objects.passes) told)

pub returns-clause-points : goal.returns-clause-points
returns-clause-points c =
    let rows = c.sections.inside.rows.items in
    let controls = c.sections.inside.controls.items in
    let points = rw c.deref-2.ensures.value at c.in_ok-points.ensures in
    let objects = rw c.deref-3.ensures.value at c.in_ok-row_objects.ensures in
    let more = rw c.deref-4.ensures.value at (c.in_ok-control_objects.ensures.passes (map row_object rows) objects.index) in
    rw (← c.sections.view_is)
    ((rw (points.0, double_split (map row_object rows) (map control_object controls), objects.passes) more), points.1)
