use Rattle.std.proofs.Common.{refl, sym}
use Rattle.std.specs.Map.{values_of}
use Rattle.gw_model.specs.Keys.{same_object}
use Rattle.gw_map.specs.Settings.{row_object}
use Rattle.gw_map.proofs.Index.{finds, finds-none, finds-nothing}
use Rattle.gw_map.proofs.Points.{row_there}
use Rattle.gw_map.proofs.Whole.{object}
use Rattle.gw_map.proofs.settings.Settings.row_at.Goals as goal

pub returns-in_err-position : goal.returns-in_err-position
returns-in_err-position c =
    let key = object c.args.common_address c.args.address in
    rw (c.from_residual.ensures, ← c.self.view_is)
    (sym (finds-none same_object row_object key c.self.inside.row_objects.entries (values_of c.self.inside.points.entries)
    c.self.invariant.0.by_object (λ x. same_object key (row_object x)) (λ x. refl) (sym c.in_err-position.ensures.value)))

pub returns-in_err-row : goal.returns-in_err-row
returns-in_err-row c =
    let key = object c.args.common_address c.args.address in
    rw (c.from_residual-in_err-row.ensures, ← c.self.view_is)
    (sym (finds-nothing same_object row_object key c.self.inside.row_objects.entries (values_of c.self.inside.points.entries)
    c.self.invariant.0.by_object (λ x. same_object key (row_object x)) (λ x. refl) c.in_ok-position.field-0.now
    (sym c.in_ok-position.ensures.value)
    (row_there c.self.inside.points.entries c.in_ok-position.field-0.now _ (sym c.in_err-row.ensures.entry))))

pub returns : goal.returns
returns c =
    let key = object c.args.common_address c.args.address in
    rw (← c.self.view_is)
    (sym (finds same_object row_object key c.self.inside.row_objects.entries (values_of c.self.inside.points.entries)
    c.self.invariant.0.by_object (λ x. same_object key (row_object x)) (λ x. refl) c.in_ok-position.field-0.now
    c.in_ok-row.row.now (sym c.in_ok-position.ensures.value)
    (row_there c.self.inside.points.entries c.in_ok-position.field-0.now _ (sym c.in_ok-row.ensures.entry))))
