use Rattle.std.proofs.Common.{refl, sym}
use Rattle.std.proofs.lemmas.Option.{slice_get_past}
use Rattle.gw_model.specs.Keys.{same_object}
use Rattle.gw_map.specs.Settings.{control_object}
use Rattle.gw_map.proofs.Finding.{slice_get-from_get_or}
use Rattle.gw_map.proofs.Index.{finds, finds-none, finds-nothing}
use Rattle.gw_map.proofs.Whole.{object}
use Rattle.gw_map.proofs.settings.Settings.control_at.Goals as goal

pub returns-in_err-position : goal.returns-in_err-position
returns-in_err-position c =
    let key = object c.args.common_address c.args.address in
    let kept = c.self.invariant.0 in
    rw (c.from_residual.ensures, ← c.self.view_is)
    (sym (finds-none same_object control_object key c.self.inside.control_objects.entries c.self.inside.controls.items
    kept.control_by_object (λ x. same_object key (control_object x)) (λ x. refl) (sym c.in_err-position.ensures.value)))

pub returns-in_err-get : goal.returns-in_err-get
returns-in_err-get c =
    let key = object c.args.common_address c.args.address in
    let kept = c.self.invariant.0 in
    rw (c.from_residual-in_err-get.ensures, ← c.self.view_is)
    (sym (finds-nothing same_object control_object key c.self.inside.control_objects.entries c.self.inside.controls.items
    kept.control_by_object (λ x. same_object key (control_object x)) (λ x. refl) c.in_ok-position.field-0.now
    (sym c.in_ok-position.ensures.value)
    (rw c.deref.ensures.value at (slice_get_past c.deref.result.now c.in_ok-position.field-0.now
    c.in_err-get.ensures.lookup.3))))

pub returns : goal.returns
returns c =
    let key = object c.args.common_address c.args.address in
    let kept = c.self.invariant.0 in
    let there = rw c.deref.ensures.value at (slice_get-from_get_or c.deref.result.now c.in_ok-position.field-0.now
    c.in_ok-get.field-0.now c.in_ok-get.ensures.lookup.3.0 c.in_ok-get.ensures.lookup.1) in
    rw (← c.self.view_is)
    (sym (finds same_object control_object key c.self.inside.control_objects.entries c.self.inside.controls.items
    kept.control_by_object (λ x. same_object key (control_object x)) (λ x. refl) c.in_ok-position.field-0.now c.in_ok-get.field-0.now
    (sym c.in_ok-position.ensures.value) there))
