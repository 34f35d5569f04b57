use Rattle.std.proofs.Common.{refl, ◌≡◌, map, take, true, false, is_some, sym, ap, ◌∙◌, arith}
use Rattle.std.specs.List.{list_any}
use Rattle.std.proofs.lemmas.List.Folds.{list_any-append}
use Rattle.gw_model.specs.Keys.{same_object}
use Rattle.gw_model.proofs.Same.{same_object-true}
use Rattle.gw_entries.proofs.First.{told}
use Rattle.gw_entries.proofs.Told.{tells_first}
use Rattle.gw_map.specs.Settings.{control_object}
use Rattle.gw_map.proofs.Index.{index-has, index-next, index-end, object_sym}
use Rattle.gw_map.proofs.Repeats.{rep-more, rep-found, rep-end}
use Rattle.gw_map.proofs.indexes.control_index.Goals as goal

pub returns-then-contains_key-clause-passes : goal.returns-then-contains_key-clause-passes
returns-then-contains_key-clause-passes c = λ objects points.
    let object = control_object c.index-controls-position.result in
    let front = map control_object (take c.loop-position.position c.args.controls.now) in
    let there : list_any (same_object object) objects ≡ true =
    sym (index-has same_object c.args.row_objects.now.entries objects object points)
    ∙ sym c.contains_key.ensures ∙ c.if-contains_key.true in
    tells_first c.double_address.result _ _ c.double_address.ensures
    (told _ _ _ (rep-found same_object control_object objects c.args.controls.now c.loop-position.position
    c.index-controls-position.result (omega arith) (c.loop-position.invariant.none objects points)
    (rw (← c.index-controls-position.is) (list_any-append (same_object object) objects front ∙ rw there refl))))

pub returns-then-is_some-clause-passes : goal.returns-then-is_some-clause-passes
returns-then-is_some-clause-passes c = λ objects points.
    let object = control_object c.index-controls-position.result in
    let front = map control_object (take c.loop-position.position c.args.controls.now) in
    let before : list_any (same_object object) front ≡ true =
    sym (index-has same_object c.loop-position.index.entries front object c.loop-position.invariant.index)
    ∙ ap is_some (sym c.in_ok-insert.ensures.old) ∙ sym c.is_some.ensures ∙ c.if-is_some.true in
    let absent : list_any (same_object object) objects ≡ false =
    sym (index-has same_object c.args.row_objects.now.entries objects object points)
    ∙ sym c.contains_key.ensures ∙ c.if-contains_key.false in
    tells_first c.double_address-then-is_some.result _ _ c.double_address-then-is_some.ensures
    (told _ _ _ (rep-found same_object control_object objects c.args.controls.now c.loop-position.position
    c.index-controls-position.result (omega arith) (c.loop-position.invariant.none objects points)
    (rw (← c.index-controls-position.is) (list_any-append (same_object object) objects front ∙ rw (absent, before) refl))))

pub loop-position-preserved : goal.loop-position-preserved
loop-position-preserved c =
    let object = control_object c.index-controls-position.result in
    let front = map control_object (take c.loop-position.position c.args.controls.now) in
    let before : list_any (same_object object) front ≡ false =
    sym (index-has same_object c.loop-position.index.entries front object c.loop-position.invariant.index)
    ∙ ap is_some (sym c.in_ok-insert.ensures.old) ∙ sym c.is_some.ensures ∙ c.if-is_some.false in
    record {
      none = λ objects points.
          let absent : list_any (same_object object) objects ≡ false =
          sym (index-has same_object c.args.row_objects.now.entries objects object points)
          ∙ sym c.contains_key.ensures ∙ c.if-contains_key.false in
          rep-more same_object control_object objects c.args.controls.now c.loop-position.position
          c.index-controls-position.result (omega arith) (c.loop-position.invariant.none objects points)
          (rw (← c.index-controls-position.is)
          (list_any-append (same_object object) objects front ∙ rw (absent, before) refl));
      index = index-next same_object object_sym same_object-true control_object c.args.controls.now
          c.loop-position.position c.index-controls-position.result c.loop-position.index.entries _ object (omega arith)
          (ap control_object c.index-controls-position.is) c.loop-position.invariant.index before
          c.in_ok-insert.ensures.updates.0;
    }

pub returns : goal.returns
returns c = record {
  passes = λ objects points. ap (map _) (rep-end same_object control_object objects c.args.controls.now
      c.loop-position.position (omega arith) (c.loop-position.invariant.none objects points));
  index = index-end same_object control_object c.args.controls.now c.loop-position.position
      c.loop-position.index.entries (omega arith) c.loop-position.invariant.index;
}
