use Rattle.std.proofs.Common.{◌≡◌, [], map, take, true, false, is_some, sym, ap, ◌∙◌, arith}
use Rattle.std.specs.List.{list_any}
use Rattle.gw_model.specs.Keys.{same_object}
use Rattle.gw_model.proofs.Same.{same_object-true}
use Rattle.gw_entries.proofs.First.{told}
use Rattle.gw_entries.proofs.Told.{tells_first}
use Rattle.gw_map.specs.Settings.{row_object}
use Rattle.gw_map.proofs.Index.{index-has, index-next, index-end, object_sym}
use Rattle.gw_map.proofs.Repeats.{rep-more, rep-found, rep-end}
use Rattle.gw_map.proofs.indexes.row_index.Goals as goal

pub returns-then-is_some-clause-passes : goal.returns-then-is_some-clause-passes
returns-then-is_some-clause-passes c =
    let object = row_object c.index-rows-position.result in
    let before : list_any (same_object object) (map row_object (take c.loop-position.position c.args.rows.now)) ≡ true =
    sym (index-has same_object c.loop-position.index.entries _ object c.loop-position.invariant.index)
    ∙ ap is_some (sym c.in_ok-insert.ensures.old) ∙ sym c.is_some.ensures ∙ c.if-is_some.true in
    tells_first c.double_address.result _ _ c.double_address.ensures
    (told _ _ _ (rep-found same_object row_object [] c.args.rows.now c.loop-position.position
    c.index-rows-position.result (omega arith) c.loop-position.invariant.none (rw (← c.index-rows-position.is) before)))

pub loop-position-preserved : goal.loop-position-preserved
loop-position-preserved c =
    let object = row_object c.index-rows-position.result in
    let before : list_any (same_object object) (map row_object (take c.loop-position.position c.args.rows.now)) ≡ false =
    sym (index-has same_object c.loop-position.index.entries _ object c.loop-position.invariant.index)
    ∙ ap is_some (sym c.in_ok-insert.ensures.old) ∙ sym c.is_some.ensures ∙ c.if-is_some.false in
    record {
      none = rep-more same_object row_object [] c.args.rows.now c.loop-position.position c.index-rows-position.result
          (omega arith) c.loop-position.invariant.none (rw (← c.index-rows-position.is) before);
      index = index-next same_object object_sym same_object-true row_object c.args.rows.now c.loop-position.position
          c.index-rows-position.result c.loop-position.index.entries _ object (omega arith)
          (ap row_object c.index-rows-position.is) c.loop-position.invariant.index before
          c.in_ok-insert.ensures.updates.0;
    }

pub returns : goal.returns
returns c = record {
  passes = ap (map _) (rep-end same_object row_object [] c.args.rows.now c.loop-position.position
      (omega arith) c.loop-position.invariant.none);
  index = index-end same_object row_object c.args.rows.now c.loop-position.position c.loop-position.index.entries
      (omega arith) c.loop-position.invariant.index;
}
