use Rattle.std.proofs.Common.{◌≡◌, [], map, take, true, false, is_some, sym, ap, ◌∙◌, arith}
use Rattle.std.specs.List.{list_any}
use Rattle.std.proofs.lemmas.List.{take_all}
use Rattle.indexmap.proofs.CallerLemmas.{insert_entry-new}
use Rattle.gw_model.specs.contracts.point.PointKeyPartialEq.TheImpl.{eq-value}
use Rattle.gw_model.specs.Keys.{same_key}
use Rattle.gw_entries.proofs.First.{told}
use Rattle.gw_entries.proofs.Told.{tells_first}
use Rattle.gw_map.specs.Settings.{by_point}
use Rattle.gw_map.proofs.Loops.{map_take-more}
use Rattle.gw_map.proofs.Points.{has_point, is_some-false}
use Rattle.gw_map.proofs.Repeats.{rep-more, rep-found, rep-end}
use Rattle.gw_map.proofs.indexes.point_map.Goals as goal

pub returns-then-is_some : goal.returns-then-is_some
returns-then-is_some c =
    let before : list_any (same_key c.index-rows-position.result.key)
    (map (λ row. row.key) (take c.loop-position.position c.args.rows.now)) ≡ true =
    sym (has_point c.loop-position.points.entries c.index-rows-position.result.key _ c.loop-position.invariant.kept)
    ∙ ap is_some (sym c.in_ok-insert.ensures.old) ∙ sym c.is_some.ensures ∙ c.if-is_some.true in
    tells_first c.at.result _ _ c.at.ensures
    (told _ _ _ (rep-found same_key (λ row. row.key) [] c.args.rows.now c.loop-position.position
    c.index-rows-position.result (omega arith) c.loop-position.invariant.none (rw (← c.index-rows-position.is) before)))

pub loop-position-preserved : goal.loop-position-preserved
loop-position-preserved c =
    let row = c.index-rows-position.result in
    let new = sym c.is_some.ensures ∙ c.if-is_some.false in
    let fresh : list_any (same_key row.key) (map (λ row. row.key) (take c.loop-position.position c.args.rows.now)) ≡ false =
    sym (has_point c.loop-position.points.entries row.key _ c.loop-position.invariant.kept)
    ∙ ap is_some (sym c.in_ok-insert.ensures.old) ∙ new in
    record {
      none = rep-more same_key (λ row. row.key) [] c.args.rows.now c.loop-position.position row
          (omega arith) c.loop-position.invariant.none (rw (← c.index-rows-position.is) fresh);
      kept = c.in_ok-insert.ensures.entries
          ∙ insert_entry-new eq-value.it c.loop-position.points row.key row
          (sym c.in_ok-insert.ensures.old ∙ is_some-false _ new)
          ∙ map_take-more (λ row. (row.key, row)) c.args.rows.now c.loop-position.position row
          c.loop-position.points.entries (row.key, row)
          (omega arith) c.loop-position.invariant.kept (ap (λ row. (row.key, row)) c.index-rows-position.is);
    }

pub returns : goal.returns
returns c = (
  ap (map _) (rep-end same_key (λ row. row.key) [] c.args.rows.now c.loop-position.position
      (omega arith) c.loop-position.invariant.none),
  c.loop-position.invariant.kept ∙ ap (λ rows. by_point rows) (take_all c.loop-position.position c.args.rows.now (omega arith)),
)
