use Rattle.std.proofs.Common.{[], ◌∷◌, length, min, map, arith, ◌∙◌}
use Rattle.std.proofs.lemmas.List.{map-append}
use Rattle.std.proofs.lemmas.Result.{err_from_is_err_and}
use Rattle.toml.specs.View.{table_view}
use Rattle.gw_map.proofs.Loops.{each_from-more, told_entry, map_take-more, each_from-end, map_take-end}
use Rattle.gw_map.proofs.lists.entries_of.Goals as goal

pub returns-in_err-entry-clause-read : goal.returns-in_err-entry-clause-read
returns-in_err-entry-clause-read g c =
    let p = err_from_is_err_and c.from_residual-in_err-entry.result c.from_residual-in_err-entry.ensures.1 in
    rw (p.1, p.2) (told_entry (g.T.Listed.complaints (min (length c.args.outstations.now) 255))
    (λ table. table_view table.now) _ c.args.tables.now c.loop-position.position c.index-tables-position.result
    (omega arith) c.loop-position.invariant.none (rw (← c.index-tables-position.is) c.in_err-entry.ensures))

pub loop-position-preserved : goal.loop-position-preserved
loop-position-preserved g c = record {
  none = each_from-more (g.T.Listed.complaints (min (length c.args.outstations.now) 255))
      (λ table. table_view table.now) c.args.tables.now c.loop-position.position c.index-tables-position.result
      (omega arith) c.loop-position.invariant.none (rw (← c.index-tables-position.is) c.in_ok-entry.ensures.0);
  kept = rw c.in_ok-push.ensures.items (map-append g.T.Listed.fields c.loop-position.entries.items
      (c.in_ok-entry.field-0 ∷ []) ∙ map_take-more (λ table. g.T.Listed.meaning c.args.station.now.common_address c.args.outstations.now (table_view table.now))
      c.args.tables.now c.loop-position.position c.index-tables-position.result
      (map g.T.Listed.fields c.loop-position.entries.items) (g.T.Listed.fields c.in_ok-entry.field-0)
      (omega arith) c.loop-position.invariant.kept (rw (← c.index-tables-position.is) c.in_ok-entry.ensures.1));
  len = rw (c.in_ok-push.ensures.len, c.loop-position.invariant.len);
}

pub returns-clause-read : goal.returns-clause-read
returns-clause-read g c = (
  each_from-end (g.T.Listed.complaints (min (length c.args.outstations.now) 255)) (λ table. table_view table.now) c.args.tables.now
      c.loop-position.position (omega arith) c.loop-position.invariant.none,
  map_take-end (g.T.Listed.meaning c.args.station.now.common_address c.args.outstations.now) (λ table. table_view table.now) c.args.tables.now c.loop-position.position
      (map g.T.Listed.fields c.loop-position.entries.items) (omega arith) c.loop-position.invariant.kept,
)
