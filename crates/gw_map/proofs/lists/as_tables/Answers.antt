use Rattle.std.proofs.Common.{◌≡◌, Some, get_or, sym}
use Rattle.std.proofs.lemmas.List.{map-append}
use Rattle.toml.specs.Data.{as_table}
use Rattle.toml.specs.View.{view, table_view}
use Rattle.gw_map.specs.Answers.{seen}
use Rattle.gw_map.proofs.Listed.{after-none, one_more_table, no_more_tables, all_tables}
use Rattle.gw_map.proofs.lists.as_tables.Goals as goal

pub loop-value-init : goal.loop-value-init
loop-value-init c = rw c.in_ok-tables.ensures.items (after-none _)

pub loop-value-preserved : goal.loop-value-preserved
loop-value-preserved c =
    let at = c.loop-value.value-index in
    let here : as_table (view (get_or c.args.values.now at c.value-item.result))
    ≡ Some (table_view c.in-Some.table.now) =
    rw (← c.value-item.is) (sym c.in-Some.ensures) in
    rw (c.in_ok-push-in-Some.ensures.items, map-append)
    (one_more_table (seen c.loop-value.tables.items) _ c.args.values.now at c.value-item.result _ c.loop-value-test.true
    here c.loop-value.invariant)

pub returns-in-None : goal.returns-in-None
returns-in-None c =
    no_more_tables (seen c.loop-value.tables.items) c.args.values.now c.loop-value.value-index c.value-item.result _
    c.loop-value-test.true
    (rw (← c.value-item.is) (sym c.in-None.ensures)) c.loop-value.invariant

pub returns : goal.returns
returns c = all_tables (seen c.loop-value.tables.items) c.args.values.now c.loop-value.value-index _
    c.loop-value-test.false c.loop-value.invariant
