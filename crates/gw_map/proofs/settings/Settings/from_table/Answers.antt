use Rattle.std.proofs.Common.{◌≡◌, List, sym, ap, ◌∙◌}
use Rattle.std.specs.Map.{values_of}
use Rattle.std.proofs.lemmas.Result.{err_from_is_err_and}
use Rattle.toml.specs.View.{table_view}
use Rattle.gw_entries.specs.declared.row.Row.{Row}
use Rattle.gw_entries.proofs.Told.{told_front}
use Rattle.gw_map.specs.Settings.{SetupFields, setup_fields, by_point}
use Rattle.gw_map.proofs.Points.{rows_kept}
use Rattle.gw_map.proofs.Repeats.{map-nothing, nil_parts}
use Rattle.gw_map.proofs.Whole.{repeats_read}
use Rattle.gw_map.proofs.settings.Settings.from_table.Goals as goal

pub returns-in_err-sections : goal.returns-in_err-sections
returns-in_err-sections c =
    let p = err_from_is_err_and c.from_residual.result c.from_residual.ensures.1 in
    rw (p.1, p.2) (told_front _ _ _ c.in_err-sections.ensures)

pub returns-in_err-indexes : goal.returns-in_err-indexes
returns-in_err-indexes c =
    let p = err_from_is_err_and c.from_residual-in_err-indexes.result c.from_residual-in_err-indexes.ensures.1 in
    rw (p.1, p.2)
    (rw (
      c.in_ok-sections.ensures.0,
      ← repeats_read (table_view c.args.top.now) c.in_ok-sections.sections c.in_ok-sections.ensures.1,
    ) c.in_err-indexes.ensures.points)

pub invariant_of-result : goal.invariant_of-result
invariant_of-result c =
    let rows = c.sections.inside.rows.items in
    let indexed = rw (← c.sections.view_is) at c.in_ok-indexes.ensures in
    let values : values_of c.in_ok-indexes.indexes.points.entries ≡ rows = rows_kept _ _ indexed.points.1 in
    let once = nil_parts _ _ indexed.points.0 in (
      record {
        keyed = indexed.points.1 ∙ ap (λ rows. by_point rows) (sym values);
        by_object = rw values indexed.row_objects;
        control_by_object = indexed.control_objects;
        sources = rw values (map-nothing _ _ once.0);
        single = rw values (map-nothing _ _ once.1);
      },
      record { known = indexed.known; within = rw indexed.known at indexed.within },
      record { each_row = rw values c.sections.invariant.each_row; each_control = c.sections.invariant.each_control },
    )

pub returns : goal.returns
returns c =
    let top = table_view c.args.top.now in
    let indexed = rw (← c.sections.view_is) at c.in_ok-indexes.ensures in
    let values : values_of c.in_ok-indexes.indexes.points.entries ≡ c.sections.inside.rows.items =
    rows_kept _ _ indexed.points.1 in
    let fields : (rows : List Row) → SetupFields = λ rows. setup_fields (record {
      station = c.sections.inside.station;
      outstations = c.sections.inside.outstations.items;
      rows = rows;
      controls = c.sections.inside.controls.items;
    }) in (
      rw (
        c.in_ok-sections.ensures.0,
        ← repeats_read top c.in_ok-sections.sections c.in_ok-sections.ensures.1,
        c.in_ok-indexes.ensures.points.0,
      ),
      ap fields values ∙ ap setup_fields c.sections.view_is ∙ c.in_ok-sections.ensures.1,
    )
