use Rattle.std.proofs.Common.{◌≡◌, length, codes, ◌∙◌}
use Rattle.std.proofs.lemmas.Result.{err_from_is_err_and}
use Rattle.toml.specs.View.{table_view}
use Rattle.gw_map.specs.Sections.{entries, section_complaints}
use Rattle.gw_entries.specs.Fields.{row_fields}
use Rattle.gw_entries.specs.Values.{row_of}
use Rattle.gw_map.proofs.Known.{rows_known, controls_known}
use Rattle.gw_entries.proofs.Told.{told_front}
use Rattle.gw_map.proofs.Whole.{same_length, outstations_read}
use Rattle.gw_map.proofs.sections.Sections.read.Goals as goal

pub returns-in_err-check_keys : goal.returns-in_err-check_keys
unfolding section_complaints
returns-in_err-check_keys c =
    let p = err_from_is_err_and c.from_residual.result c.from_residual.ensures.1 in
    rw (p.1, p.2) (told_front _ _ _ c.in_err-check_keys.ensures)

pub returns-in_err-station : goal.returns-in_err-station
unfolding section_complaints
returns-in_err-station c =
    let p = err_from_is_err_and c.from_residual-in_err-station.result c.from_residual-in_err-station.ensures.1 in
    rw (p.1, p.2) (rw c.in_ok-check_keys.ensures (told_front _ _ _ c.in_err-station.ensures))

pub returns-in_err-outstations : goal.returns-in_err-outstations
unfolding section_complaints
returns-in_err-outstations c =
    let p =
    err_from_is_err_and c.from_residual-in_err-outstations.result c.from_residual-in_err-outstations.ensures.1 in
    rw (p.1, p.2)
    (rw (c.in_ok-check_keys.ensures, c.in_ok-station.ensures.0) (told_front _ _ _ c.in_err-outstations.ensures.read))

pub returns-in_err-rows : goal.returns-in_err-rows
unfolding section_complaints
returns-in_err-rows c =
    let read = outstations_read (table_view c.args.top.now) _ _ _ c.in_ok-station.ensures.1
    c.in_ok-outstations.ensures.few c.in_ok-outstations.outstations.ok.0 c.in_ok-outstations.ensures.read.1 in
    let p = err_from_is_err_and c.from_residual-in_err-rows.result c.from_residual-in_err-rows.ensures.1 in
    rw (p.1, p.2) (rw (
      c.in_ok-check_keys.ensures,
      c.in_ok-station.ensures.0,
      c.in_ok-outstations.ensures.read.0,
    ) (told_front _ _ _ (rw (c.deref.ensures.value, read.counted) at c.in_err-rows.ensures.read)))

pub returns-in_err-controls : goal.returns-in_err-controls
unfolding section_complaints
returns-in_err-controls c =
    let read = outstations_read (table_view c.args.top.now) _ _ _ c.in_ok-station.ensures.1
    c.in_ok-outstations.ensures.few c.in_ok-outstations.outstations.ok.0 c.in_ok-outstations.ensures.read.1 in
    let m : c.len.result ≡ length (entries (codes "point") (table_view c.args.top.now)) =
    same_length _ row_fields (row_of c.deref.result.now) _ _ (c.len.ensures ∙ c.in_ok-rows.rows.ok.0)
    c.in_ok-rows.ensures.read.1 in
    let p = err_from_is_err_and c.from_residual-in_err-controls.result c.from_residual-in_err-controls.ensures.1 in
    rw (p.1, p.2) (rw (
      c.in_ok-check_keys.ensures,
      c.in_ok-station.ensures.0,
      c.in_ok-outstations.ensures.read.0,
      (rw (c.deref.ensures.value, read.counted) at c.in_ok-rows.ensures.read.0),
      ← m,
      ← c.saturating_sub-room.ensures,
    ) (rw (c.deref-2.ensures.value, read.counted) at c.in_err-controls.ensures.read))

pub invariant_of-result : goal.invariant_of-result
invariant_of-result c = record {
  each_row = rows_known c.in_ok-station.station c.in_ok-outstations.outstations.items c.in_ok-rows.rows.items _
      (rw c.deref.ensures.value at c.in_ok-rows.ensures.read.1);
  each_control = controls_known c.in_ok-station.station c.in_ok-outstations.outstations.items
      c.in_ok-controls.controls.items _ (rw c.deref-2.ensures.value at c.in_ok-controls.ensures.read.1);
}

pub returns : goal.returns
unfolding section_complaints
returns c =
    let read = outstations_read (table_view c.args.top.now) _ _ _ c.in_ok-station.ensures.1
    c.in_ok-outstations.ensures.few c.in_ok-outstations.outstations.ok.0 c.in_ok-outstations.ensures.read.1 in
    let m : c.len.result ≡ length (entries (codes "point") (table_view c.args.top.now)) =
    same_length _ row_fields (row_of c.deref.result.now) _ _ (c.len.ensures ∙ c.in_ok-rows.rows.ok.0)
    c.in_ok-rows.ensures.read.1 in
    let rows = rw (c.deref.ensures.value, read.meant) at c.in_ok-rows.ensures.read.1 in
    let controls = rw (c.deref-2.ensures.value, read.meant) at c.in_ok-controls.ensures.read.1 in (
      rw (
        c.in_ok-check_keys.ensures,
        c.in_ok-station.ensures.0,
        c.in_ok-outstations.ensures.read.0,
        (rw (c.deref.ensures.value, read.counted) at c.in_ok-rows.ensures.read.0),
        ← m,
        ← c.saturating_sub-room.ensures,
        (rw (c.deref-2.ensures.value, read.counted) at c.in_ok-controls.ensures.read.0),
      ),
      λ i. record {
        station = c.in_ok-station.ensures.1 i;
        outstations = read.meant i;
        rows = rows i;
        controls = controls i;
      },
    )
