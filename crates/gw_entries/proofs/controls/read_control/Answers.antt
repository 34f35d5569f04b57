use Rattle.std.proofs.Common.{map, sym, ap, lit≤, ◌∙◌}
use Rattle.std.proofs.lemmas.Result.{err_from_is_err_and}
use Rattle.toml.specs.View.{table_view}
use Rattle.gw_entries.specs.declared.fault.Fault.TheVariants.{KindMismatch}
use Rattle.gw_entries.specs.declared.fault.Section.TheVariants as of
use Rattle.gw_entries.specs.Setup.{common_at}
use Rattle.gw_entries.specs.Values.{control_of}
use Rattle.gw_entries.proofs.Mismatches.{control_show_read, mode_read, rest_read, control_mismatch, no_control_mismatch, operation_same}
use Rattle.gw_entries.proofs.Ranges.{control_within, fits_min, fits_within, position_cast, position_fits, position_within}
use Rattle.gw_entries.proofs.Told.{tells_wrong, told_front}
use Rattle.gw_entries.proofs.Unknown.{table_parts, nothing_placed}
use Rattle.gw_entries.proofs.controls.read_control.Goals as goal

pub returns-in_err-check : goal.returns-in_err-check
returns-in_err-check c =
    let p = err_from_is_err_and c.from_residual.result c.from_residual.ensures.1 in
    rw (p.1, p.2, table_parts, ← c.count_of.ensures) (told_front _ _ _ c.in_err-check.ensures)

pub returns-in-Some : goal.returns-in-Some
returns-in-Some c =
    let ms = table_view c.args.table.now in
    rw (table_parts, ← c.count_of.ensures, c.in_ok-check.ensures)
    (tells_wrong c.mismatch_fault.result _ _ _ _ c.mismatch_fault.ensures
    (control_mismatch ms _ _ (control_show_read ms _ c.word-show.ensures) (sym c.in-Some.ensures)))

pub overflow_cast-outstation : goal.overflow_cast-outstation
overflow_cast-outstation c =
    let p = control_within c.args.position _ _ _ (rw c.count_of.ensures at c.in_ok-check.ensures) in
    position_cast _ _ _ c.number_u16-outstation.ensures p.outstation

pub invariant_of-pulses : goal.invariant_of-pulses
invariant_of-pulses c =
    let p = control_within c.args.position _ _ _ (rw c.count_of.ensures at c.in_ok-check.ensures) in
    let short = fits_within _ _ _ _ _ c.number_u32.ensures p.short_ms (lit≤ tt) in
    let long = fits_within _ _ _ _ _ c.number_u32-2.ensures p.long_ms (lit≤ tt) in
    record { short_from = short.0; short_to = short.1; long_from = long.0; long_to = long.1 }

pub invariant_of-scale : goal.invariant_of-scale
invariant_of-scale c =
    let p = control_within c.args.position _ _ _ (rw c.count_of.ensures at c.in_ok-check.ensures) in
    let num = fits_within _ _ _ _ _ c.number_u16.ensures p.num (lit≤ tt) in
    let den = fits_within _ _ _ _ _ c.number_u16-2.ensures p.den (lit≤ tt) in
    record { num_from = num.0; num_to = num.1; den_from = den.0; den_to = den.1 }

pub invariant_of-result : goal.invariant_of-result
invariant_of-result c =
    let p = control_within c.args.position _ _ _ (rw c.count_of.ensures at c.in_ok-check.ensures) in
    let address = fits_within _ _ _ _ _ c.number_u32-3.ensures p.address (lit≤ tt) in
    let common = c.common_at.ensures.within (position_within _ _ _ c.number_u16-outstation.ensures p.outstation) in
    record { common_from = common.0; common_to = common.1; from = address.0; to = address.1 }

pub returns : goal.returns
unfolding control_of
returns c =
    let ms = table_view c.args.table.now in
    let p = control_within c.args.position _ _ _ (rw c.count_of.ensures at c.in_ok-check.ensures) in
    let outstation = position_fits _ _ _ c.number_u16-outstation.ensures p.outstation in
    let show = control_show_read ms _ c.word-show.ensures in (
      rw (table_parts, ← c.count_of.ensures, c.in_ok-check.ensures) (nothing_placed of.Control c.args.position _ (ap
          (λ keys. map (λ key. (KindMismatch, key)) keys) (no_control_mismatch ms _ show (sym c.in_default.ensures)))),
      λ i. record {
        outstation = outstation i;
        index = fits_min _ _ _ _ c.number_u16-3.ensures p.index (lit≤ tt) i;
        common_address = (c.common_at.ensures.common_address
            ∙ ap (λ position. common_at position c.args.outstations.now) outstation) i;
        address = fits_min _ _ _ _ c.number_u32-3.ensures p.address.1 (lit≤ tt) i;
        select = c.flag.ensures i;
        mode = mode_read ms _ c.word-2.ensures i;
        operates = (c.operates.ensures ∙ operation_same ms _ _ _ show (rest_read ms _ c.word.ensures)
            (fits_min _ _ _ _ c.number_u32.ensures p.short_ms.1 (lit≤ tt))
            (fits_min _ _ _ _ c.number_u32-2.ensures p.long_ms.1 (lit≤ tt))
            (fits_min _ _ _ _ c.number_u16.ensures p.num.1 (lit≤ tt))
            (fits_min _ _ _ _ c.number_u16-2.ensures p.den.1 (lit≤ tt))) i;
      },
    )
