use Rattle.std.proofs.Common.{map, sym, ap, lit≤, ◌∙◌}
use Rattle.std.proofs.lemmas.Result.{err_from_is_err_and}
use Rattle.toml.specs.View.{table_view}
use Rattle.gw_entries.specs.declared.fault.Fault.TheVariants.{KindMismatch}
use Rattle.gw_entries.specs.declared.fault.Section.TheVariants as of
use Rattle.gw_entries.specs.Setup.{common_at}
use Rattle.gw_entries.specs.Values.{row_of}
use Rattle.gw_entries.proofs.Mismatches.{kind_read, show_read, point_mismatch, no_point_mismatch, fits-from_none, unscaled}
use Rattle.gw_entries.proofs.Ranges.{point_within, fits_min, fits_within, position_cast, position_fits, position_within}
use Rattle.gw_entries.proofs.Told.{tells_wrong, told_front}
use Rattle.gw_entries.proofs.Unknown.{table_parts, nothing_placed}
use Rattle.gw_entries.proofs.points.read_row.Goals as goal

pub returns-in_err-check : goal.returns-in_err-check
returns-in_err-check c =
    let p = err_from_is_err_and c.from_residual.result c.from_residual.ensures.1 in
    rw (p.1, p.2, table_parts, ← c.count_of.ensures) (told_front _ _ _ c.in_err-check.ensures)

pub returns-in-Some : goal.returns-in-Some
returns-in-Some c =
    let ms = table_view c.args.table.now in
    let kind = kind_read ms _ c.word-kind.ensures in
    rw (table_parts, ← c.count_of.ensures, c.in_ok-check.ensures)
    (tells_wrong c.mismatch_fault.result _ _ _ _ c.mismatch_fault.ensures
    (point_mismatch ms _ _ _ kind (show_read ms _ _ _ c.word-show.ensures c.usual_show.ensures kind)
    (sym c.in-Some.ensures)))

pub overflow_cast-outstation : goal.overflow_cast-outstation
overflow_cast-outstation c =
    let p = point_within c.args.position _ _ _ (rw c.count_of.ensures at c.in_ok-check.ensures) in
    position_cast _ _ _ c.number_u16-outstation.ensures p.outstation

pub invariant_of-result : goal.invariant_of-result
invariant_of-result c =
    let p = point_within c.args.position _ _ _ (rw c.count_of.ensures at c.in_ok-check.ensures) in
    let num = fits_within _ _ _ _ _ c.number_u16-2.ensures p.num (lit≤ tt) in
    let den = fits_within _ _ _ _ _ c.number_u16-3.ensures p.den (lit≤ tt) in
    record { num_from = num.0; num_to = num.1; den_from = den.0; den_to = den.1 }

pub invariant_of-result-2 : goal.invariant_of-result-2
invariant_of-result-2 c =
    let ms = table_view c.args.table.now in
    let p = point_within c.args.position _ _ _ (rw c.count_of.ensures at c.in_ok-check.ensures) in
    let address = fits_within _ _ _ _ _ c.number_u32.ensures p.address (lit≤ tt) in
    let common = c.common_at.ensures.within (position_within _ _ _ c.number_u16-outstation.ensures p.outstation) in
    record {
      common_from = common.0;
      common_to = common.1;
      from = address.0;
      to = address.1;
      shown = fits-from_none _ _ ms (sym c.in_default.ensures);
      scaled = unscaled _ _ ms _ _ (sym c.in_default.ensures)
          (fits_min _ _ _ _ c.number_u16-2.ensures p.num.1 (lit≤ tt))
          (fits_min _ _ _ _ c.number_u16-3.ensures p.den.1 (lit≤ tt));
    }

pub returns : goal.returns
unfolding row_of
returns c =
    let ms = table_view c.args.table.now in
    let p = point_within c.args.position _ _ _ (rw c.count_of.ensures at c.in_ok-check.ensures) in
    let outstation = position_fits _ _ _ c.number_u16-outstation.ensures p.outstation in
    let kind = kind_read ms _ c.word-kind.ensures in
    let show = show_read ms _ _ _ c.word-show.ensures c.usual_show.ensures kind in (
      rw (table_parts, ← c.count_of.ensures, c.in_ok-check.ensures)
          (nothing_placed of.Point c.args.position _ (ap (λ keys. map (λ key. (KindMismatch, key)) keys)
          (no_point_mismatch ms _ _ kind show (sym c.in_default.ensures)))),
      λ i. record {
        key = record {
          outstation = outstation i;
          kind = kind i;
          index = fits_min _ _ _ _ c.number_u16.ensures p.index (lit≤ tt) i;
        };
        common_address = (c.common_at.ensures.common_address
            ∙ ap (λ position. common_at position c.args.outstations.now) outstation) i;
        address = fits_min _ _ _ _ c.number_u32.ensures p.address.1 (lit≤ tt) i;
        show = show i;
        num = fits_min _ _ _ _ c.number_u16-2.ensures p.num.1 (lit≤ tt) i;
        den = fits_min _ _ _ _ c.number_u16-3.ensures p.den.1 (lit≤ tt) i;
      },
    )
