use Rattle.std.proofs.Common.{◌≡◌, arith, pos, ◌*ℤ◌, refl}
use Rattle.jiff_core.proofs.SignedLemmas.{signed_casts}
use Rattle.jiff_core.specs.DateTime.{civil_nanos}
use Rattle.gw_model.specs.Clocks.{shown_at}
use Rattle.gw_time.specs.Rule.{clocks_of}
use Rattle.gw_time.proofs.Clocks.{window_is_of_shown, shown_nanos, shown_has_timestamp}
use Rattle.gw_time.proofs.Rules.{zone_clocks}
use Rattle.gw_time.proofs.shown.shown_at.Goals as goal
use Rattle.gw_time.proofs.shown.shown_at.Goals.{In_ok-timestamp, then-year-lt2000-via-then-year-lt2000}
use Rattle.gw_time.proofs.shown.shown_at.Goals.{then-year-lt2000-via-else-year-lt2000+then-year-gt2099}

pub returns-in_err-timestamp-clause-window : goal.returns-in_err-timestamp-clause-window
returns-in_err-timestamp-clause-window c =
    let zone = c.args.zone.now in
    rw c.from_residual.ensures (
      λ some. absurd (cc),
      λ within. absurd (cc (c.in_err-timestamp.ensures.found.1 (shown_has_timestamp (clocks_of zone) c.args.instant
          (zone_clocks zone) within))),
    )

pub returns-then-year-lt2000-clause-window : goal.returns-then-year-lt2000-clause-window
returns-then-year-lt2000-clause-window c =
    let t = c.args.instant in
    let clocks = clocks_of c.args.zone.now in
    let shown = c.to_datetime-civil.result in
    let value : civil_nanos shown ≡ shown_at clocks t *ℤ pos 1_000_000 =
    shown_nanos clocks t _ _ _ _ c.in_ok-timestamp.ensures.value
    (c.is_summer-summer.ensures t c.in_ok-timestamp.ensures.value) c.offset.ensures c.to_datetime-civil.ensures in (
      λ some. absurd (cc),
      λ within. let y = (window_is_of_shown clocks t shown value).0 within in
          elim c.then-year-lt2000.branch [
            | then-year-lt2000-via-then-year-lt2000 w ↦ absurd (omega (arith, signed_casts))
            | then-year-lt2000-via-else-year-lt2000+then-year-gt2099 w ↦ absurd (omega (arith, signed_casts))
          ],
    )

pub returns : goal.returns
returns c =
    let t = c.args.instant in
    let clocks = clocks_of c.args.zone.now in
    let shown = c.to_datetime-civil.result in
    let summer = c.is_summer-summer.ensures t c.in_ok-timestamp.ensures.value in
    let value : civil_nanos shown ≡ shown_at clocks t *ℤ pos 1_000_000 =
    shown_nanos clocks t _ _ _ _ c.in_ok-timestamp.ensures.value summer c.offset.ensures c.to_datetime-civil.ensures in
    record {
      window = (
        λ some. (window_is_of_shown clocks t shown value).1 (omega (arith, signed_casts), omega (arith, signed_casts)),
        λ within. refl,
      );
      value = value;
      summer = summer;
      low = omega (arith, signed_casts);
      high = omega (arith, signed_casts);
    }
