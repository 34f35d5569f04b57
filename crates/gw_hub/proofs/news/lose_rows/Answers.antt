use Rattle.std.proofs.Common.{◌<◌, ◌≤◌, ◌+◌, length, List, refl, ap, ◌∙◌, arith}
use Rattle.gw_model.specs.declared.observation.Observation.{Observation}
use Rattle.gw_map.specs.Settings.{station_clocks}
use Rattle.gw_picture.proofs.Losses.{losing_length}
use Rattle.gw_hub.proofs.Losing.{left_at_first, left_behind, left_at_last, rest_length, rest_none, rest_of}
use Rattle.gw_hub.proofs.Taking.{within_then}
use Rattle.gw_hub.proofs.news.lose_rows.Goals as goal

pub loop-position-init : goal.loop-position-init
loop-position-init c = (
  left_at_first (station_clocks c.args.settings.now.station) c.args.outstation c.args.settings.now.rows c.args.picture.now
      c.args.clients.now.each,
  c.requires.few,
  refl,
  refl,
)

pub lose_row-requires-clause-count : goal.lose_row-requires-clause-count
lose_row-requires-clause-count c =
    omega (
      arith,
      rest_length c.args.outstation c.args.settings.now.rows c.loop-position.position c.loop-position.picture
          (omega (
            arith,
            c.loop-position.auto,
            c.loop-position-test.true,
            c.loop-position.invariant.2,
            ap length c.rows-position-end.ensures.shown,
          )),
      c.loop-position.invariant.3,
      c.requires.count,
    )

pub lose_row-requires-clause-few : goal.lose_row-requires-clause-few
lose_row-requires-clause-few c = c.loop-position.invariant.1

pub loop-position-preserved : goal.loop-position-preserved
loop-position-preserved c =
    let o = c.args.outstation in
    let rows = c.args.settings.now.rows in
    let n = c.loop-position.position in
    let before = c.loop-position.picture in
    let within : n < length before = omega (
      arith,
      c.loop-position.auto,
      c.loop-position-test.true,
      c.loop-position.invariant.2,
      ap length c.rows-position-end.ensures.shown,
    ) in (
      left_behind _ o rows n before c.lose_row.new.picture _ c.lose_row.new.clients.each _ _ _ within
          c.loop-position.invariant.0 c.lose_row.ensures.picture c.lose_row.ensures.clients c.lose_row.ensures.sendable,
      within_then _ _ _ c.lose_row.ensures.clients c.loop-position.invariant.1,
      ap length c.lose_row.ensures.picture ∙ (losing_length o rows before n ∙ c.loop-position.invariant.2),
      omega (
        arith,
        rest_length o rows n before within,
        ap (λ (p : List Observation). length (rest_of o rows (n + 1) p)) c.lose_row.ensures.picture,
        c.lose_row.ensures.news,
        c.loop-position.invariant.3,
      ),
    )

pub returns : goal.returns
returns c =
    let past : length c.loop-position.picture ≤ c.loop-position.position = omega (
      arith,
      c.loop-position.auto,
      c.loop-position-test.false,
      c.loop-position.invariant.2,
      ap length c.rows-position-end.ensures.shown,
    ) in
    let last = left_at_last _ _ _ _ _ _ _ _ _ past c.loop-position.invariant.1 c.loop-position.invariant.0 in
    record {
      picture = last.0;
      clients = last.1;
      news = omega (
        arith,
        ap length (rest_none c.args.outstation c.args.settings.now.rows c.loop-position.position
            c.loop-position.picture past),
        c.loop-position.invariant.3,
      );
      sendable = last.2;
    }
