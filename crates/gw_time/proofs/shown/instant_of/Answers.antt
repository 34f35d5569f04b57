use Rattle.std.proofs.Common.{◌≡◌, ◌∙◌, ap, arith, Bool, ℤ, pos, ◌-ℤ◌, ◌*ℤ◌, ◌≤ℤ◌, ◌<ℤ◌}
use Rattle.std.specs.Prelude.{nat_abs}
use mir.Val.{to_z, of_z}
use mir.Syntax.{w64}
use Rattle.std.proofs.lemmas.Result.{IfOk-at_ok}
use Rattle.jiff_core.specs.DateTime.{civil_nanos}
use Rattle.jiff_core.specs.Timestamp.{nanos_of_seconds}
use Rattle.jiff_core.proofs.SignedLemmas.{signed_arith, signed_casts}
use Rattle.gw_model.specs.Clocks.{minutes_ahead}
use Rattle.gw_time.specs.Rule.{clocks_of}
use Rattle.gw_time.proofs.Clocks.{IsNear, nanos_in_century, timestamp_range, millisecond_range, whole_millisecond}
use Rattle.gw_time.proofs.Parts.{minutes_within}
use Rattle.gw_time.proofs.Rules.{zone_clocks}
use Rattle.gw_time.proofs.shown.instant_of.Goals as goal

near_by : (z minutes seconds : ℤ) → seconds ≡ pos 60 *ℤ minutes
    → (z -ℤ nanos_of_seconds seconds) ≡ z -ℤ (pos 60_000_000_000 *ℤ minutes)
near_by z minutes seconds e = omega (arith, signed_arith)

pub unwrap-timestamp-requires : goal.unwrap-timestamp-requires
unwrap-timestamp-requires c =
    let zone = c.args.zone.now in
    let z = civil_nanos c.args.civil in
    let minutes = minutes_ahead (clocks_of zone) c.is_of_summer.result in
    let within = minutes_within (clocks_of zone) c.is_of_summer.result (zone_clocks zone) in
    let near : IsNear z minutes (z -ℤ nanos_of_seconds c.offset-offset.result.seconds) =
    record { from = within.0; to = within.1; is = near_by z minutes _ c.offset-offset.ensures } in
    c.to_timestamp.ensures.succeeds.1 (timestamp_range z minutes _
    (nanos_in_century c.args.civil c.requires.low c.requires.high) near)

cast_back : (a b : ℤ) → (pos 0 ≤ℤ a) × (a <ℤ pos 5_000_000_000_000) → a ≡ b
    → pos (nat_abs (to_z w64 (of_z w64 a))) ≡ b
cast_back a b range e =
    let low = range.0 in
    let high = range.1 in
    omega (arith, signed_casts)

near : (c : goal.After-as_millisecond) → IsNear (civil_nanos c.args.civil)
    (minutes_ahead (clocks_of c.args.zone.now) c.is_of_summer.result) c.unwrap-timestamp.result.nanosecond
near c =
    let zone = c.args.zone.now in
    let z = civil_nanos c.args.civil in
    let minutes = minutes_ahead (clocks_of zone) c.is_of_summer.result in
    let within = minutes_within (clocks_of zone) c.is_of_summer.result (zone_clocks zone) in
    record {
      from = within.0;
      to = within.1;
      is = IfOk-at_ok _ c.unwrap-timestamp.ensures c.to_timestamp.ensures.value
          ∙ near_by z minutes _ c.offset-offset.ensures;
    }

milliseconds_within : (c : goal.After-as_millisecond)
    → (pos 0 ≤ℤ c.as_millisecond.result) × (c.as_millisecond.result <ℤ pos 5_000_000_000_000)
milliseconds_within c = rw c.as_millisecond.ensures (millisecond_range (civil_nanos c.args.civil)
    (minutes_ahead (clocks_of c.args.zone.now) c.is_of_summer.result) _
    (nanos_in_century c.args.civil c.requires.low c.requires.high) (near c))

pub overflow_cast-result : goal.overflow_cast-result
overflow_cast-result c =
    let range = milliseconds_within c in
    let low = range.0 in
    let high = range.1 in
    (omega (arith, signed_casts), omega (arith, signed_casts))

pub returns : goal.returns
returns c m e =
    let clocks = clocks_of c.args.zone.now in
    cast_back c.as_millisecond.result _ (milliseconds_within c) (c.as_millisecond.ensures
    ∙ whole_millisecond (civil_nanos c.args.civil) (minutes_ahead clocks c.is_of_summer.result) _ m
    (nanos_in_century c.args.civil c.requires.low c.requires.high) (near c) e)
    ∙ ap (λ (b : Bool). m -ℤ (pos 60000 *ℤ minutes_ahead clocks b)) c.is_of_summer.ensures
