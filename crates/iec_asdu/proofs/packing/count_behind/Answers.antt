use Rattle.std.proofs.Common.{◌≡◌, drop, arith}
use Rattle.gw_time.specs.Rule.{clocks_of}
use Rattle.iec_asdu.specs.Packing.{consecutive_count}
use Rattle.iec_asdu.proofs.Counts.{nothing, consecutive_stops, consecutive_leaves, consecutive_goes_on, consecutive_none}
use Rattle.iec_asdu.proofs.packing.count_behind.Goals as goal
use Rattle.iec_asdu.proofs.packing.count_behind.Goals.{then-from-expected-via-then-from-expected}
use Rattle.iec_asdu.proofs.packing.count_behind.Goals.{then-from-expected-via-else-from-expected+then-not-is_alike}

pub returns-then-from-expected : goal.returns-then-from-expected
returns-then-from-expected c =
    let clocks = (clocks_of c.args.zone.now) in
    let first = c.args.first.now in
    let xs = c.args.others.now in
    let i = c.loop-observation.observation-index in
    let none : consecutive_count clocks first c.loop-observation.expected (drop i xs) ≡ 0 =
    elim c.then-from-expected.branch [
      | then-from-expected-via-then-from-expected w ↦
          consecutive_leaves clocks first _ _ xs i nothing c.loop-observation-test.true c.from.ensures
          w.if-from-expected.true
      | then-from-expected-via-else-from-expected+then-not-is_alike w ↦
          consecutive_stops clocks first _ _ xs i nothing c.loop-observation-test.true w.is_alike.ensures
          w.if-not-is_alike.true
    ] in
    omega arith

pub loop-observation-preserved : goal.loop-observation-preserved
loop-observation-preserved c = record {
  place = omega arith;
  counted = omega (
    arith,
    consecutive_goes_on (clocks_of c.args.zone.now) c.args.first.now c.loop-observation.expected _ _
        c.args.others.now c.loop-observation.observation-index nothing
        c.loop-observation-test.true c.from.ensures c.if-from-expected.false c.is_alike.ensures
        c.if-not-is_alike.false,
  );
}

pub returns : goal.returns
returns c =
    omega (
      arith,
      consecutive_none (clocks_of c.args.zone.now) c.args.first.now c.loop-observation.expected
          c.args.others.now c.loop-observation.observation-index (omega arith),
    )
