-- What is counted so far and what comes behind are what is counted in all.
use Rattle.std.proofs.Common.{◌≡◌, ◌+◌, drop}
use Rattle.gw_time.specs.Rule.{clocks_of}
use Rattle.iec_asdu.specs.Packing.{consecutive_count}
use Rattle.iec_asdu.proofs.packing.count_behind.Given as goal

abbrev pub invariant-loop-observation : goal.invariant-loop-observation
invariant-loop-observation l = record {
  place : l.count ≡ l.observation-index;
  counted : let behind = drop l.observation-index l.others in
      l.count + consecutive_count (clocks_of l.zone) l.first l.expected behind
      ≡ consecutive_count (clocks_of l.zone) l.first (l.first.address + 1) l.others;
}
