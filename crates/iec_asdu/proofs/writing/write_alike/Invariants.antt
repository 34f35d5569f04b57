-- What is written so far, and how many; what is counted so far and what comes behind are what is counted in all.
use Rattle.std.proofs.Common.{◌≡◌, ◌+◌, ◌*◌, take, drop}
use Rattle.std.specs.Prelude.{All}
use Rattle.std.specs.List.{flat_map}
use Rattle.gw_model.specs.Fit.{HasWidth}
use Rattle.gw_time.specs.Rule.{clocks_of}
use Rattle.iec_asdu.specs.Types.{type_length}
use Rattle.iec_asdu.specs.Spelling.{object_octets}
use Rattle.iec_asdu.specs.Packing.{alike_count}
use Rattle.iec_asdu.specs.Buffer.{Writes}
use Rattle.iec_asdu.proofs.writing.write_alike.Given as goal

abbrev pub invariant-loop-observation : goal.invariant-loop-observation
invariant-loop-observation l = record {
  place : l.written.taken ≡ l.observation-index;
  ends : l.written.octets ≡ l.start + l.observation-index * (3 + type_length l.kind);
  counted : let behind = drop l.observation-index l.others in
      l.observation-index + alike_count (clocks_of l.zone) l.first behind
      ≡ alike_count (clocks_of l.zone) l.first l.others;
  written : let before = take l.observation-index l.others in
      Writes l.start l.written.octets l.initial.out l.out (flat_map (object_octets (clocks_of l.zone)) before);
  width : All (λ x. HasWidth x.value) (take l.observation-index l.others);
}
