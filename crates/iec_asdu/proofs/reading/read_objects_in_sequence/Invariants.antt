-- How far the loop is, and that the rest has the octets of the objects that are still to be read.
use Rattle.std.proofs.Common.{◌+◌, ◌-◌, ◌*◌, ◌≤◌, length}
use Rattle.gw_time.specs.Rule.{clocks_of}
use Rattle.iec_asdu.specs.Reading.{read_in_sequence}
use Rattle.iec_asdu.specs.Types.{layout_at, type_length}
use Rattle.iec_asdu.proofs.ObjectLoop.{Progress}
use Rattle.iec_asdu.proofs.reading.read_objects_in_sequence.Given as goal

abbrev pub invariant-loop-place : goal.invariant-loop-place
invariant-loop-place l = record {
  progress : let layout = layout_at (clocks_of l.zone) l.kind in
      Progress l.is_refused l.found.items
      (read_in_sequence l.common layout (l.count - l.place) (l.first + l.place) l.rest)
      (read_in_sequence l.common layout l.count l.first l.objects);
  enough : (l.count - l.place) * type_length l.kind ≤ length l.rest;
}
