-- How far the loop is, and that the rest has the octets of the objects that are still to be read.
use Rattle.std.proofs.Common.{◌+◌, ◌-◌, ◌*◌, ◌≤◌, length}
use Rattle.gw_time.specs.Rule.{clocks_of}
use Rattle.iec_asdu.specs.Reading.{read_apart}
use Rattle.iec_asdu.specs.Types.{layout_at, type_length}
use Rattle.iec_asdu.proofs.ObjectLoop.{Progress}
use Rattle.iec_asdu.proofs.reading.read_objects_apart.Given as goal

abbrev pub invariant-loop : goal.invariant-loop
invariant-loop l = record {
  progress : let layout = layout_at (clocks_of l.zone) l.kind in
      Progress l.is_refused l.found.items (read_apart l.common layout (l.count - l.counter) l.rest)
      (read_apart l.common layout l.count l.objects);
  enough : (l.count - l.counter) * (3 + type_length l.kind) ≤ length l.rest;
}
