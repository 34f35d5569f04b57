-- The reports found so far, and those still read from the bits that are left, are those of the objects.
use Rattle.std.proofs.Common.{◌≡◌, ◌+◌, ◌-◌, ◌*◌, ◌≤◌, ◌++◌, length, drop}
use Rattle.dnp_points.specs.Values.{bits_of}
use Rattle.dnp_points.specs.Objects.{packed_from}
use Rattle.dnp_points.proofs.objects.Objects.push_packed.Given as goal

abbrev pub invariant-loop-n : goal.invariant-loop-n
invariant-loop-n g l =
    let v = g.P.PackedObject.variation in
    let width = g.P.PackedObject.BITS in
    record {
      read : l.found.items ++ packed_from v width l.self.outstation (l.self.header.now.first + l.n)
          (l.self.header.now.count - l.n) (drop (l.n * width) (bits_of l.body))
          ≡ l.initial.found.items
          ++ packed_from v width l.self.outstation l.self.header.now.first l.self.header.now.count (bits_of l.body);
      grown : length l.initial.found.items ≤ length l.found.items;
    }
