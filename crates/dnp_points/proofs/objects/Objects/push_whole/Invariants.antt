-- The reports found so far, and those still read from the rest, are those of the objects.
use Rattle.std.proofs.Common.{◌≡◌, ◌+◌, ◌-◌, ◌*◌, ◌≤◌, ◌++◌, length}
use Rattle.dnp_points.specs.Objects.{whole_from}
use Rattle.dnp_points.specs.Meaning.{octets_of_objects}
use Rattle.dnp_points.proofs.objects.Objects.push_whole.Given as goal

abbrev pub invariant-loop-n : goal.invariant-loop-n
invariant-loop-n g l =
    let v = g.O.Object.variation in
    let long = g.O.Object.LENGTH in
    record {
      read : l.found.items ++ whole_from v long l.self.outstation l.self.common l.self.header.now.prefix
          (l.self.header.now.first + l.n) (l.self.header.now.count - l.n) l.rest
          ≡ l.initial.found.items ++ whole_from v long l.self.outstation l.self.common l.self.header.now.prefix
          l.self.header.now.first l.self.header.now.count (octets_of_objects l.self.part.now v l.self.header.now);
      grown : length l.initial.found.items ≤ length l.found.items;
      left : length l.rest ≡ (l.self.header.now.count - l.n) * (l.self.header.now.prefix + long);
    }
