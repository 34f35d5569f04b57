use Rattle.std.proofs.Common.{arith, rules}
use Rattle.dnp_points.proofs.Steps.{packed_inside, packed_octets}
use Rattle.dnp_points.proofs.Bits.{bits_few}
use Rattle.dnp_points.proofs.objects.Objects.packed_octets.Goals as goal

pub overflow_mul-octets : goal.overflow_mul-octets
overflow_mul-octets g c =
    let few = rw (← c.BITS.ensures) at
    (bits_few c.args.self.now.header.now.count g.P.PackedObject.BITS g.met.P.PackedObject.few) in
    omega (arith, few, c.requires.inside.indexed.ends)

pub overflow_add-octets : goal.overflow_add-octets
overflow_add-octets g c =
    let few = rw (← c.BITS.ensures) at
    (bits_few c.args.self.now.header.now.count g.P.PackedObject.BITS g.met.P.PackedObject.few) in
    omega (arith, few, c.requires.inside.indexed.ends)

pub overflow_add-result : goal.overflow_add-result
overflow_add-result g c =
    let inside =
    packed_inside c.args.self.now.part.now c.args.self.now.header.now g.P.PackedObject.variation g.P.PackedObject.BITS
    c.BITS.result c.requires.inside.within c.requires.known g.met.P.PackedObject.sized c.BITS.ensures in
    search (rules, inside)

pub slice_bounds-result-end : goal.slice_bounds-result-end
slice_bounds-result-end g c =
    packed_inside c.args.self.now.part.now c.args.self.now.header.now g.P.PackedObject.variation g.P.PackedObject.BITS
    c.BITS.result c.requires.inside.within c.requires.known g.met.P.PackedObject.sized c.BITS.ensures

pub returns-clause-all : goal.returns-clause-all
returns-clause-all g c =
    packed_octets c.args.self.now.part.now c.args.self.now.header.now g.P.PackedObject.variation g.P.PackedObject.BITS
    c.BITS.result g.met.P.PackedObject.sized c.BITS.ensures
