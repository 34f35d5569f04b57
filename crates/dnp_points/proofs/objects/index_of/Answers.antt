use Rattle.std.proofs.Common.{arith}
use Rattle.dnp_objects.proofs.NumberLaws.{in_two_octets}
use Rattle.dnp_points.proofs.objects.index_of.Goals as goal

pub overflow_cast-result-in_default : goal.overflow_cast-result-in_default
overflow_cast-result-in_default c =
    omega (arith, in_two_octets c.number.result c.args.octets.now c.number.ensures.small c.requires.octets)
