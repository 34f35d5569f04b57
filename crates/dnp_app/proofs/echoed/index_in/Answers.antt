use Rattle.std.proofs.Common.{◌<◌, arith}
use Rattle.dnp_objects.proofs.NumberLaws.{in_two_octets}
use Rattle.dnp_app.proofs.echoed.index_in.Goals as goal

pub overflow_cast-result : goal.overflow_cast-result
overflow_cast-result c =
    let small : c.number.result < 65536 = in_two_octets _ c.args.octets.now c.number.ensures.small c.requires in
    omega arith
