use Rattle.std.proofs.Common.{◌^◌, ◌<◌, arith}
use Rattle.dnp_objects.proofs.NumberLaws.{number-drop, one_octet_more, in_more_octets}
use Rattle.dnp_objects.proofs.numbers.number.Goals as goal

pub overflow_mul-value : goal.overflow_mul-value
overflow_mul-value c =
    let small : c.loop-i.value < 256 ^ 7 = in_more_octets _ _ 7 c.loop-i.invariant.small (omega arith) in
    omega arith

pub overflow_add-value : goal.overflow_add-value
overflow_add-value c =
    let small : c.loop-i.value < 256 ^ 7 = in_more_octets _ _ 7 c.loop-i.invariant.small (omega arith) in
    omega arith

pub loop-i-preserved : goal.loop-i-preserved
loop-i-preserved c = record {
  value = omega (arith, number-drop c.args.octets.now c.loop-i.i (omega arith) (omega arith));
  small = one_octet_more _ _ _ _ c.loop-i.invariant.small (omega arith) (omega arith);
}
