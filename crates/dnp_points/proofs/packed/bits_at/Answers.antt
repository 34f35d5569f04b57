use Rattle.std.proofs.Common.{◌≡◌, ℕ, ◌+◌, ◌*◌, ◌≤◌, ◌%◌, length, take, drop, sym, ap, ◌∙◌, arith}
use Rattle.dnp_points.specs.Values.{bits_of, number_of_bits}
use Rattle.dnp_points.proofs.Bits.{one_bit, two_bits, is_two}
use Rattle.dnp_points.proofs.packed.bits_at.Goals as goal

pub returns-then-width-eq1 : goal.returns-then-width-eq1
returns-then-width-eq1 c =
    let inside : c.args.bit + 1 ≤ 8 * length c.args.octets.now =
    omega (arith, c.requires.inside, c.if-width-eq1.true) in
    sym (one_bit c.args.octets.now c.args.bit inside)
    ∙ ap (λ (n : ℕ). number_of_bits (take n (drop c.args.bit (bits_of c.args.octets.now)))) (sym c.if-width-eq1.true)

pub returns-else-width-eq1 : goal.returns-else-width-eq1
returns-else-width-eq1 c =
    let two : c.args.width ≡ 2 = is_two c.args.width c.requires.width c.if-width-eq1.false in
    let inside : c.args.bit + 2 ≤ 8 * length c.args.octets.now = omega (arith, c.requires.inside, two) in
    let even : c.args.bit % 2 ≡ 0 = ap (λ (n : ℕ). c.args.bit % n) (sym two) ∙ c.requires.whole in
    sym (two_bits c.args.octets.now c.args.bit inside even)
    ∙ ap (λ (n : ℕ). number_of_bits (take n (drop c.args.bit (bits_of c.args.octets.now)))) (sym two)
