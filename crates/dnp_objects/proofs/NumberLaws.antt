-- Numbers of some octets, low octet first.
use Rattle.std.proofs.Common.{◌≡◌, ℕ, ◌+◌, ◌-◌, ◌*◌, ◌^◌, ◌<◌, ◌≤◌, List, length, drop, get_or, ap, arith}
use Rattle.std.proofs.lemmas.Grind.{pow_more}
use Rattle.std.proofs.lemmas.List.{drop_more}
use Rattle.std.proofs.Math.Nat.{pow-le-pow_right}
use Rattle.dnp_objects.specs.Headers.{number}

-- the number from an octet on
pub number-drop : (octets : List ℕ) (i : ℕ) → 0 < i → i ≤ length octets
    → 256 * number (drop i octets) + get_or octets (i - 1) 0 ≡ number (drop (i - 1) octets)
number-drop octets i some within =
    let back : i - 1 + 1 ≡ i = omega arith in
    let split = drop_more octets (i - 1) 0 (omega arith) in
    omega (arith, ap number split, ap (λ n. number (drop n octets)) back)

-- one octet more
pub one_octet_more : (value octet n more : ℕ) → value < 256 ^ n → octet < 256 → more ≡ n + 1
    → 256 * value + octet < 256 ^ more
one_octet_more value octet n more small byte e = rw e (omega (arith, pow_more 256 n))

-- a number of so many octets is one of more octets
pub in_more_octets : (value n more : ℕ) → value < 256 ^ n → n ≤ more → value < 256 ^ more
in_more_octets value n more small le = omega (arith, pow-le-pow_right {n = 256} (omega arith) {i = n} {j = more} le)

-- what fits two octets, four and six
pub in_two_octets : (value : ℕ) (octets : List ℕ) → value < 256 ^ length octets → length octets ≤ 2 → value < 65536
in_two_octets value octets small le = in_more_octets value (length octets) 2 small le

pub in_four_octets : (value : ℕ) (octets : List ℕ) → value < 256 ^ length octets → length octets ≤ 4
    → value < 4294967296
in_four_octets value octets small le = in_more_octets value (length octets) 4 small le

pub in_six_octets : (value : ℕ) (octets : List ℕ) → value < 256 ^ length octets → length octets ≤ 6
    → value < 281474976710656
in_six_octets value octets small le = in_more_octets value (length octets) 6 small le

pub ruleset in_octets = (in_two_octets, in_four_octets, in_six_octets)
