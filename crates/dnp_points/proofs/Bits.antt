-- The bits of octets, by their places.
use Rattle.std.proofs.Common.{◌≡◌, ◌≢◌, eqb, inl, inr, ℕ, zero, suc, ◌+◌, ◌*◌, ◌/◌, ◌%◌}
use Rattle.std.proofs.Common.{◌^◌, ◌<◌, ◌≤◌, List, [], ◌∷◌, length, take, drop, get_or, refl, arith}
use Rattle.std.specs.Prelude.{IsTrue}
use Rattle.std.proofs.lemmas.Bool.{eqb-true, or_cases}
use Rattle.std.proofs.Math.Nat.{mul-le-mul_right}
use Rattle.dnp_points.specs.Values.{bits_of, number_of_bits, is_packed_width}

pub length-bits_of : (octets : List ℕ) → length (bits_of octets) ≡ 8 * length octets
length-bits_of [] = refl
length-bits_of (o ∷ octets) = omega (arith, length-bits_of octets)

one_first : (o r : ℕ) (octets : List ℕ) → r < 8
    → number_of_bits (take 1 (drop r (bits_of (o ∷ octets)))) ≡ o / 2 ^ r % 2
one_first o zero octets lt = omega arith
one_first o (suc zero) octets lt = omega arith
one_first o (suc (suc zero)) octets lt = omega arith
one_first o (suc (suc (suc zero))) octets lt = omega arith
one_first o (suc (suc (suc (suc zero)))) octets lt = omega arith
one_first o (suc (suc (suc (suc (suc zero))))) octets lt = omega arith
one_first o (suc (suc (suc (suc (suc (suc zero)))))) octets lt = omega arith
one_first o (suc (suc (suc (suc (suc (suc (suc zero))))))) octets lt = omega arith
one_first o (suc (suc (suc (suc (suc (suc (suc (suc r)))))))) octets lt = absurd (omega arith)

two_first : (o r : ℕ) (octets : List ℕ) → r < 8 → r % 2 ≡ 0
    → number_of_bits (take 2 (drop r (bits_of (o ∷ octets)))) ≡ o / 2 ^ r % 4
two_first o zero octets lt even = omega arith
two_first o (suc zero) octets lt even = absurd (omega arith)
two_first o (suc (suc zero)) octets lt even = omega arith
two_first o (suc (suc (suc zero))) octets lt even = absurd (omega arith)
two_first o (suc (suc (suc (suc zero)))) octets lt even = omega arith
two_first o (suc (suc (suc (suc (suc zero))))) octets lt even = absurd (omega arith)
two_first o (suc (suc (suc (suc (suc (suc zero)))))) octets lt even = omega arith
two_first o (suc (suc (suc (suc (suc (suc (suc zero))))))) octets lt even = absurd (omega arith)
two_first o (suc (suc (suc (suc (suc (suc (suc (suc r)))))))) octets lt even = absurd (omega arith)

-- behind the bits of one octet
behind : (o k bit : ℕ) (octets : List ℕ) → bit ≡ k + 8 → drop bit (bits_of (o ∷ octets)) ≡ drop k (bits_of octets)
behind o k bit octets e =
    let eight : bit ≡ suc (suc (suc (suc (suc (suc (suc (suc k))))))) = omega arith in
    rw eight refl

one_at : (octets : List ℕ) (bit q r : ℕ) → bit ≡ 8 * q + r → r < 8 → q < length octets
    → number_of_bits (take 1 (drop bit (bits_of octets))) ≡ get_or octets q 0 / 2 ^ r % 2
one_at [] bit q r e lt in' = absurd (omega arith)
one_at (o ∷ octets) bit zero r e lt in' =
    let here : bit ≡ r = omega arith in
    rw here (one_first o r octets lt)
one_at (o ∷ octets) bit (suc q) r e lt in' =
    let step : bit ≡ (8 * q + r) + 8 = omega arith in
    rw (behind o (8 * q + r) bit octets step) (one_at octets (8 * q + r) q r refl lt (omega arith))

two_at : (octets : List ℕ) (bit q r : ℕ) → bit ≡ 8 * q + r → r < 8 → r % 2 ≡ 0 → q < length octets
    → number_of_bits (take 2 (drop bit (bits_of octets))) ≡ get_or octets q 0 / 2 ^ r % 4
two_at [] bit q r e lt even in' = absurd (omega arith)
two_at (o ∷ octets) bit zero r e lt even in' =
    let here : bit ≡ r = omega arith in
    rw here (two_first o r octets lt even)
two_at (o ∷ octets) bit (suc q) r e lt even in' =
    let step : bit ≡ (8 * q + r) + 8 = omega arith in
    rw (behind o (8 * q + r) bit octets step) (two_at octets (8 * q + r) q r refl lt even (omega arith))

pub one_bit : (octets : List ℕ) (bit : ℕ) → bit + 1 ≤ 8 * length octets
    → number_of_bits (take 1 (drop bit (bits_of octets))) ≡ get_or octets (bit / 8) 0 / 2 ^ (bit % 8) % 2
one_bit octets bit le = one_at octets bit (bit / 8) (bit % 8) (omega arith) (omega arith) (omega arith)

pub two_bits : (octets : List ℕ) (bit : ℕ) → bit + 2 ≤ 8 * length octets → bit % 2 ≡ 0
    → number_of_bits (take 2 (drop bit (bits_of octets))) ≡ get_or octets (bit / 8) 0 / 2 ^ (bit % 8) % 4
two_bits octets bit le even =
    two_at octets bit (bit / 8) (bit % 8) (omega arith) (omega arith) (omega arith) (omega arith)

pub is_two : (width : ℕ) → IsTrue (is_packed_width width) → width ≢ 1 → width ≡ 2
is_two width is other = elim (or_cases (eqb width 1) (eqb width 2) is) [
  | inl one ↦ absurd (other (eqb-true width 1 one))
  | inr two ↦ eqb-true width 2 two
]

-- packed objects have two bits each at most
pub bits_few : (count width : ℕ) → IsTrue (is_packed_width width) → count * width ≤ 2 * count
bits_few count width is = elim (or_cases (eqb width 1) (eqb width 2) is) [
  | inl one ↦ rw (eqb-true width 1 one) (omega arith)
  | inr two ↦ rw (eqb-true width 2 two) (omega arith)
]

-- an object ends within the bits of all
pub bits_inside : (turn count width bits : ℕ) → turn < count → count * width ≤ bits → turn * width + width ≤ bits
bits_inside turn count width bits lt inside =
    omega (arith, mul-le-mul_right {m = turn + 1} {n = count} width (omega arith))
