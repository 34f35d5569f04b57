-- The register of the table-driven CRC is the remainder as a number.
use Rattle.std.proofs.Common.{◌≡◌, ℕ, zero, suc, ◌+◌, ◌-◌, ◌*◌, ◌/◌, ◌%◌, ◌^◌, ◌<◌}
use Rattle.std.proofs.Common.{Bool, true, false, ◌&&◌, T, eqb, List, [], ◌∷◌, ◌++◌, length, get_or}
use Rattle.std.proofs.Common.{cond, refl, sym, ◌∙◌, ap, inl, inr, arith, eq-zero-or-pos, eqb→eq}
use Rattle.std.specs.Prelude.{bit_and, bit_xor}
use Rattle.std.proofs.lemmas.Nat.{xor_comm, xor_mod, xor_shr, xor_block, and_mask, shr-shr, mod-pow-add}
use Rattle.std.specs.Int.Bits.{xor_zero_r}
use Rattle.std.proofs.lemmas.List.Concat.{flat_map-append}
use lib.Ieee.Fits.{and_l, and_r}
use Rattle.dnp_link.specs.Polynomial.{differs, plus, zeros, long_division, remainder}
use Rattle.dnp_link.specs.Crc.{bits, number, message}
use Rattle.dnp_link.proofs.Division.{length-remainder, remainder-append, remainder_step}
use Rattle.dnp_link.specs.declared.table.TheConstants.{TABLE}

-- the bits of a number's bits
pub bits-number : (p : List Bool) → bits (length p) (number p) ≡ p
bits-number [] = refl
bits-number (false ∷ p) =
    let odd : (0 + 2 * number p) % 2 ≡ 0 = omega arith in
    let half : (0 + 2 * number p) / 2 ≡ number p = omega arith in
    rw (odd, half, bits-number p) refl
bits-number (true ∷ p) =
    let odd : (1 + 2 * number p) % 2 ≡ 1 = omega arith in
    let half : (1 + 2 * number p) / 2 ≡ number p = omega arith in
    rw (odd, half, bits-number p) refl

one_if_odd : (m : ℕ) → m < 2 → cond (eqb m 1) 1 0 ≡ m
one_if_odd zero h = refl
one_if_odd (suc zero) h = refl
one_if_odd (suc (suc m)) h = absurd (omega arith)

-- the number of the low bits
pub number-bits : (k n : ℕ) → n < 2 ^ k → number (bits k n) ≡ n
number-bits zero n h = omega arith
number-bits (suc k) n h = rw (one_if_odd (n % 2) (omega arith), number-bits k (n / 2) (omega (arith, h))) (omega arith)

xor_bit : (m n : ℕ) → m < 2 → n < 2 → eqb (bit_xor m n) 1 ≡ differs (eqb m 1) (eqb n 1)
xor_bit zero zero g h = refl
xor_bit zero (suc zero) g h = refl
xor_bit (suc zero) zero g h = refl
xor_bit (suc zero) (suc zero) g h = refl
xor_bit (suc (suc m)) n g h = absurd (omega arith)
xor_bit zero (suc (suc n)) g h = absurd (omega arith)
xor_bit (suc zero) (suc (suc n)) g h = absurd (omega arith)

-- to add polynomials is to xor numbers
pub plus-bits : (k a b : ℕ) → plus (bits k a) (bits k b) ≡ bits k (bit_xor a b)
plus-bits zero a b = refl
plus-bits (suc k) a b =
    rw (
      xor_mod a b 1,
      xor_shr a b 1,
      plus-bits k (a / 2) (b / 2),
      sym (xor_bit (a % 2) (b % 2) (omega arith) (omega arith)),
    ) refl

xor_low : (r s a b : ℕ) → r < 2 → s < 2 → bit_xor (r + 2 * a) (s + 2 * b) ≡ bit_xor r s + 2 * bit_xor a b
xor_low r s a b h g =
    let e : r + 2 * a ≡ a * 2 + r = omega arith in
    let f : s + 2 * b ≡ b * 2 + s = omega arith in
    ap (λ x. bit_xor x (s + 2 * b)) e ∙ (ap (bit_xor (a * 2 + r)) f ∙ (xor_block 1 a b r s h g ∙ omega arith))

pub number-plus : (p q : List Bool) → number (plus p q) ≡ bit_xor (number p) (number q)
number-plus [] q = refl
number-plus (a ∷ p) [] = sym (xor_zero_r (number (a ∷ p)))
number-plus (false ∷ p) (false ∷ q) =
    ap (λ n. 0 + 2 * n) (number-plus p q) ∙ sym (xor_low 0 0 (number p) (number q) (omega arith) (omega arith))
number-plus (false ∷ p) (true ∷ q) =
    ap (λ n. 1 + 2 * n) (number-plus p q) ∙ sym (xor_low 0 1 (number p) (number q) (omega arith) (omega arith))
number-plus (true ∷ p) (false ∷ q) =
    ap (λ n. 1 + 2 * n) (number-plus p q) ∙ sym (xor_low 1 0 (number p) (number q) (omega arith) (omega arith))
number-plus (true ∷ p) (true ∷ q) =
    ap (λ n. 0 + 2 * n) (number-plus p q) ∙ sym (xor_low 1 1 (number p) (number q) (omega arith) (omega arith))

-- the bits of a number, cut in two
pub bits-append : (j k n : ℕ) → bits j n ++ bits k (n / 2 ^ j) ≡ bits (j + k) n
bits-append zero k n =
    let e : n / 1 ≡ n = omega arith in
    let f : 0 + k ≡ k = omega arith in
    rw (e, f) refl
bits-append (suc j) k n =
    let one : 1 + j ≡ suc j = omega arith in
    let e : n / 2 ^ suc j ≡ n / 2 / 2 ^ j = ap (λ i. n / 2 ^ i) (sym one) ∙ sym (shr-shr n 1 j) in
    let f : suc j + k ≡ suc (j + k) = omega arith in
    rw (e, f, bits-append j k (n / 2)) refl

pub bits-mod : (k n : ℕ) → bits k (n % 2 ^ k) ≡ bits k n
bits-mod zero n = refl
bits-mod (suc k) n =
    let one : k + 1 ≡ suc k = omega arith in
    let e : n % 2 ^ suc k ≡ (n / 2 % 2 ^ k) * 2 + n % 2 = ap (λ i. n % 2 ^ i) (sym one) ∙ mod-pow-add n k 1 in
    let low : n % 2 ^ suc k % 2 ≡ n % 2 = ap (λ m. m % 2) e ∙ omega arith in
    let high : n % 2 ^ suc k / 2 ≡ n / 2 % 2 ^ k = ap (λ m. m / 2) e ∙ omega arith in
    rw (low, high, bits-mod k (n / 2)) refl

-- the table, octet by octet, down from n
abbrev agree_below : ℕ → Bool
agree_below zero = true
agree_below (suc n) = eqb (get_or TABLE n 0) (number (remainder (bits 8 n))) && agree_below n

below : (n i : ℕ) → T (agree_below n) → i < n → get_or TABLE i 0 ≡ number (remainder (bits 8 i))
below zero i t h = absurd (omega arith)
below (suc n) i t h =
    elim (eq-zero-or-pos (n - i)) [
      | inl z ↦ let e : i ≡ n = omega arith in rw e (eqb→eq _ _ (and_l _ (agree_below n) t))
      | inr g ↦ below n i (and_r _ (agree_below n) t) (omega arith)
    ]

-- the table has each octet's remainder
pub TABLE_at : (i : ℕ) → i < 256 → get_or TABLE i 0 ≡ number (remainder (bits 8 i))
unfolding remainder long_division
TABLE_at i h = below 256 i tt h

-- the remainder of octets, as the bits of its number
bits_of_remainder : (before : List ℕ) (r : ℕ) → r ≡ number (remainder (message before))
    → remainder (message before) ≡ bits 8 r ++ bits 8 (r / 256)
bits_of_remainder before r e =
    sym (bits-number (remainder (message before)))
    ∙ (ap (λ n. bits n (number (remainder (message before)))) (length-remainder (message before))
    ∙ (ap (bits 16) (sym e) ∙ sym (bits-append 8 8 r)))

-- the remainder of one octet more
next_remainder : (before : List ℕ) (r o : ℕ) → r ≡ number (remainder (message before))
    → remainder (message (before ++ o ∷ [])) ≡ plus (remainder (bits 8 (bit_xor r o))) (bits 8 (r / 256))
next_remainder before r o e =
    ap remainder (flat_map-append (bits 8) before (o ∷ []))
    ∙ (remainder-append (message before) (bits 8 o)
    ∙ (ap (λ p. long_division 8 (plus p (bits 8 o ++ zeros 16))) (bits_of_remainder before r e)
    ∙ (remainder_step (bits 8 o) (bits 8 r) (bits 8 (r / 256)) refl
    ∙ ap (λ p. plus (remainder p) (bits 8 (r / 256))) (plus-bits 8 r o))))

-- the register's step
pub register_step : (before : List ℕ) (r o : ℕ) → r < 2 ^ 16 → r ≡ number (remainder (message before))
    → bit_xor (r / 256) (get_or TABLE (bit_and (bit_xor r o) 255) 0) ≡ number (remainder (message (before ++ o ∷ [])))
register_step before r o h e =
    let mask : bit_and (bit_xor r o) 255 ≡ bit_xor r o % 256 = and_mask (bit_xor r o) 8 in
    let entry : get_or TABLE (bit_and (bit_xor r o) 255) 0 ≡ number (remainder (bits 8 (bit_xor r o))) =
    ap (λ i. get_or TABLE i 0) mask
    ∙ (TABLE_at (bit_xor r o % 256) (omega arith) ∙ ap (λ p. number (remainder p)) (bits-mod 8 (bit_xor r o))) in
    let high : number (bits 8 (r / 256)) ≡ r / 256 = number-bits 8 (r / 256) (omega arith) in
    ap (bit_xor (r / 256)) entry
    ∙ (ap (λ n. bit_xor n (number (remainder (bits 8 (bit_xor r o))))) (sym high)
    ∙ (xor_comm (number (bits 8 (r / 256))) (number (remainder (bits 8 (bit_xor r o))))
    ∙ (sym (number-plus (remainder (bits 8 (bit_xor r o))) (bits 8 (r / 256)))
    ∙ ap number (sym (next_remainder before r o e)))))
