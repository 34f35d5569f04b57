-- Long division leaves the remainder, and no other polynomial is one; how it goes on as the message grows.
use Rattle.std.proofs.Common.{◌≡◌, ℕ, zero, suc, ◌+◌, ◌-◌, ◌≤◌, Bool, true, false, List, [], ◌∷◌, ◌++◌}
use Rattle.std.proofs.Common.{length, refl, sym, ◌∙◌, ap, arith, append_assoc, zero-add, suc-add, length-append}
use Rattle.dnp_link.specs.Polynomial.{differs, plus, zeros, below_16, generator, times_generator, IsRemainder, long_division, remainder}

pub differs_comm : (a b : Bool) → differs a b ≡ differs b a
differs_comm false false = refl
differs_comm false true = refl
differs_comm true false = refl
differs_comm true true = refl

pub differs_assoc : (a b c : Bool) → differs (differs a b) c ≡ differs a (differs b c)
differs_assoc false b c = refl
differs_assoc true false c = refl
differs_assoc true true false = refl
differs_assoc true true true = refl

pub plus_nil : (p : List Bool) → plus p [] ≡ p
plus_nil [] = refl
plus_nil (a ∷ p) = refl

pub plus_comm : (p q : List Bool) → plus p q ≡ plus q p
plus_comm [] q = sym (plus_nil q)
plus_comm (a ∷ p) [] = refl
plus_comm (a ∷ p) (b ∷ q) = rw (differs_comm a b, plus_comm p q) refl

pub plus_assoc : (p q r : List Bool) → plus (plus p q) r ≡ plus p (plus q r)
plus_assoc [] q r = refl
plus_assoc (a ∷ p) [] r = refl
plus_assoc (a ∷ p) (b ∷ q) [] = refl
plus_assoc (a ∷ p) (b ∷ q) (c ∷ r) = rw (differs_assoc a b c, plus_assoc p q r) refl

-- to add twice is to add nothing
pub plus_twice : (p q : List Bool) → length q ≤ length p → plus (plus p q) q ≡ p
plus_twice [] [] h = refl
plus_twice [] (b ∷ q) h = absurd (omega arith)
plus_twice (a ∷ p) [] h = refl
plus_twice (false ∷ p) (false ∷ q) h = ap (λ r. false ∷ r) (plus_twice p q (omega arith))
plus_twice (false ∷ p) (true ∷ q) h = ap (λ r. false ∷ r) (plus_twice p q (omega arith))
plus_twice (true ∷ p) (false ∷ q) h = ap (λ r. true ∷ r) (plus_twice p q (omega arith))
plus_twice (true ∷ p) (true ∷ q) h = ap (λ r. true ∷ r) (plus_twice p q (omega arith))

pub length-plus : (p q : List Bool) → length q ≤ length p → length (plus p q) ≡ length p
length-plus [] [] h = refl
length-plus [] (b ∷ q) h = absurd (omega arith)
length-plus (a ∷ p) [] h = refl
length-plus (a ∷ p) (b ∷ q) h = ap suc (length-plus p q (omega arith))

pub length-plus_ge : (p q : List Bool) → length p ≤ length (plus p q)
length-plus_ge [] q = omega arith
length-plus_ge (a ∷ p) [] = omega arith
length-plus_ge (a ∷ p) (b ∷ q) = omega (arith, length-plus_ge p q)

pub plus_zeros : (n : ℕ) (q : List Bool) → n ≤ length q → plus (zeros n) q ≡ q
plus_zeros zero q h = refl
plus_zeros (suc n) [] h = absurd (omega arith)
plus_zeros (suc n) (b ∷ q) h = ap (λ r. b ∷ r) (plus_zeros n q (omega arith))

-- what stands behind the places that are divided is only added to
pub long_division-plus : (n : ℕ) (p r : List Bool) → n ≤ length p
    → long_division n (plus p (zeros n ++ r)) ≡ plus (long_division n p) r
unfolding long_division
long_division-plus zero p r h = refl
long_division-plus (suc n) [] r h = absurd (omega arith)
long_division-plus (suc n) (false ∷ p) r h = long_division-plus n p r (omega arith)
long_division-plus (suc n) (true ∷ p) r h =
    ap (long_division n) (plus_assoc p (zeros n ++ r) below_16
    ∙ (ap (plus p) (plus_comm (zeros n ++ r) below_16) ∙ sym (plus_assoc p below_16 (zeros n ++ r))))
    ∙ long_division-plus n (plus p below_16) r (omega (arith, length-plus_ge p below_16))

-- a message followed by zeros, with r added there
pub plus_behind : (m r : List Bool) → 16 ≤ length r → plus (m ++ zeros 16) (zeros (length m) ++ r) ≡ m ++ r
plus_behind [] r h = plus_zeros 16 r h
plus_behind (false ∷ m) r h = ap (λ p. false ∷ p) (plus_behind m r h)
plus_behind (true ∷ m) r h = ap (λ p. true ∷ p) (plus_behind m r h)

-- what stands behind the message is only added to the remainder
pub divided_behind : (m r : List Bool) → 16 ≤ length r → long_division (length m) (m ++ r) ≡ plus (remainder m) r
unfolding remainder
divided_behind m r h = ap (long_division (length m)) (sym (plus_behind m r h))
    ∙ long_division-plus (length m) (m ++ zeros 16) r (omega (arith, length-append m (zeros 16)))

pub length-long_division : (n : ℕ) (p : List Bool) → n + 16 ≤ length p → length (long_division n p) ≡ length p - n
unfolding long_division
length-long_division zero p h = omega arith
length-long_division (suc n) [] h = absurd (omega arith)
length-long_division (suc n) (false ∷ p) h = length-long_division n p (omega arith) ∙ omega arith
length-long_division (suc n) (true ∷ p) h =
    length-long_division n (plus p below_16) (omega (arith, length-plus p below_16 (omega arith)))
    ∙ omega (arith, length-plus p below_16 (omega arith))

pub length-remainder : (m : List Bool) → length (remainder m) ≡ 16
unfolding remainder
length-remainder m = length-long_division (length m) (m ++ zeros 16) (omega (arith, length-append m (zeros 16)))
    ∙ omega (arith, length-append m (zeros 16))

-- division in two parts
pub long_division-add : (n k : ℕ) (p : List Bool) → n + k + 16 ≤ length p
    → long_division (n + k) p ≡ long_division k (long_division n p)
unfolding long_division
long_division-add zero k p h = ap (λ j. long_division j p) (zero-add k)
long_division-add (suc n) k [] h = absurd (omega arith)
long_division-add (suc n) k (false ∷ p) h =
    ap (λ j. long_division j (false ∷ p)) (suc-add n k) ∙ long_division-add n k p (omega arith)
long_division-add (suc n) k (true ∷ p) h = ap (λ j. long_division j (true ∷ p)) (suc-add n k)
    ∙ long_division-add n k (plus p below_16) (omega (arith, length-plus_ge p below_16))

-- the remainder of a message that goes on by t: the remainder so far, added to t, is divided on
pub remainder-append : (m t : List Bool)
    → remainder (m ++ t) ≡ long_division (length t) (plus (remainder m) (t ++ zeros 16))
unfolding remainder
remainder-append m t =
    ap (λ n. long_division n (m ++ t ++ zeros 16)) (length-append m t)
    ∙ (long_division-add (length m) (length t) (m ++ t ++ zeros 16)
    (omega (arith, length-append (m ++ t) (zeros 16), length-append m t))
    ∙ (ap (λ p. long_division (length t) (long_division (length m) p)) (append_assoc m t (zeros 16))
    ∙ ap (long_division (length t)) (divided_behind m (t ++ zeros 16) (omega (arith, length-append t (zeros 16))))))

differs_false : (a : Bool) → differs a false ≡ a
differs_false false = refl
differs_false true = refl

plus_parts : (a t h z : List Bool) → length a ≡ length t
    → plus (a ++ h) (t ++ z) ≡ plus (plus a t ++ z) (zeros (length t) ++ h)
plus_parts [] [] h z e = plus_comm h z
plus_parts [] (b ∷ t) h z e = absurd (omega arith)
plus_parts (a ∷ p) [] h z e = absurd (omega arith)
plus_parts (a ∷ p) (b ∷ t) h z e = rw (differs_false (differs a b), plus_parts p t h z (omega arith)) refl

-- the part of the register behind the first places is only added
pub remainder_step : (t a h : List Bool) → length a ≡ length t
    → long_division (length t) (plus (a ++ h) (t ++ zeros 16)) ≡ plus (remainder (plus a t)) h
unfolding remainder
remainder_step t a h e =
    let same : length (plus a t) ≡ length t = length-plus a t (omega arith) ∙ e in
    ap (long_division (length t)) (plus_parts a t h (zeros 16) e)
    ∙ (long_division-plus (length t) (plus a t ++ zeros 16) h (omega (arith, length-append (plus a t) (zeros 16)))
    ∙ ap (λ n. plus (long_division n (plus a t ++ zeros 16)) h) (sym same))

-- what long division finds: a quotient, and the remainder
record Divides (n : ℕ) (p : List Bool) : Type 0 where
  pub quotient : List Bool
  pub as_long : length quotient ≡ n
  pub sum : p ≡ plus (times_generator quotient) (zeros n ++ long_division n p)

length-times : (q : List Bool) → length (times_generator q) ≡ length q + 16
length-times [] = refl
length-times (false ∷ q) = omega (arith, length-times q)
length-times (true ∷ q) = omega (
  arith,
  length-times q,
  length-plus (false ∷ times_generator q) generator (omega (arith, length-times q)),
  ap length (plus_comm generator (false ∷ times_generator q)),
)

divides : (n : ℕ) (p : List Bool) → length p ≡ n + 16 → Divides n p
unfolding long_division
divides zero p e = record { quotient = []; as_long = refl; sum = sym (plus_zeros 16 p (omega arith)) }
divides (suc n) [] e = absurd (omega arith)
divides (suc n) (false ∷ p) e = let d = divides n p (omega arith) in
    record { quotient = false ∷ d.quotient; as_long = ap suc d.as_long; sum = ap (λ r. false ∷ r) d.sum }
divides (suc n) (true ∷ p) e =
    let d = divides n (plus p below_16) (length-plus p below_16 (omega arith) ∙ omega arith) in
    record {
      quotient = true ∷ d.quotient;
      as_long = ap suc d.as_long;
      sum = ap (λ r. true ∷ r) (sym (plus_twice p below_16 (omega arith)) ∙ (ap (λ r. plus r below_16) d.sum
          ∙ (plus_comm (plus (times_generator d.quotient) (zeros n ++ long_division n (plus p below_16))) below_16
          ∙ sym (plus_assoc below_16 (times_generator d.quotient) (zeros n ++ long_division n (plus p below_16))))));
    }

-- whatever the quotient is, long division leaves what is added to its product
long_division-sum : (q r : List Bool) → length r ≡ 16
    → long_division (length q) (plus (times_generator q) (zeros (length q) ++ r)) ≡ r
unfolding long_division
long_division-sum [] r e = plus_zeros 16 r (omega arith)
long_division-sum (false ∷ q) r e = long_division-sum q r e
long_division-sum (true ∷ q) r e =
    ap (long_division (length q)) (
    ap (λ p. plus p below_16) (plus_assoc below_16 (times_generator q) (zeros (length q) ++ r)
    ∙ plus_comm below_16 (plus (times_generator q) (zeros (length q) ++ r)))
    ∙ plus_twice (plus (times_generator q) (zeros (length q) ++ r)) below_16
    (omega (arith, length-times q, length-plus_ge (times_generator q) (zeros (length q) ++ r))))
    ∙ long_division-sum q r e

-- what long division leaves is a remainder
pub remainder_is : (m : List Bool) → IsRemainder m (remainder m)
unfolding remainder
remainder_is m = let d = divides (length m) (m ++ zeros 16) (length-append m (zeros 16)) in
    record { places = length-remainder m; quotient = d.quotient; as_long = d.as_long; sum = d.sum }

-- no other polynomial is
pub remainder_only : (m r : List Bool) → IsRemainder m r → r ≡ remainder m
unfolding remainder
remainder_only m r h = sym (long_division-sum h.quotient r h.places)
    ∙ (ap (λ n. long_division (length h.quotient) (plus (times_generator h.quotient) (zeros n ++ r))) h.as_long
    ∙ (ap (long_division (length h.quotient)) (sym h.sum) ∙ ap (λ n. long_division n (m ++ zeros 16)) h.as_long))
