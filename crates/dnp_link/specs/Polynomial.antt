-- Polynomials over GF(2), the field of two elements: lists of coefficients, the highest power first.
use Rattle.std.specs.Prelude.{◌≡◌, ℕ, zero, suc, Bool, true, false, not, List}
use Rattle.std.specs.Prelude.{[], ◌∷◌, ◌++◌, length, replicate, if◌then◌else◌}

-- the sum of two elements of GF(2)
abbrev pub differs : Bool → Bool → Bool
differs false b = b
differs true b = not b

-- the sum of two polynomials that begin with the same power; zeros follow the shorter one
abbrev pub plus : List Bool → List Bool → List Bool
plus [] q = q
plus (a ∷ p) [] = a ∷ p
plus (a ∷ p) (b ∷ q) = differs a b ∷ plus p q

-- no power at all, in n places
abbrev pub zeros : ℕ → List Bool
zeros n = replicate n false

-- the generator below x^16, from x^15 down
abbrev pub below_16 : List Bool
below_16 = false ∷ false ∷ true ∷ true ∷ true ∷ true ∷ false ∷ true ∷ false ∷ true ∷ true ∷ false ∷ false ∷ true
    ∷ false ∷ true ∷ []

-- the generator of IEEE Std 1815: x^16 + x^13 + x^12 + x^11 + x^10 + x^8 + x^6 + x^5 + x^2 + 1
abbrev pub generator : List Bool
generator = true ∷ below_16

-- the product of a polynomial and the generator, 16 places longer
abbrev pub times_generator : List Bool → List Bool
times_generator [] = zeros 16
times_generator (b ∷ q) = plus (if b then generator else []) (false ∷ times_generator q)

-- r, of 16 places, is what is left when m, raised by 16 places, is divided by the generator
pub record IsRemainder (m r : List Bool) : Type 0 where
  pub places : length r ≡ 16
  pub quotient : List Bool
  pub as_long : length quotient ≡ length m
  pub sum : m ++ zeros 16 ≡ plus (times_generator quotient) (zeros (length m) ++ r)

-- long division over the first n places: where one has a coefficient, the generator is subtracted there
unfoldable pub long_division : ℕ → List Bool → List Bool
long_division zero p = p
long_division (suc n) [] = []
long_division (suc n) (false ∷ p) = long_division n p
long_division (suc n) (true ∷ p) = long_division n (plus p below_16)

-- what is left when m, raised by 16 places, is divided by the generator
unfoldable pub remainder : List Bool → List Bool
remainder m = long_division (length m) (m ++ zeros 16)
