-- The bits of a tick's reply: one for each client, set where its t1 has passed.
use Rattle.std.proofs.Common.{◌≡◌, ℕ, zero, suc, ◌+◌, ◌*◌, ◌/◌, ◌%◌, ◌<◌, Bool, true, false}
use Rattle.std.proofs.Common.{◌&&◌, ◌||◌, List, [], ◌∷◌, map, Option, option_map, refl, sym, ap, ◌∙◌, arith}
use Rattle.std.specs.Prelude.{◌==◌, slice_get}
use Rattle.std.proofs.lemmas.Bool.{eq-eqb, ne_eqb}
use Rattle.gw_picture.proofs.Lists.{map-get}
use Rattle.gw_station.specs.Client.{Client, is_timed_out}
use Rattle.gw_steps.specs.Effects.{is_so}
use Rattle.gw_steps.specs.Steps.{bits_of, one_if}
use Rattle.law_history.specs.Life.{has_bit}

-- the one at a place; false where there is none
abbrev pub bit_at : ℕ → List Bool → Bool
bit_at c bs = is_so (slice_get bs c)

no_bit : (c : ℕ) → has_bit c 0 ≡ false
no_bit zero = refl
no_bit (suc c) = no_bit c

lowest : (b : Bool) (n : ℕ) → has_bit 0 (one_if b + 2 * n) ≡ b
lowest true n = eq-eqb ((1 + 2 * n) % 2) 1 (omega arith)
lowest false n = ne_eqb ((0 + 2 * n) % 2) 1 (λ (e : (0 + 2 * n) % 2 ≡ 1). omega (arith, e))

others : (b : Bool) (n : ℕ) → (one_if b + 2 * n) / 2 ≡ n
others true n = omega arith
others false n = omega arith

-- each bit is the one at its place
pub bit_told : (bs : List Bool) (c : ℕ) → has_bit c (bits_of bs) ≡ bit_at c bs
bit_told [] c = no_bit c
bit_told (b ∷ bs) zero = lowest b (bits_of bs)
bit_told (b ∷ bs) (suc c) = ap (has_bit c) (others b (bits_of bs)) ∙ bit_told bs c

-- ---- t1

-- its t1 has passed; no absent client's has
abbrev pub t1_passed_at : ℕ → Option Client → Bool
t1_passed_at moment k = is_so (option_map (is_timed_out moment) k)

-- the bit of a client tells whether its t1 has passed
pub t1_told : (moment : ℕ) (ks : List Client) (c : ℕ)
    → has_bit c (bits_of (map (is_timed_out moment) ks)) ≡ t1_passed_at moment (slice_get ks c)
t1_told moment ks c =
    bit_told (map (is_timed_out moment) ks) c ∙ ap is_so (map-get (is_timed_out moment) ks c)

-- ---- one after another

-- it is so of the one at place c, where the first of these has place i
abbrev pub closing : ℕ → List Bool → ℕ → Bool
closing i [] c = false
closing i (b ∷ bs) c = (b && (c == i)) || closing (suc i) bs c

closing_before : (bs : List Bool) (i c : ℕ) → c < i → closing i bs c ≡ false
closing_before [] i c lt = refl
closing_before (b ∷ bs) i c lt =
    rw (ne_eqb c i (λ is. omega (arith, lt, is)), closing_before bs (suc i) c (omega (arith, lt))) (by b)
  where
    by : (b : Bool) → (b && false) || false ≡ false
    by true = refl
    by false = refl

closing_from : (bs : List Bool) (i j c : ℕ) → c ≡ j + i → closing i bs c ≡ bit_at j bs
closing_from [] i j c at = refl
closing_from (b ∷ bs) i zero c at =
    rw (eq-eqb c i (omega (arith, at)), closing_before bs (suc i) c (omega (arith, at))) (by b)
  where
    by : (b : Bool) → (b && true) || false ≡ b
    by true = refl
    by false = refl
closing_from (b ∷ bs) i (suc j) c at =
    rw (ne_eqb c i (λ is. omega (arith, at, is))) (by b (closing_from bs (suc i) j c (omega (arith, at))))
  where
    by : (b : Bool) → closing (suc i) bs c ≡ bit_at j bs → (b && false) || closing (suc i) bs c ≡ bit_at j bs
    by true rest = rest
    by false rest = rest

pub closing_at : (bs : List Bool) (c : ℕ) → closing 0 bs c ≡ bit_at c bs
closing_at bs c = closing_from bs 0 c c (omega arith)

-- a client is closed where its bit is set
pub closing_bit : (bs : List Bool) (c : ℕ) → closing 0 bs c ≡ has_bit c (bits_of bs)
closing_bit bs c = closing_at bs c ∙ sym (bit_told bs c)
