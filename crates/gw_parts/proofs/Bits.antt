-- A bit for each client of an octet.
use Rattle.std.proofs.Common.{◌≡◌, ℕ, zero, suc, ◌+◌, ◌*◌, ◌%◌, ◌^◌, ◌<◌, ◌≤◌, Bool, true, false, List}
use Rattle.std.proofs.Common.{[], ◌∷◌, ◌++◌, map, take, drop, length, get_or, refl, ap, subst, ◌∙◌, lit≤, arith}
use Rattle.std.proofs.Math.Nat.{pow-suc}
use Rattle.std.proofs.lemmas.List.{length-take, take_more}
use Rattle.gw_steps.specs.Steps.{one_if, bits_of}
use Rattle.gw_parts.proofs.Places.{map-end}

power_small : (p : ℕ) → p < 8 → 2 ^ p ≤ 128
power_small zero lt = lit≤ tt
power_small (suc zero) lt = lit≤ tt
power_small (suc (suc zero)) lt = lit≤ tt
power_small (suc (suc (suc zero))) lt = lit≤ tt
power_small (suc (suc (suc (suc zero)))) lt = lit≤ tt
power_small (suc (suc (suc (suc (suc zero))))) lt = lit≤ tt
power_small (suc (suc (suc (suc (suc (suc zero)))))) lt = lit≤ tt
power_small (suc (suc (suc (suc (suc (suc (suc zero))))))) lt = lit≤ tt
power_small (suc (suc (suc (suc (suc (suc (suc (suc p)))))))) lt = absurd (omega arith)

bits_small : (bs : List Bool) → bits_of bs < 2 ^ length bs
bits_small [] = omega arith
bits_small (true ∷ bs) = omega (arith, pow-suc 2 (length bs), bits_small bs)
bits_small (false ∷ bs) = omega (arith, pow-suc 2 (length bs), bits_small bs)

bits_more : (bs : List Bool) (b : Bool) → bits_of (bs ++ b ∷ []) ≡ bits_of bs + one_if b * 2 ^ length bs
bits_more [] true = refl
bits_more [] false = refl
bits_more (x ∷ bs) true = omega (arith, pow-suc 2 (length bs), bits_more bs true)
bits_more (x ∷ bs) false = omega (arith, bits_more bs false)

-- a bit at its place in an octet
pub shifted : (b : Bool) (p : ℕ) → p < 8 → (one_if b * 2 ^ p) % 256 ≡ one_if b * 2 ^ p
shifted true p lt = omega (arith, power_small p lt)
shifted false p lt = omega arith

map-length : {A B : Type 0} (f : A → B) (xs : List A) → length (map f xs) ≡ length xs
map-length f [] = refl
map-length f (x ∷ xs) = ap suc (map-length f xs)

-- the bits of one more
pub bits_next : {A : Type 0} (f : A → Bool) (xs : List A) (n : ℕ) (x : A) → n < length xs
    → bits_of (map f (take (n + 1) xs)) ≡ bits_of (map f (take n xs)) + one_if (f (get_or xs n x)) * 2 ^ n
bits_next f xs n x lt =
    let front = take n xs in
    let here : Bool = f (get_or xs n x) in
    let len : length (map f front) ≡ n = omega (arith, map-length f front, length-take n xs, lt) in
    ap (λ (ys : List _). bits_of (map f ys)) (take_more xs n x lt) ∙ (ap bits_of (map-end f front (get_or xs n x))
    ∙ (bits_more (map f front) here ∙ ap (λ (m : ℕ). bits_of (map f front) + one_if here * 2 ^ m) len))

-- they fit an octet
pub bits_fit : {A : Type 0} (f : A → Bool) (xs : List A) (n : ℕ) (b : Bool) → n < 8 → n ≤ length xs
    → bits_of (map f (take n xs)) + (one_if b * 2 ^ n) % 256 < 256
bits_fit f xs n true lt le =
    let len : length (map f (take n xs)) ≡ n = omega (arith, map-length f (take n xs), length-take n xs, le) in
    let small : bits_of (map f (take n xs)) < 2 ^ n =
    subst (λ (m : ℕ). bits_of (map f (take n xs)) < 2 ^ m) len (bits_small (map f (take n xs))) in
    omega (arith, power_small n lt, small)
bits_fit f xs n false lt le =
    let len : length (map f (take n xs)) ≡ n = omega (arith, map-length f (take n xs), length-take n xs, le) in
    let small : bits_of (map f (take n xs)) < 2 ^ n =
    subst (λ (m : ℕ). bits_of (map f (take n xs)) < 2 ^ m) len (bits_small (map f (take n xs))) in
    omega (arith, power_small n lt, small)

-- the element behind those that a walk changed
pub get_over : {A : Type 0} (f : A → A) (xs ys : List A) (n : ℕ) (x : A) → n < length xs
    → ys ≡ map f (take n xs) ++ drop n xs → get_or ys n x ≡ get_or xs n x
get_over f xs ys n x lt e = ap (λ (zs : List _). get_or zs n x) e ∙ behind xs n lt
  where
    behind : (xs : List _) (n : ℕ) → n < length xs → get_or (map f (take n xs) ++ drop n xs) n x ≡ get_or xs n x
    behind [] n lt = absurd (omega arith)
    behind (y ∷ xs) zero lt = refl
    behind (y ∷ xs) (suc n) lt = behind xs n (omega arith)
