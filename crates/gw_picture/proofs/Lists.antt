-- A change at one place of a list, and a change everywhere.
use Rattle.std.proofs.Common.{◌≡◌, ℕ, zero, suc, ◌<◌, ◌≤◌, List, [], ◌∷◌, map}
use Rattle.std.proofs.Common.{length, drop, get_or, Some, None, refl, sym, ap, arith}
use Rattle.std.specs.Prelude.{slice_get, option_map}
use Rattle.std.proofs.Math.ListN.{set}
use Rattle.gw_model.specs.Places.{change}

pub change-here : {A : Type 0} (n : ℕ) (f : A → A) (xs : List A)
    → slice_get (change n f xs) n ≡ option_map f (slice_get xs n)
change-here n f [] = refl
change-here zero f (x ∷ xs) = refl
change-here (suc n) f (x ∷ xs) = change-here n f xs

pub change-there : {A : Type 0} (n p : ℕ) (f : A → A) (xs : List A) → (n ≡ p → ⊥)
    → slice_get (change n f xs) p ≡ slice_get xs p
change-there n p f [] ne = refl
change-there zero zero f (x ∷ xs) ne = absurd (ne refl)
change-there zero (suc p) f (x ∷ xs) ne = refl
change-there (suc n) zero f (x ∷ xs) ne = refl
change-there (suc n) (suc p) f (x ∷ xs) ne = change-there n p f xs (λ e. ne (ap suc e))

pub set-change : {A : Type 0} (n : ℕ) (x : A) (xs : List A) → set xs n x ≡ change n (λ _. x) xs
set-change n x [] = refl
set-change zero x (y ∷ xs) = refl
set-change (suc n) x (y ∷ xs) = ap (λ (zs : List _). y ∷ zs) (set-change n x xs)

pub change-past : {A : Type 0} (n : ℕ) (f : A → A) (xs : List A) → length xs ≤ n → change n f xs ≡ xs
change-past n f [] le = refl
change-past zero f (x ∷ xs) le = absurd (omega arith)
change-past (suc n) f (x ∷ xs) le = ap (λ (zs : List _). x ∷ zs) (change-past n f xs (omega arith))

pub some_is : {A : Type 0} (x y : A) → Some x ≡ Some y → x ≡ y
some_is x y e = cc

-- a change to what is there changes nothing
pub change-same : {A : Type 0} (n : ℕ) (y : A) (xs : List A) → slice_get xs n ≡ Some y → change n (λ _. y) xs ≡ xs
change-same n y [] e = refl
change-same zero y (x ∷ xs) e = ap (λ (z : _). z ∷ xs) (sym (some_is x y e))
change-same (suc n) y (x ∷ xs) e = ap (λ (zs : List _). x ∷ zs) (change-same n y xs e)

-- nor does one that leaves what is there as it is
pub change-still : {A : Type 0} (n : ℕ) (f : A → A) (xs : List A) → ((x : A) → slice_get xs n ≡ Some x → f x ≡ x)
    → change n f xs ≡ xs
change-still n f [] same = refl
change-still zero f (x ∷ xs) same = ap (λ (z : _). z ∷ xs) (same x refl)
change-still (suc n) f (x ∷ xs) same = ap (λ (zs : List _). x ∷ zs) (change-still n f xs same)

-- a change by f, where it is known what f makes of what is there
pub change-by : {A : Type 0} (n : ℕ) (f : A → A) (y : A) (xs : List A) → ((x : A) → slice_get xs n ≡ Some x → f x ≡ y)
    → change n f xs ≡ change n (λ _. y) xs
change-by n f y [] makes = refl
change-by zero f y (x ∷ xs) makes = ap (λ (z : _). z ∷ xs) (makes x refl)
change-by (suc n) f y (x ∷ xs) makes = ap (λ (zs : List _). x ∷ zs) (change-by n f y xs makes)

pub change-length : {A : Type 0} (n : ℕ) (f : A → A) (xs : List A) → length (change n f xs) ≡ length xs
change-length n f [] = refl
change-length zero f (x ∷ xs) = refl
change-length (suc n) f (x ∷ xs) = ap suc (change-length n f xs)

-- what stands behind the place stays
pub change-behind : {A : Type 0} (n : ℕ) (f : A → A) (xs : List A) → drop (suc n) (change n f xs) ≡ drop (suc n) xs
change-behind n f [] = refl
change-behind zero f (x ∷ xs) = refl
change-behind (suc n) f (x ∷ xs) = change-behind n f xs

-- a change that keeps what f tells of the element keeps what it tells of all
pub change-maps : {A B : Type 0} (f : A → B) (n : ℕ) (x : A) (xs : List A)
    → ((y : A) → slice_get xs n ≡ Some y → f x ≡ f y) → map f (change n (λ _. x) xs) ≡ map f xs
change-maps f n x [] same = refl
change-maps f zero x (y ∷ xs) same = ap (λ (z : _). z ∷ map f xs) (same y refl)
change-maps f (suc n) x (y ∷ xs) same = ap (λ (zs : List _). f y ∷ zs) (change-maps f n x xs same)

pub map-get : {A B : Type 0} (f : A → B) (xs : List A) (n : ℕ) → slice_get (map f xs) n ≡ option_map f (slice_get xs n)
map-get f [] n = refl
map-get f (x ∷ xs) zero = refl
map-get f (x ∷ xs) (suc n) = map-get f xs n

pub get_some : {A : Type 0} (xs : List A) (n : ℕ) (d : A) → n < length xs → slice_get xs n ≡ Some (get_or xs n d)
get_some [] n d lt = absurd (omega arith)
get_some (x ∷ xs) zero d lt = refl
get_some (x ∷ xs) (suc n) d lt = get_some xs n d (omega arith)

pub get_past : {A : Type 0} (xs : List A) (n : ℕ) → length xs ≤ n → slice_get xs n ≡ None
get_past [] n le = refl
get_past (x ∷ xs) zero le = absurd (omega arith)
get_past (x ∷ xs) (suc n) le = get_past xs n (omega arith)
