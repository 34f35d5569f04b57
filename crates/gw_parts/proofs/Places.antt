-- A place of a list that was lent, and a walk over all of them.
use Rattle.std.specs.Prelude.{slice_get}
use Rattle.std.specs.List.{AllByRecursion}
use Rattle.std.proofs.Common.{◌≡◌, ℕ, zero, suc, List, [], ◌∷◌, ◌++◌, map}
use Rattle.std.proofs.Common.{get_or, Some, None, refl, sym, ap, subst, ◌∙◌}
use Rattle.std.proofs.Math.ListN.{set}
use Rattle.gw_model.specs.Places.{change}
use Rattle.gw_picture.proofs.Lists.{some_is}

-- x stood there, and f x was left
pub lent_changed : {A : Type 0} (n : ℕ) (f : A → A) (xs : List A) (x y : A) → Some x ≡ slice_get xs n → y ≡ f x
    → set xs n y ≡ change n f xs
lent_changed n f [] x y there e = refl
lent_changed zero f (z ∷ xs) x y there e = ap (λ (w : _). w ∷ xs) (e ∙ ap f (some_is x z there))
lent_changed (suc n) f (z ∷ xs) x y there e = ap (λ (zs : List _). z ∷ zs) (lent_changed n f xs x y there e)

pub index_changed : {A : Type 0} (n : ℕ) (f : A → A) (xs : List A) (x y : A) → x ≡ get_or xs n x → y ≡ f x
    → set xs n y ≡ change n f xs
index_changed n f [] x y there e = refl
index_changed zero f (z ∷ xs) x y there e = ap (λ (w : _). w ∷ xs) (e ∙ ap f there)
index_changed (suc n) f (z ∷ xs) x y there e = ap (λ (zs : List _). z ∷ zs) (index_changed n f xs x y there e)

-- there is no such place
pub none_changed : {A : Type 0} (n : ℕ) (f : A → A) (xs : List A) → None ≡ slice_get xs n → xs ≡ change n f xs
none_changed n f [] none = refl
none_changed zero f (z ∷ xs) none = absurd cc
none_changed (suc n) f (z ∷ xs) none = ap (λ (zs : List _). z ∷ zs) (none_changed n f xs none)

-- what all have, x has
pub has_too : {A : Type 0} (P : A → Type 0) (n : ℕ) (xs : List A) (x : A) → Some x ≡ slice_get xs n
    → AllByRecursion P xs → P x
has_too P n [] x there all = absurd cc
has_too P zero (z ∷ xs) x there all = subst P (sym (some_is x z there)) all.0
has_too P (suc n) (z ∷ xs) x there all = has_too P n xs x there all.1

-- ---- so many alike

pub map-end : {A B : Type 0} (f : A → B) (xs : List A) (y : A) → map f (xs ++ y ∷ []) ≡ map f xs ++ f y ∷ []
map-end f [] y = refl
map-end f (x ∷ xs) y = ap (λ (zs : List _). f x ∷ zs) (map-end f xs y)
