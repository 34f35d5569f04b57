-- The first element of lists that are put together.
use Rattle.std.proofs.Common.{◌≡◌, List, [], ◌∷◌, ◌++◌, map, Some, None, option_map, refl, ap, ◌∙◌}
use Rattle.gw_entries.specs.Answers.{first}

-- it's the first of the front, where that has one
pub stop : {A : Type 0} (xs ys : List A) (x : A) → first xs ≡ Some x → first (xs ++ ys) ≡ Some x
unfolding first
stop [] ys x h = absurd cc
stop (y ∷ xs) ys x h = h

-- a list without a first element is empty
pub first-None : {A : Type 0} (xs : List A) → first xs ≡ None → xs ≡ []
unfolding first
first-None [] h = refl
first-None (y ∷ xs) h = absurd cc

pub first-map : {A B : Type 0} (f : A → B) (xs : List A) → first (map f xs) ≡ option_map f (first xs)
unfolding first
first-map f [] = refl
first-map f (x ∷ xs) = refl

-- the first of a list, each element of which is changed
pub told : {A B : Type 0} (f : A → B) (xs : List A) (x : A) → first xs ≡ Some x → first (map f xs) ≡ Some (f x)
told f xs x h = first-map f xs ∙ ap (option_map f) h
