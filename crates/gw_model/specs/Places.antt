-- Words on the places of a list.
use Rattle.std.specs.Prelude.{ℕ, zero, suc, List, [], ◌∷◌}

-- the element at a place replaced by f of it
abbrev pub change : {A : Type 0} → ℕ → (A → A) → List A → List A
change n f [] = []
change zero f (x ∷ xs) = f x ∷ xs
change (suc n) f (x ∷ xs) = x ∷ change n f xs
