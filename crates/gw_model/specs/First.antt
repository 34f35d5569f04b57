-- The first of what there may be.
use Rattle.std.specs.Prelude.{Bool, true, false, List, [], ◌∷◌, Option, Some, None}

-- there where a condition holds
abbrev pub when : {A : Type 0} → Bool → A → Option A
when true x = Some x
when false x = None

-- the first that there is
abbrev pub first_of : {A : Type 0} → List (Option A) → Option A
first_of [] = None
first_of (None ∷ others) = first_of others
first_of (Some x ∷ others) = Some x
