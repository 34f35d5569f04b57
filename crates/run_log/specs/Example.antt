-- A log of two lanes: lane 0 added 10, lane 1 added 20, and then lane 0 added 30.
use Rattle.std.specs.Prelude.{ℕ, List, [], ◌∷◌}

abbrev pub early : List (ℕ × ℕ)
early = (1, 20) ∷ (0, 10) ∷ []

abbrev pub late : List (ℕ × ℕ)
late = (0, 30) ∷ early
