-- Texts that stand for something.
use Rattle.std.specs.Prelude.{ℕ, List, [], ◌∷◌, Option, Some, None, bytes_eq, if◌then◌else◌}

-- what a text stands for, among some
abbrev pub among : {A : Type 0} → List (List ℕ × A) → List ℕ → Option A
among [] text = None
among (word ∷ words) text = if bytes_eq text word.0 then Some word.1 else among words text
