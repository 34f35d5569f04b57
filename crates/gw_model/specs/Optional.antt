-- Readings that give a value or nothing.
use Rattle.std.specs.Prelude.{Option, Some, None}

-- a reading that goes on from the value of another; nothing, where the first gives nothing
infixl 10 ◌>>=◌
abbrev pub ◌>>=◌ : {A B : Type 0} → Option A → (A → Option B) → Option B
(Some x) >>= f = f x
None >>= f = None
