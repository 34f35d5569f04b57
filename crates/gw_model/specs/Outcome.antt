-- What functions give that read octets: a value, or the first fault. Any of them may run out of memory.
use Rattle.std.specs.Prelude.{◌≡◌, Bool, true, false, Result, Ok, Err}

-- a reading that goes on from the value of another; the fault of the first, where it has one
infixl 10 ◌>>=◌
abbrev pub ◌>>=◌ : {A B E : Type 0} → Result A E → (A → Result B E) → Result B E
(Ok x) >>= f = f x
(Err e) >>= f = Err e

-- P, unless memory ran out
abbrev pub UnlessMemory : Bool → Type 0 → Type 0
UnlessMemory true P = Unit {0}
UnlessMemory false P = P

-- what a function returned, seen by view, is what reading gives, unless its fault is that memory ran out
abbrev pub Gives : {X Y E : Type 0} → (E → Bool) → (X → Y) → Result X E → Result Y E → Type 0
Gives is_memory view (Ok x) read = read ≡ Ok (view x)
Gives is_memory view (Err e) read = UnlessMemory (is_memory e) (read ≡ Err e)
