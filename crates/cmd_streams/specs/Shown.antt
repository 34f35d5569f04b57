-- What a line of a record is answered with isn't told: a capture is tried from outside.
use Rattle.std.specs.Prelude.{⊤, ℕ, Bool, List}
use Rattle.cmd_text.specs.Lines.{FrontDecides}

-- any line may be answered with any text
abbrev pub AnyText : {S : Type 0} → S → ℕ → List ℕ → Bool → List ℕ → S → Type 0
AnyText before number line goes_on text now = ⊤

-- so what is kept of a line decides as much as the line
pub any_front : {S : Type 0} → FrontDecides {S = S} AnyText 8192
any_front before now number line goes_on text answered = tt
