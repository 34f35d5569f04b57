-- The status that a program ends with.
use Rattle.std.specs.Prelude.{ℕ, Bool, true, List, [], ◌∷◌, ◌++◌, codes, Result, Ok, Err}
use Rattle.cmd_text.specs.declared.reading.Stop.{Stop}
use Rattle.cmd_text.specs.declared.reading.Stop.TheVariants.{Memory}

-- 0 where the input ended, no line was refused and all was written, else 1
abbrev pub status : Result Bool Stop → Bool → ℕ
status (Ok true) true = 0
status outcome is_written = 1

-- the line that is written at last: of a program that lacked memory
abbrev pub last_line : Result Bool Stop → List ℕ
last_line (Err Memory) = codes "refused memory" ++ 10 ∷ []
last_line outcome = []
