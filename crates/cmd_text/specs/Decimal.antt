-- Numbers in decimal digits, leading zeros allowed.
use Rattle.std.specs.Prelude.{ℕ, ◌+◌, ◌-◌, ◌*◌, ◌&&◌, nat_le, nat_lt, List}
use Rattle.std.specs.Prelude.{[], ◌∷◌, Option, Some, None, if◌then◌else◌}

-- the number that digits write after those of n
abbrev pub decimal_after : ℕ → List ℕ → Option ℕ
decimal_after n [] = Some n
decimal_after n (c ∷ cs) = if nat_le 48 c && nat_le c 57 then decimal_after (n * 10 + (c - 48)) cs else None

abbrev pub if_below : ℕ → Option ℕ → Option ℕ
if_below limit None = None
if_below limit (Some n) = if nat_lt n limit then Some n else None

-- one digit or more, for a number below a limit
abbrev pub number : ℕ → List ℕ → Option ℕ
number limit [] = None
number limit (c ∷ cs) = if_below limit (decimal_after 0 (c ∷ cs))
