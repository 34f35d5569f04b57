-- Single bits of an octet.
use Rattle.std.specs.Prelude.{ℕ, ◌/◌, ◌%◌, ◌^◌, Bool, ◌==◌, if◌then◌else◌}

-- bit k of an octet, where it is set
abbrev pub bit : ℕ → Bool → ℕ
bit k on = if on then 2 ^ k else 0

-- bit k of the octet is set
abbrev pub is_set : ℕ → ℕ → Bool
is_set k octet = octet / 2 ^ k % 2 == 1
