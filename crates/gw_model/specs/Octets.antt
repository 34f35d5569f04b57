-- Lists of octets.
use Rattle.std.specs.Prelude.{ℕ, ◌<◌, List, slice_index}

-- each is an octet
abbrev pub AreOctets : List ℕ → Type 0
AreOctets octets = (i : ℕ) → slice_index octets i < 256
