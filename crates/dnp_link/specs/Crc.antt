-- The CRC of the data link layer (IEEE Std 1815-2012, clause 9).
use Rattle.std.specs.Prelude.{ℕ, zero, suc, ◌+◌, ◌-◌, ◌*◌, ◌/◌, ◌%◌}
use Rattle.std.specs.Prelude.{◌==◌, Bool, List, [], ◌∷◌, if◌then◌else◌}
use Rattle.std.specs.List.{flat_map}
use Rattle.dnp_link.specs.Polynomial.{remainder}

-- the low k bits of a number, the lowest first
abbrev pub bits : ℕ → ℕ → List Bool
bits zero n = []
bits (suc k) n = (n % 2 == 1) ∷ bits k (n / 2)

-- the number with these bits, the lowest first
abbrev pub number : List Bool → ℕ
number [] = 0
number (b ∷ p) = (if b then 1 else 0) + 2 * number p

-- octets as a polynomial: in the order of transmission, so each octet's lowest bit has its highest power
abbrev pub message : List ℕ → List Bool
message octets = flat_map (bits 8) octets

-- the remainder, its highest power in the lowest bit, complemented
unfoldable pub crc_of : List ℕ → ℕ
crc_of octets = 65535 - number (remainder (message octets))
