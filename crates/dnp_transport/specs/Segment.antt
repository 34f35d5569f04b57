-- A transport segment (IEEE Std 1815-2012, clause 8) as its octets: a header, and octets of a fragment.
use Rattle.std.specs.Prelude.{ℕ, ◌%◌, ◌==◌, Bool, false, ◌&&◌, nat_lt, nat_le, List, [], ◌∷◌, length}
use Rattle.std.specs.Int.{bit_at}

-- FIN, bit 7 of the header: the fragment ends with this segment
abbrev pub is_final : List ℕ → Bool
is_final [] = false
is_final (header ∷ octets) = bit_at header 7 == 1

-- FIR, bit 6 of the header: the fragment begins with this segment
abbrev pub is_first : List ℕ → Bool
is_first [] = false
is_first (header ∷ octets) = bit_at header 6 == 1

-- the sequence number, bits 0 to 5 of the header
abbrev pub sequence : List ℕ → ℕ
sequence [] = 0
sequence (header ∷ octets) = header % 64

-- the octets of the fragment that the segment carries
abbrev pub carried_octets : List ℕ → List ℕ
carried_octets [] = []
carried_octets (header ∷ octets) = octets

-- there is a header, and at least one octet after it
abbrev pub is_whole : List ℕ → Bool
is_whole segment = nat_lt 1 (length segment)

-- a fragment may begin with the segment: it has FIR, and carries 1 to 2,048 octets
abbrev pub may_begin : List ℕ → Bool
may_begin segment = is_whole segment && is_first segment && nat_le (length (carried_octets segment)) 2048
