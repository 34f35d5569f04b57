-- Octets as text: two hexadecimal digits each, with one space between two octets.
use Rattle.std.specs.Prelude.{ℕ, ◌+◌, ◌-◌, ◌*◌, ◌/◌, ◌%◌, ◌&&◌, ◌==◌, nat_le, nat_lt}
use Rattle.std.specs.Prelude.{List, [], ◌∷◌, length, Option, Some, None, if◌then◌else◌}

-- the value of a digit, in either case
abbrev pub digit : ℕ → Option ℕ
digit c =
    if nat_le 48 c && nat_le c 57 then Some (c - 48)
    else if nat_le 65 c && nat_le c 70 then Some (c - 55)
    else if nat_le 97 c && nat_le c 102 then Some (c - 87)
    else None

-- both values as one octet
abbrev pub octet_of_digits : Option ℕ → Option ℕ → Option ℕ
octet_of_digits (Some high) (Some low) = Some (high * 16 + low)
octet_of_digits _ _ = None

-- the octet of two digits
abbrev pub octet : ℕ → ℕ → Option ℕ
octet a b = octet_of_digits (digit a) (digit b)

-- an octet before others, where both were read
abbrev pub octet_before : Option ℕ → Option (List ℕ) → Option (List ℕ)
octet_before (Some o) (Some os) = Some (o ∷ os)
octet_before _ _ = None

-- the octets that a text is
abbrev pub octets_of : List ℕ → Option (List ℕ)
octets_of (a ∷ b ∷ []) = octet_before (octet a b) (Some [])
octets_of (a ∷ b ∷ c ∷ rest) = if c == 32 then octet_before (octet a b) (octets_of rest) else None
octets_of _ = None

-- at most 2,048 octets
abbrev pub at_most_2048 : Option (List ℕ) → Option (List ℕ)
at_most_2048 None = None
at_most_2048 (Some os) = if nat_le (length os) 2048 then Some os else None

-- the octets that a line is
abbrev pub line_octets : List ℕ → Option (List ℕ)
line_octets line = at_most_2048 (octets_of line)

-- the digit of a value below 16, in upper case
abbrev pub upper_digit : ℕ → ℕ
upper_digit n = if nat_lt n 10 then 48 + n else 55 + n

-- the text of octets, each after a space
abbrev pub spaced_digits : List ℕ → List ℕ
spaced_digits [] = []
spaced_digits (o ∷ os) = 32 ∷ upper_digit (o / 16) ∷ upper_digit (o % 16) ∷ spaced_digits os
