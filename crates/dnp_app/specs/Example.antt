-- Octets that recur in the worked examples.
use Rattle.std.specs.Prelude.{ℕ, List, [], ◌∷◌}

-- the front of a response without internal indications, by its application control octet
abbrev pub response_front : ℕ → List ℕ
response_front control = control ∷ 0x81 ∷ 0x00 ∷ 0x00 ∷ []

-- the header of one control relay output block under qualifier 28, whose index has two octets
abbrev pub relay_header : List ℕ
relay_header = 0x0C ∷ 0x01 ∷ 0x28 ∷ 0x01 ∷ 0x00 ∷ []
