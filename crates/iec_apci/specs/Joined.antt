-- The octets of APDUs.
use Rattle.std.specs.Prelude.{ℕ, List, [], ◌∷◌, ◌++◌, take}
use Rattle.iec_apci.specs.declared.buffer.ApduBuf.{ApduBuf}

-- the octets of an APDU, without the zeros behind them
abbrev pub octets_in : ApduBuf → List ℕ
octets_in apdu = take apdu.len apdu.octets

-- the octets of APDUs, one after another
abbrev pub joined : List ApduBuf → List ℕ
joined [] = []
joined (apdu ∷ more) = octets_in apdu ++ joined more
