-- The octets of an APDU in a buffer.
use Rattle.std.specs.Prelude.{ℕ, ◌-◌, List, ◌++◌, length, replicate}
use Rattle.iec_apci.specs.declared.buffer.ApduBuf.{ApduBuf}
use Rattle.iec_apci.specs.Apdu.{ApduContent, apdu}

-- octets at the front of a buffer of zeros, and how many there are
abbrev pub buffer : List ℕ → ApduBuf
buffer octets = record { octets = octets ++ replicate (255 - length octets) 0; len = length octets }

-- the octets of an APDU that carries this, in a buffer
abbrev pub buffer_of : ApduContent → ApduBuf
buffer_of c = buffer (apdu c)
