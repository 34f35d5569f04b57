use Rattle.std.proofs.Common.{◌≡◌, take}
use Rattle.dnp_link.specs.Crc.{message, number}
use Rattle.dnp_link.specs.Polynomial.{remainder}
use Rattle.dnp_link.proofs.checksum.crc.Given as goal

-- the register is the remainder of the octets so far
abbrev pub invariant-loop-octet : goal.invariant-loop-octet
invariant-loop-octet l = l.register ≡ number (remainder (message (take l.octet-index l.octets)))
