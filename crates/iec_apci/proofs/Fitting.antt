-- What a value of the program carries can be transmitted.
use Rattle.std.proofs.Common.{arith, length-take}
use Rattle.iec_apci.specs.declared.apdu.Apdu.{Apdu}
use Rattle.iec_apci.specs.declared.apdu.Apdu.TheVariants as formats
use Rattle.iec_apci.specs.Apdu.{Fits}
use Rattle.iec_apci.specs.ApduContent.{content, IsNumbered}

-- an APDU with numbers of 15 bits
pub content_fits : (a : Apdu) → IsNumbered a → Fits (content a)
content_fits (formats.I ns nr asdu) h = (h.0, h.1, omega (arith, asdu.fits, length-take asdu.len asdu.octets))
content_fits (formats.S nr) h = h
content_fits (formats.U signal) h = tt
