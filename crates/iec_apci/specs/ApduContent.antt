-- What values of the program carry.
use Rattle.std.specs.Prelude.{◌≡◌, ℕ, ◌-◌, List, take, drop, replicate, Option, Some, None, Result, Ok, Err}
use Rattle.iec_apci.specs.Apdu.{ApduContent, Information, Supervisory, Unnumbered, IsNumber}
use Rattle.iec_apci.specs.declared.apdu.Asdu.{Asdu}
use Rattle.iec_apci.specs.declared.apdu.Apdu.{Apdu}
use Rattle.iec_apci.specs.declared.apdu.Apdu.TheVariants as formats
use Rattle.iec_apci.specs.declared.fault.ApciFault.{ApciFault}

-- the octets of an ASDU: of its array the first alone
abbrev pub octets_of : Asdu → List ℕ
octets_of a = take a.len a.octets

-- what an APDU carries
abbrev pub content : Apdu → ApduContent
content (formats.I ns nr asdu) = Information ns nr (octets_of asdu)
content (formats.S nr) = Supervisory nr
content (formats.U signal) = Unnumbered signal

-- an APDU or a fault, likewise
abbrev pub content_if_ok : Result Apdu ApciFault → Result ApduContent ApciFault
content_if_ok (Ok a) = Ok (content a)
content_if_ok (Err f) = Err f

-- a call's answer, likewise
abbrev pub content_if : Option (Result Apdu ApciFault) → Option (Result ApduContent ApciFault)
content_if None = None
content_if (Some r) = Some (content_if_ok r)

-- its numbers are sequence numbers
abbrev pub IsNumbered : Apdu → Type 0
IsNumbered (formats.I ns nr asdu) = IsNumber ns × IsNumber nr
IsNumbered (formats.S nr) = IsNumber nr
IsNumbered (formats.U signal) = Unit {0}

-- the octets behind an ASDU are 0
abbrev pub IsPadded : Apdu → Type 0
IsPadded (formats.I ns nr asdu) = drop asdu.len asdu.octets ≡ replicate (249 - asdu.len) 0
IsPadded (formats.S nr) = Unit {0}
IsPadded (formats.U signal) = Unit {0}
