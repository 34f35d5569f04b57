-- Octets that are one APDU.
use Rattle.std.specs.Prelude.{◌≡◌, ℕ, List, [], ◌∷◌}
use Rattle.iec_apci.specs.Apdu.{ApduContent}
use Rattle.iec_apci.specs.Stream.{Open, reading}

-- they say one APDU, of which no octet is missing, and nothing comes behind it
abbrev pub IsWhole : List ℕ → Type 0
IsWhole octets =
    (c : ApduContent) × (((reading octets).apdus ≡ c ∷ []) × ((reading octets).ending ≡ Open []))
