-- What a reader tells of an ASDU.
use Rattle.std.specs.Prelude.{◌≡◌, ℕ, List, Result, Ok}
use Rattle.gw_model.specs.Outcome.{◌>>=◌}
use Rattle.gw_model.specs.declared.observation.Observation.{Observation}
use Rattle.iec_asdu.specs.declared.fault.AsduFault.{AsduFault}
use Rattle.iec_asdu.specs.declared.reading.Monitor.{Monitor}
use Rattle.iec_asdu.specs.Types.{Layout}
use Rattle.iec_asdu.specs.Asdu.{Asdu}
use Rattle.iec_asdu.specs.Grammar.{IsAsdu}
use Rattle.iec_asdu.specs.Reading.{asdu_read}

-- common address, the whole octet of the cause, and the observations
pub record Contents : Type 0 where
  pub common : ℕ
  pub cause : ℕ
  pub observations : List Observation

-- what a reader tells of an ASDU
abbrev pub contents_of : Asdu → Contents
contents_of asdu = record { common = asdu.common_address; cause = asdu.cause; observations = asdu.observations }

-- the octets spell an ASDU with these contents
abbrev pub Spells : List Layout → List ℕ → Contents → Type 0
Spells types octets contents = (asdu : Asdu) × IsAsdu types octets asdu × (contents_of asdu ≡ contents)

-- the contents of what a reader gave
abbrev pub monitor_contents : Monitor → Contents
monitor_contents m = record { common = m.common; cause = m.cause; observations = m.observations.items }

-- the contents of what octets spell, or the first fault
abbrev pub contents_read : List Layout → List ℕ → Result Contents AsduFault
contents_read types octets = asdu_read types octets >>= λ asdu. Ok (contents_of asdu)
