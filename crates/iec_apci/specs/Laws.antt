-- Words of the laws.
use Rattle.std.specs.Prelude.{◌≡◌, ℕ, List, ◌++◌, Option, Some, None, Err}
use Rattle.std.specs.List.{AllByRecursion, flat_map}
use Rattle.iec_apci.specs.declared.fault.ApciFault.{ApciFault}
use Rattle.iec_apci.specs.Apdu.{ApduContent, apdu, Fits}
use Rattle.iec_apci.specs.Stream.{Ending, Open, Faulty, answer_at_front, Reading}

-- the octets begin with the APDU that carries this
abbrev pub BeginsWith : List ℕ → ApduContent → Type 0
BeginsWith octets c = Fits c × ((behind : List ℕ) × (octets ≡ apdu c ++ behind))

-- one reading, and then another
abbrev pub joined_readings : Reading → Reading → Reading
joined_readings a b = record { apdus = a.apdus ++ b.apdus; ending = b.ending }

-- the fault that a stream ends with, if it does
abbrev pub fault_of : Ending → Option ApciFault
fault_of (Open octets) = None
fault_of (Faulty f) = Some f

-- APDUs, and what comes behind them
abbrev pub reading_with_all_first : List ApduContent → Reading → Reading
reading_with_all_first cs r = record { apdus = cs ++ r.apdus; ending = r.ending }

-- a rest that shows no APDU: nothing yet, or a fault
abbrev pub Ends : List ℕ → Ending → Type 0
Ends rest (Open octets) = (octets ≡ rest) × (answer_at_front rest ≡ None)
Ends rest (Faulty f) = answer_at_front rest ≡ Some (Err f)

-- octets are these APDUs, one after another, and a rest that shows none
pub record Splits (octets : List ℕ) (r : Reading) : Type 0 where
  pub rest : List ℕ
  pub whole : octets ≡ flat_map apdu r.apdus ++ rest
  pub each : AllByRecursion Fits r.apdus
  pub ends : Ends rest r.ending
