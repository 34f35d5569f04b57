-- What an APDU that was put out says.
use Rattle.std.specs.Prelude.{ℕ, List, [], ◌∷◌, take, Option, Some, None, option_map}
use Rattle.gw_model.specs.Clocks.{Clocks}
use Rattle.iec_apci.specs.declared.apdu.Signal.{Signal}
use Rattle.iec_apci.specs.declared.buffer.ApduBuf.{ApduBuf}
use Rattle.iec_apci.specs.Apdu.{ApduContent, Information, Supervisory, Unnumbered}
use Rattle.iec_apci.specs.Stream.{Ending, Open, reading}
use Rattle.gw_answers.specs.Meaning.{Meant, meaning_of}

pub data ApduMeaning : Type 0 where
  -- N(S), N(R), and what the ASDU means
  IFormat : ℕ → ℕ → Meant → ApduMeaning
  -- N(R)
  SFormat : ℕ → ApduMeaning
  UFormat : Signal → ApduMeaning

-- what is carried says this, by the clocks of the station
abbrev pub said_by : Clocks → ApduContent → ApduMeaning
said_by clocks (Information ns nr asdu) = IFormat ns nr (meaning_of clocks asdu)
said_by clocks (Supervisory nr) = SFormat nr
said_by clocks (Unnumbered signal) = UFormat signal

-- the one APDU that is read, with nothing behind it
abbrev pub only_one : List ApduContent → Ending → Option ApduContent
only_one (c ∷ []) (Open []) = Some c
only_one _ _ = None

-- octets that are one APDU say what it carries
abbrev pub said : Clocks → ApduBuf → Option ApduMeaning
said clocks apdu =
    let read = reading (take apdu.len apdu.octets) in option_map (said_by clocks) (only_one read.apdus read.ending)
