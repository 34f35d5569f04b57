-- Which octets are one APDU.
use Rattle.std.specs.Prelude.{◌≡◌, ℕ, List, Option, Some, None, Result, Ok, Err, MatchBool}
use Rattle.std.specs.Str.{bytes_eq}
use Rattle.iec_apci.specs.Apdu.{ApduContent, apdu as spelling}
use Rattle.iec_apci.specs.ApduContent.{content, IsPadded}
use Rattle.iec_apci.specs.Stream.{answer_at_front}
use Rattle.iec_apci.specs.declared.apdu.Apdu.{Apdu}
use Rattle.iec_apci.specs.declared.fault.ApciFault.{ApciFault}
use Rattle.cmd_replay.specs.declared.refusal.StepRefusal.{StepRefusal}
use Rattle.cmd_replay.specs.declared.refusal.StepRefusal.TheVariants.{Frame, Partial}

-- an APDU was found that carries this, with zeros behind its ASDU
abbrev pub IsCarrying : ApduContent → Result Apdu StepRefusal → Type 0
IsCarrying c (Ok a) = (content a ≡ c) × IsPadded a
IsCarrying c (Err refusal) = ⊥

-- by what octets show at their front: behind an APDU there may be nothing
abbrev pub IsReadBy : Option (Result ApduContent ApciFault) → List ℕ → Result Apdu StepRefusal → Type 0
IsReadBy None octets found = found ≡ Err Partial
IsReadBy (Some (Err fault)) octets found = found ≡ Err (Frame fault)
IsReadBy (Some (Ok c)) octets found =
    MatchBool (bytes_eq octets (spelling c)) (IsCarrying c found) (found ≡ Err Partial)

-- octets were read: as the one APDU that they are, or as none
abbrev pub IsApduRead : List ℕ → Result Apdu StepRefusal → Type 0
IsApduRead octets found = IsReadBy (answer_at_front octets) octets found
