-- What a stream of octets says (IEC 60870-5-104, clause 5): APDUs one after another, up to the first fault.
use Rattle.std.specs.Prelude.{ℕ, zero, suc, ◌+◌, ◌*◌, ◌/◌, ◌%◌, not, ◌||◌, ◌==◌}
use Rattle.std.specs.Prelude.{nat_lt, List, [], ◌∷◌, length, take, drop, slice_index, Option}
use Rattle.std.specs.Prelude.{Some, None, option_map, Result, Ok, Err, if◌then◌else◌}
use Rattle.iec_apci.specs.declared.apdu.Signal.{Signal}
use Rattle.iec_apci.specs.declared.apdu.Signal.TheVariants.{StartAct, StartCon, StopAct, StopCon, TestAct, TestCon}
use Rattle.iec_apci.specs.declared.fault.ApciFault.{ApciFault}
use Rattle.iec_apci.specs.declared.fault.ApciFault.TheVariants as faults
use Rattle.iec_apci.specs.Apdu.{ApduContent, Information, Supervisory, Unnumbered, code_of, start_octet, apdu}

-- the control function with this first control octet
abbrev pub signal_of : ℕ → Option Signal
signal_of n =
    if n == code_of StartAct then Some StartAct
    else if n == code_of StartCon then Some StartCon
    else if n == code_of StopAct then Some StopAct
    else if n == code_of StopCon then Some StopCon
    else if n == code_of TestAct then Some TestAct
    else if n == code_of TestCon then Some TestCon
    else None

-- two octets, the low one first, as a number
abbrev pub word_at : ℕ → List ℕ → ℕ
word_at i octets = slice_index octets i + 256 * slice_index octets (i + 1)

-- what the octets behind the length carry, if they are right: the low bit of the third control octet is 0; the
-- low bit of the first is 0 in I format alone, and the other formats have four octets
unfoldable pub content_of : List ℕ → Option ApduContent
content_of octets =
    let first = word_at 0 octets in
    let second = word_at 2 octets in
    if second % 2 == 1 then None
    else if first % 2 == 0 then Some (Information (first / 2) (second / 2) (drop 4 octets))
    else if not (length octets == 4) then None
    else if first == 1 then Some (Supervisory (second / 2))
    else if not (second == 0) then None
    else option_map Unnumbered (signal_of first)

-- a right control field, or the fault
abbrev pub content_or_fault : Option ApduContent → Result ApduContent ApciFault
content_or_fault None = Err faults.Control
content_or_fault (Some c) = Ok c

-- what the front of the octets shows, if it shows anything yet: an APDU, or the first fault
unfoldable pub answer_at_front : List ℕ → Option (Result ApduContent ApciFault)
answer_at_front [] = None
answer_at_front (start ∷ []) = if start == start_octet then None else Some (Err faults.Start)
answer_at_front (start ∷ size ∷ octets) =
    if not (start == start_octet) then Some (Err faults.Start)
    else if nat_lt size 4 || nat_lt 253 size then Some (Err faults.Length)
    else if nat_lt (length octets) size then None
    else Some (content_or_fault (content_of (take size octets)))

-- how a stream ends so far: with octets that show nothing yet, or with a fault for ever
pub data Ending : Type 0 where
  Open : List ℕ → Ending
  Faulty : ApciFault → Ending

-- APDUs one after another, and what is behind them
pub record Reading : Type 0 where
  pub apdus : List ApduContent
  pub ending : Ending

-- an APDU, and what comes behind it
abbrev pub reading_with_first : ApduContent → Reading → Reading
reading_with_first c r = record { apdus = c ∷ r.apdus; ending = r.ending }

-- in at most n steps
abbrev pub reading_within : ℕ → List ℕ → Reading
reading_within zero octets = record { apdus = []; ending = Open octets }
reading_within (suc n) octets = elim (answer_at_front octets) [
  | None ↦ record { apdus = []; ending = Open octets }
  | Some r ↦ elim r [
    | Err f ↦ record { apdus = []; ending = Faulty f }
    | Ok c ↦ reading_with_first c (reading_within n (drop (length (apdu c)) octets))
  ]
]

-- what a stream of octets says: the APDU at its front, and then what the octets behind it say; the first fault
-- ends it for ever; octets that show neither wait for more
unfoldable pub reading : List ℕ → Reading
reading octets = reading_within (length octets) octets
