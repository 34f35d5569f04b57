-- Calls of a feed, one after another.
use Rattle.std.specs.Prelude.{ℕ, zero, suc, ◌<◌, List, [], ◌∷◌, ◌++◌, length, drop, Option, Some, None, Result, Ok, Err}
use Rattle.iec_apci.specs.declared.fault.ApciFault.{ApciFault}
use Rattle.iec_apci.specs.Apdu.{ApduContent, apdu}
use Rattle.iec_apci.specs.Stream.{Ending, Open, Faulty, Reading, answer_at_front, reading}

-- what a feed holds back once it was given more octets: after a fault nothing changes
abbrev pub ending_after_piece : Ending → List ℕ → Ending
ending_after_piece (Open octets) piece = Open (octets ++ piece)
ending_after_piece (Faulty f) piece = Faulty f

-- what a feed answers: after a fault the same fault for ever
abbrev pub answer : Ending → Option (Result ApduContent ApciFault)
answer (Open octets) = answer_at_front octets
answer (Faulty f) = Some (Err f)

-- what is behind the octets that an answer uses up
abbrev pub ending_behind : List ℕ → Option (Result ApduContent ApciFault) → Ending
ending_behind octets None = Open octets
ending_behind octets (Some (Ok c)) = Open (drop (length (apdu c)) octets)
ending_behind octets (Some (Err f)) = Faulty f

-- what a feed holds back once it answered
abbrev pub ending_after_answer : Ending → Ending
ending_after_answer (Open octets) = ending_behind octets (answer_at_front octets)
ending_after_answer (Faulty f) = Faulty f

-- what is said by what a feed holds back
abbrev pub reading_of_ending : Ending → Reading
reading_of_ending (Open octets) = reading octets
reading_of_ending (Faulty f) = record { apdus = []; ending = Faulty f }

-- after a fault
abbrev pub IsFaulty : Ending → Type 0
IsFaulty (Open octets) = ⊥
IsFaulty (Faulty f) = Unit {0}

-- fewer octets than the longest APDU has
abbrev pub IsShort : Ending → Type 0
IsShort (Open octets) = length octets < 255
IsShort (Faulty f) = Unit {0}

-- a feed that met this fault, if any, and else holds back these octets
abbrev pub ending_of : Option ApciFault → List ℕ → Ending
ending_of None octets = Open octets
ending_of (Some f) octets = Faulty f

-- a call
pub data Call : Type 0 where
  Feed : List ℕ → Call
  Next : Call

-- the answers of a feed that holds this back, to these calls
abbrev pub answers : Ending → List Call → List (Option (Result ApduContent ApciFault))
answers held [] = []
answers held (Feed piece ∷ calls) = answers (ending_after_piece held piece) calls
answers held (Next ∷ calls) = answer held ∷ answers (ending_after_answer held) calls

-- past the last APDU comes nothing yet, or the fault
abbrev pub answer_past_all : Ending → Option (Result ApduContent ApciFault)
answer_past_all (Open octets) = None
answer_past_all (Faulty f) = Some (Err f)

-- the n-th of these APDUs, counted from 0, and past them how the stream ends
abbrev pub nth_answer : ℕ → List ApduContent → Ending → Option (Result ApduContent ApciFault)
nth_answer n [] ending = answer_past_all ending
nth_answer zero (c ∷ cs) ending = Some (Ok c)
nth_answer (suc n) (c ∷ cs) ending = nth_answer n cs ending

-- how many APDUs were given, once this was answered
abbrev pub count_after_answer : ℕ → Option (Result ApduContent ApciFault) → ℕ
count_after_answer n None = n
count_after_answer n (Some (Ok c)) = suc n
count_after_answer n (Some (Err f)) = n

-- what a stream says to the same calls where these octets came before and n APDUs were given: each answer is the
-- n-th APDU of all octets so far, or how they end
abbrev pub stream_answers : List ℕ → ℕ → List Call → List (Option (Result ApduContent ApciFault))
stream_answers octets n [] = []
stream_answers octets n (Feed piece ∷ calls) = stream_answers (octets ++ piece) n calls
stream_answers octets n (Next ∷ calls) =
    let a = nth_answer n (reading octets).apdus (reading octets).ending in
    a ∷ stream_answers octets (count_after_answer n a) calls
