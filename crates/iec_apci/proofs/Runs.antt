-- Calls of a feed, in any order.
use Rattle.std.proofs.Common.{◌≡◌, ℕ, List, [], ◌∷◌, ◌++◌, length, drop, Option, Some, None, Ok}
use Rattle.std.proofs.Common.{Err, refl, sym, ◌∙◌, ap, subst, arith, append_assoc, length-append}
use Rattle.iec_apci.specs.Apdu.{ApduContent, apdu}
use Rattle.iec_apci.specs.Stream.{answer_at_front, Ending, Open, Faulty, Reading, reading_with_first, reading}
use Rattle.iec_apci.specs.Calls.{ending_after_piece, answer, ending_behind, ending_after_answer, reading_of_ending}
use Rattle.iec_apci.specs.Calls.{Call, Feed, Next, answers, nth_answer, count_after_answer, stream_answers}
use Rattle.iec_apci.specs.Laws.{joined_readings}
use Rattle.iec_apci.proofs.Front.{Shown}
use Rattle.iec_apci.proofs.Streams.{reading_apdu, reading_fault, reading_none, reading-append}

-- these APDUs, and then what is said by what is held back
abbrev after : List ApduContent → Ending → Reading
after before held =
    record { apdus = before ++ (reading_of_ending held).apdus; ending = (reading_of_ending held).ending }

-- of these octets n APDUs were given, and this is held back
record Holds (octets : List ℕ) (n : ℕ) (held : Ending) : Type 0 where
  pub before : List ApduContent
  pub count : length before ≡ n
  pub said : reading octets ≡ after before held

fed_after : (before : List ApduContent) (held : Ending) (piece : List ℕ)
    → joined_readings (after before held) (reading_of_ending (ending_after_piece (reading_of_ending held).ending piece))
    ≡ after before (ending_after_piece held piece)
fed_after before (Open octets) piece =
    let same = reading-append octets piece in
    rw same (rw (append_assoc before (reading octets).apdus
    (reading_of_ending (ending_after_piece (reading octets).ending piece)).apdus) refl)
fed_after before (Faulty f) piece = rw (append_assoc before [] []) refl

fed_holds : (octets : List ℕ) (n : ℕ) (held : Ending) (piece : List ℕ) → Holds octets n held
    → Holds (octets ++ piece) n (ending_after_piece held piece)
fed_holds octets n held piece h = record {
  before = h.before;
  count = h.count;
  said = reading-append octets piece
      ∙ (ap (λ (r : Reading). joined_readings r (reading_of_ending (ending_after_piece r.ending piece))) h.said
      ∙ fed_after h.before held piece);
}

nth_at : (before behind : List ApduContent) (ending : Ending)
    → nth_answer (length before) (before ++ behind) ending ≡ nth_answer 0 behind ending
nth_at [] behind ending = refl
nth_at (c ∷ before) behind ending = nth_at before behind ending

-- what is behind this front
abbrev said_after : List ℕ → Option Shown → Reading
said_after octets None = record { apdus = []; ending = Open octets }
said_after octets (Some (Err f)) = record { apdus = []; ending = Faulty f }
said_after octets (Some (Ok c)) = reading_with_first c (reading (drop (length (apdu c)) octets))

said_front : (octets : List ℕ) (o : Option Shown) → answer_at_front octets ≡ o → reading octets ≡ said_after octets o
said_front octets None h = reading_none octets h
said_front octets (Some (Err f)) h = reading_fault octets f h
said_front octets (Some (Ok c)) h = reading_apdu octets c h

-- an answer is the next APDU of all octets, or how they end; and then what is held back is behind it
record Answered (octets : List ℕ) (n : ℕ) (a : Option Shown) (next : Ending) : Type 0 where
  pub told_so : a ≡ nth_answer n (reading octets).apdus (reading octets).ending
  pub holds : Holds octets (count_after_answer n a) next

first_of : (octets : List ℕ) (o : Option Shown)
    → nth_answer 0 (said_after octets o).apdus (said_after octets o).ending ≡ o
first_of octets None = refl
first_of octets (Some (Err f)) = refl
first_of octets (Some (Ok c)) = refl

nth_same : (n : ℕ) (r s : Reading) → r ≡ s → nth_answer n r.apdus r.ending ≡ nth_answer n s.apdus s.ending
nth_same n r s h = ap (λ (x : Reading). nth_answer n x.apdus x.ending) h

open_told : (octets : List ℕ) (before : List ApduContent) (o : List ℕ) (a : Option Shown)
    → reading octets ≡ after before (Open o) → answer_at_front o ≡ a
    → a ≡ nth_answer (length before) (reading octets).apdus (reading octets).ending
open_told octets before o a said front =
    sym (nth_same (length before) (reading octets) (after before (Open o)) said
    ∙ (nth_at before (reading o).apdus (reading o).ending
    ∙ (nth_same 0 (reading o) (said_after o a) (said_front o a front) ∙ first_of o a)))

push_after : (before : List ApduContent) (c : ApduContent) (r : Reading)
    → joined_readings (record { apdus = before; ending = r.ending }) (reading_with_first c r)
    ≡ record { apdus = (before ++ c ∷ []) ++ r.apdus; ending = r.ending }
push_after before c r = rw (append_assoc before (c ∷ []) r.apdus) refl

open_holds : (octets : List ℕ) (before : List ApduContent) (o : List ℕ) (a : Option Shown)
    → reading octets ≡ after before (Open o) → answer_at_front o ≡ a
    → Holds octets (count_after_answer (length before) a) (ending_behind o a)
open_holds octets before o None said front = record { before = before; count = refl; said = said }
open_holds octets before o (Some (Err f)) said front = record {
  before = before;
  count = refl;
  said = said ∙ ap (λ (r : Reading). record { apdus = before ++ r.apdus; ending = r.ending }) (reading_fault o f front);
}
open_holds octets before o (Some (Ok c)) said front = record {
  before = before ++ c ∷ [];
  count = omega (arith, length-append before (c ∷ []));
  said = said ∙ (ap (λ (r : Reading). record { apdus = before ++ r.apdus; ending = r.ending }) (reading_apdu o c front)
      ∙ push_after before c (reading (drop (length (apdu c)) o)));
}

answered_at : (octets : List ℕ) (before : List ApduContent) (held : Ending) → reading octets ≡ after before held
    → Answered octets (length before) (answer held) (ending_after_answer held)
answered_at octets before (Open o) said = record {
  told_so = open_told octets before o (answer_at_front o) said refl;
  holds = open_holds octets before o (answer_at_front o) said refl;
}
answered_at octets before (Faulty f) said = record {
  told_so =
      sym (nth_same (length before) (reading octets) (after before (Faulty f)) said ∙ nth_at before [] (Faulty f));
  holds = record { before = before; count = refl; said = said };
}

answered : (octets : List ℕ) (n : ℕ) (held : Ending) → Holds octets n held
    → Answered octets n (answer held) (ending_after_answer held)
answered octets n held h =
    let P : ℕ → Type 0 = λ k. Answered octets k (answer held) (ending_after_answer held) in
    subst P h.count (answered_at octets h.before held h.said)

told_on : (octets : List ℕ) (n : ℕ) (held : Ending) (calls : List Call) → Holds octets n held
    → answers held calls ≡ stream_answers octets n calls
told_on octets n held [] h = refl
told_on octets n held (Feed piece ∷ calls) h =
    told_on (octets ++ piece) n (ending_after_piece held piece) calls (fed_holds octets n held piece h)
told_on octets n held (Next ∷ calls) h =
    let a = answered octets n held h in
    ap (λ t. answer held ∷ t)
    (told_on octets (count_after_answer n (answer held)) (ending_after_answer held) calls a.holds)
    ∙ ap (λ x. x ∷ stream_answers octets (count_after_answer n x) calls) a.told_so

-- the answers of a new feed are those of the stream
pub told_all : (calls : List Call) → answers (Open []) calls ≡ stream_answers [] 0 calls
told_all calls = told_on [] 0 (Open []) calls (record { before = []; count = refl; said = refl })
