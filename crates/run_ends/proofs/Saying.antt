-- What the octets of a line say.
use Rattle.std.proofs.Common.{◌≡◌, ℕ, zero, suc, ◌+◌, ◌*◌, ◌%◌, Bool, true, false, not, ◌||◌}
use Rattle.std.proofs.Common.{◌==◌, ◌&&◌, List, [], ◌∷◌, ◌++◌, length, map, take, drop, Option}
use Rattle.std.proofs.Common.{Some, None, refl, sym, ap, subst, ◌∙◌, append_assoc, arith}
use Rattle.std.specs.Prelude.{if◌then◌else◌}
use Rattle.std.specs.List.{AllByRecursion, range_with_len}
use Rattle.std.specs.Io.KnownBytes.{Appends}
use Rattle.std.proofs.lemmas.List.{append-nil, length-append}
use Rattle.dnp_app.specs.Requests.{octets_of}
use Rattle.dnp_link.specs.Frame.{FrameContent, frame, frame_content, header, octets_with_crc}
use Rattle.dnp_link.specs.Stream.{Event, Framed, Dropped, Reading, joined_readings, reading}
use Rattle.dnp_link.proofs.Round.{reading-frame}
use Rattle.dnp_transport.specs.Cut.{header_of, segment_count, segments_from, segments_of}
use Rattle.dnp_transport.specs.Segment.{sequence}
use Rattle.run_ends.specs.Framed.{framed, status_request}
use Rattle.run_ends.specs.Said.{AreInTurn, AreNumbered, AreRepliesFrom, GoesFrom, IsReplyFrom, SaysInTurn, segment_in, segments_said}
use Rattle.run_ends.specs.Sent.{TookAll, is_cut_off, one_segment, part_of, segments_in, segments_sent, sendings, sent_octets}
use Rattle.run_ends.proofs.Follow.{length-segments}
use Rattle.run_ends.specs.declared.sent.Sent.{Sent}
use Rattle.run_ends.specs.declared.sent.Sent.TheVariants as sents
use Rattle.run_ends.specs.declared.sent.Sending.{Sending}

abbrev after_events : List Event → List ℕ → Reading
after_events events rest = record { events = events; rest = rest }

-- octets are frames from the one address to the other, with so many segments, which are numbered from this number on
record Says (own peer first count : ℕ) (octets : List ℕ) : Type 0 where
  events : List Event
  is : (behind : List ℕ) → reading (octets ++ behind) ≡ joined_readings (after_events events []) (reading behind)
  go : AllByRecursion (GoesFrom own peer) events
  numbered : AreNumbered first (segments_said events)
  counted : length (segments_said events) ≡ count

all_then : {A : Type 0} (P : A → Type 0) (a b : List A) → AllByRecursion P a → AllByRecursion P b
    → AllByRecursion P (a ++ b)
all_then P [] b first more = more
all_then P (x ∷ a) b first more = (first.0, all_then P a b first.1 more)

said_then : (a b : List Event) → segments_said (a ++ b) ≡ segments_said a ++ segments_said b
said_then [] b = refl
said_then (Framed c ∷ a) b =
    ap (λ (l : List (List ℕ)). segment_in c.user ++ l) (said_then a b)
    ∙ sym (append_assoc (segment_in c.user) (segments_said a) (segments_said b))
said_then (Dropped why ∷ a) b = said_then a b

numbered_then : (n : ℕ) (a b : List (List ℕ)) → AreNumbered n a → AreNumbered (n + length a) b → AreNumbered n (a ++ b)
numbered_then n [] b first more = subst (λ (m : ℕ). AreNumbered m b) (omega arith) more
numbered_then n (x ∷ a) b first more =
    (first.0, numbered_then (n + 1) a b first.1 (subst (λ (m : ℕ). AreNumbered m b) (omega arith) more))

says_none : (own peer first : ℕ) → Says own peer first 0 []
says_none own peer first =
    record { events = []; is = λ behind. refl; go = tt; numbered = tt; counted = refl }

says_then : (own peer first n m : ℕ) (a b : List ℕ) → Says own peer first n a → Says own peer (first + n) m b
    → Says own peer first (n + m) (a ++ b)
says_then own peer first n m a b one more = record {
  events = one.events ++ more.events;
  is = λ behind.
      ap reading (append_assoc a b behind)
      ∙ (one.is (b ++ behind)
      ∙ (ap (joined_readings (after_events one.events [])) (more.is behind)
      ∙ ap (λ (l : List Event). after_events l (reading behind).rest)
      (sym (append_assoc one.events more.events (reading behind).events))));
  go = all_then (GoesFrom own peer) one.events more.events one.go more.go;
  numbered =
      subst (AreNumbered first) (sym (said_then one.events more.events))
      (numbered_then first (segments_said one.events) (segments_said more.events) one.numbered
      (subst (λ (k : ℕ). AreNumbered (first + k) (segments_said more.events)) (sym one.counted) more.numbered));
  counted =
      ap (λ (l : List (List ℕ)). length l) (said_then one.events more.events)
      ∙ omega (arith, length-append (segments_said one.events) (segments_said more.events), one.counted, more.counted);
}

-- one frame
says_frame : (own peer control first : ℕ) (user : List ℕ) → AreNumbered first (segment_in user)
    → Says own peer first (length (segment_in user)) (frame (frame_content control peer own user))
says_frame own peer control first user numbered = record {
  events = Framed (frame_content control peer own user) ∷ [];
  is = λ behind. reading-frame (frame_content control peer own user) behind;
  go = ((refl, refl), tt);
  numbered = subst (AreNumbered first) (sym (append-nil (segment_in user))) numbered;
  counted = ap (λ (l : List (List ℕ)). length l) (append-nil (segment_in user));
}

-- without user data
says_bare : (own peer control first : ℕ) → Says own peer first 0 (frame (frame_content control peer own []))
says_bare own peer control first = says_frame own peer control first [] tt

bare_is : (own peer : ℕ) → frame (frame_content 201 peer own []) ≡ status_request own peer
unfolding frame
bare_is own peer = append-nil (octets_with_crc (header (frame_content 201 peer own [])))

-- a segment isn't empty
abbrev HasHeader : List ℕ → Type 0
HasHeader [] = ⊥
HasHeader (header ∷ octets) = Unit {0}

says_framed : (own peer first : ℕ) (segments : List (List ℕ)) → AreNumbered first segments
    → AllByRecursion HasHeader segments → Says own peer first (length segments) (framed own peer segments)
says_framed own peer first [] numbered have = says_none own peer first
says_framed own peer first ([] ∷ more) numbered have = absurd have.0
says_framed own peer first ((x ∷ xs) ∷ more) numbered have =
    let one : 1 + length more ≡ suc (length more) = omega arith in
    subst (λ (m : ℕ). Says own peer first m (framed own peer ((x ∷ xs) ∷ more))) one
    (says_then own peer first 1 (length more) (frame (frame_content 196 peer own (x ∷ xs))) (framed own peer more)
    (says_frame own peer 196 first (x ∷ xs) (numbered.0, tt)) (says_framed own peer (first + 1) more numbered.1 have.1))

-- the segments of a fragment, behind so many others
number_of : (fin fir : Bool) (n : ℕ) → header_of fin fir n % 64 ≡ n % 64
number_of true true n = omega arith
number_of true false n = omega arith
number_of false true n = omega arith
number_of false false n = omega arith

abbrev segment_at : (fin fir : ℕ → Bool) (rest : ℕ → List ℕ) (n k : ℕ) → List ℕ
segment_at fin fir rest n k = header_of (fin k) (fir k) (n % 64 + k) ∷ rest k

numbered_at : (fin fir : ℕ → Bool) (rest : ℕ → List ℕ) (n k count : ℕ)
    → AreNumbered (n + k) (map (segment_at fin fir rest n) (range_with_len k count))
numbered_at fin fir rest n k zero = tt
numbered_at fin fir rest n k (suc count) = (
  number_of (fin k) (fir k) (n % 64 + k) ∙ omega arith,
  subst (λ (m : ℕ). AreNumbered m (map (segment_at fin fir rest n) (range_with_len (k + 1) count))) (omega arith)
      (numbered_at fin fir rest n (k + 1) count),
)

have_headers : (fin fir : ℕ → Bool) (rest : ℕ → List ℕ) (n k count : ℕ)
    → AllByRecursion HasHeader (map (segment_at fin fir rest n) (range_with_len k count))
have_headers fin fir rest n k zero = tt
have_headers fin fir rest n k (suc count) = (tt, have_headers fin fir rest n (k + 1) count)

says_segments : (own peer n : ℕ) (fragment : List ℕ)
    → Says own peer n (segment_count (length fragment)) (framed own peer (segments_of fragment (n % 64)))
unfolding segments_from
says_segments own peer n fragment =
    let count : ℕ = segment_count (length fragment) in
    let fin : ℕ → Bool = λ k. k + 1 == count in
    let fir : ℕ → Bool = λ k. true && (k == 0) in
    let rest : ℕ → List ℕ = λ k. take 249 (drop (249 * k) fragment) in
    let segments : List (List ℕ) = map (segment_at fin fir rest n) (range_with_len 0 count) in
    subst (λ (m : ℕ). Says own peer n m (framed own peer segments))
    (length-segments fragment (n % 64))
    (says_framed own peer n segments
    (subst (λ (m : ℕ). AreNumbered m segments) (omega arith) (numbered_at fin fir rest n 0 count))
    (have_headers fin fir rest n 0 count))

-- what was sent, behind so many segments
says_sent : (own peer n : ℕ) (what : Sent) → IsReplyFrom own peer what
    → Says own peer n (segments_in what) (sent_octets own peer n what)
says_sent own peer n (sents.Reply octets) is =
    subst (Says own peer n 0) (sym is.1) (says_bare own peer is.0 n)
says_sent own peer n sents.Status is = subst (Says own peer n 0) (bare_is own peer) (says_bare own peer 201 n)
says_sent own peer n (sents.Confirm octets) is = says_segments own peer n octets
says_sent own peer n (sents.Request request) is = says_segments own peer n (one_segment (octets_of request))

-- what is known at first is known on
known_on : (own peer : ℕ) (past : List (ℕ × Sending)) → TookAll own peer (Some []) None past → ⊥
known_on own peer [] took = absurd (cc took)
known_on own peer (sent ∷ past) took = by _ (known_on own peer past) took.0 took.1.0 took.1.1.1
  where
    by : (octets : List ℕ) → (TookAll own peer (Some []) None past → ⊥) → (mid : Option (List ℕ))
        → TookAll own peer (Some []) mid past → Appends mid None octets → ⊥
    by octets on None before more = on before
    by octets on (Some known) before more = more

says_all : (own peer : ℕ) (past : List (ℕ × Sending)) (octets : List ℕ)
    → TookAll own peer (Some []) (Some octets) past → is_cut_off (sendings past) ≡ false
    → AreRepliesFrom own peer past → Says own peer 0 (segments_sent past) octets
says_all own peer [] octets took whole replies =
    subst (Says own peer 0 0) (sym (some_is octets [] took)) (says_none own peer 0)
  where
    some_is : (a b : List ℕ) → ◌≡◌ {A = Option (List ℕ)} (Some a) (Some b) → a ≡ b
    some_is a b is = cc is
says_all own peer (sent ∷ past) octets took whole replies =
    by (λ known before uncut. says_all own peer past known before uncut replies.1) sent.1.what sent.1.whole took.0 took.1.0
    took.1.1.0 took.1.1.1 whole replies.0
  where
    none_before : segments_sent past ≡ 0 + segments_sent past
    none_before = omega arith

    by : ((known : List ℕ) → TookAll own peer (Some []) (Some known) past → is_cut_off (sendings past) ≡ false
        → Says own peer 0 (segments_sent past) known)
        → (what : Sent) (w : Bool) (mid : Option (List ℕ)) → TookAll own peer (Some []) mid past → (count : ℕ)
        → Appends mid (Some octets) (part_of w count (sent_octets own peer (segments_sent past) what))
        → (not w || is_cut_off (sendings past)) ≡ false → IsReplyFrom own peer what
        → Says own peer 0 (segments_sent past + (if w then segments_in what else 0)) octets
    by so_far what false mid before count more uncut reply = absurd (cc uncut)
    by so_far what true None before count more uncut reply = absurd (known_on own peer past before)
    by so_far what true (Some known) before count more uncut reply =
        subst (Says own peer 0 (segments_sent past + segments_in what)) (sym more)
        (says_then own peer 0 (segments_sent past) (segments_in what) known _
        (so_far known before uncut)
        (subst (λ (m : ℕ). Says own peer m (segments_in what) (sent_octets own peer (segments_sent past) what)) none_before
        (says_sent own peer (segments_sent past) what reply)))

reading_nil : reading [] ≡ record { events = []; rest = [] }
unfolding reading
reading_nil = refl

-- which is how the link reads them
events_are : (own peer first count : ℕ) (octets : List ℕ) (says : Says own peer first count octets)
    → (reading octets).events ≡ says.events
events_are own peer first count octets says =
    ap (λ (l : List ℕ). (reading l).events) (sym (append-nil octets))
    ∙ (ap (λ (r : Reading). r.events) (says.is [])
    ∙ (ap (λ (r : Reading). says.events ++ r.events) reading_nil ∙ append-nil says.events))

pub says_in_turn : (own peer : ℕ) (first now : Option (List ℕ)) (past : List (ℕ × Sending))
    → TookAll own peer first now past → SaysInTurn own peer first now past
says_in_turn own peer first now past took octets none is whole replies =
    let says =
    says_all own peer past octets
    (subst (λ (before : Option (List ℕ)). TookAll own peer before (Some octets) past) none
    (subst (λ (after : Option (List ℕ)). TookAll own peer first after past) is took)) whole replies in
    let events = events_are own peer 0 (segments_sent past) octets says in
    record {
      addresses = subst (AllByRecursion (GoesFrom own peer)) (sym events) says.go;
      numbers = subst (λ (l : List Event). AreNumbered 0 (segments_said l)) (sym events) says.numbered;
    }
