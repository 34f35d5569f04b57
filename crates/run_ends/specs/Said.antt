-- What the octets on a line say, as the link reads them.
use Rattle.std.specs.Prelude.{◌≡◌, ℕ, ◌+◌, ◌%◌, false, List, [], ◌∷◌, ◌++◌, Option, Some}
use Rattle.std.specs.List.{AllByRecursion}
use Rattle.dnp_link.specs.Frame.{frame, frame_content}
use Rattle.dnp_link.specs.Stream.{Event, Framed, Dropped, reading}
use Rattle.dnp_transport.specs.Segment.{sequence}
use Rattle.run_ends.specs.declared.sent.Sent.{Sent}
use Rattle.run_ends.specs.declared.sent.Sent.TheVariants as sents
use Rattle.run_ends.specs.declared.sent.Sending.{Sending}
use Rattle.run_ends.specs.Sent.{is_cut_off, sendings}

-- a frame, whose SOURCE is the one address, and whose DESTINATION is the other
abbrev pub GoesFrom : ℕ → ℕ → Event → Type 0
GoesFrom own peer (Framed c) = (c.source ≡ own) × (c.destination ≡ peer)
GoesFrom own peer (Dropped why) = ⊥

-- a reply of the link is a frame that goes so, without user data
abbrev pub IsReplyFrom : ℕ → ℕ → Sent → Type 0
IsReplyFrom own peer (sents.Reply octets) = (control : ℕ) × (octets ≡ frame (frame_content control peer own []))
IsReplyFrom own peer _ = Unit {0}

-- each of the replies among what was sent is
abbrev pub AreRepliesFrom : ℕ → ℕ → List (ℕ × Sending) → Type 0
AreRepliesFrom own peer past = AllByRecursion (λ (sent : ℕ × Sending). IsReplyFrom own peer sent.1.what) past

-- the segment that user data are; none where there are none
abbrev pub segment_in : List ℕ → List (List ℕ)
segment_in [] = []
segment_in (header ∷ octets) = (header ∷ octets) ∷ []

-- the segments that frames carry, in their order
abbrev pub segments_said : List Event → List (List ℕ)
segments_said [] = []
segments_said (Framed c ∷ more) = segment_in c.user ++ segments_said more
segments_said (Dropped why ∷ more) = segments_said more

-- the sequence numbers of segments are this and those that follow, modulo 64
abbrev pub AreNumbered : ℕ → List (List ℕ) → Type 0
AreNumbered number [] = Unit {0}
AreNumbered number (segment ∷ more) = (sequence segment ≡ number % 64) × AreNumbered (number + 1) more

-- octets are frames from the one address to the other, whose segments are numbered from 0 on
pub record AreInTurn (own peer : ℕ) (octets : List ℕ) : Type 0 where
  pub addresses : AllByRecursion (GoesFrom own peer) (reading octets).events
  pub numbers : AreNumbered 0 (segments_said (reading octets).events)

-- so are those that a writer took, where it had taken none at first, and took whole what was sent
abbrev pub SaysInTurn : ℕ → ℕ → Option (List ℕ) → Option (List ℕ) → List (ℕ × Sending) → Type 0
SaysInTurn own peer first now past =
    (octets : List ℕ) → first ≡ Some [] → now ≡ Some octets → is_cut_off (sendings past) ≡ false
    → AreRepliesFrom own peer past → AreInTurn own peer octets
