-- What was sent on a line.
use Rattle.std.specs.Prelude.{◌≡◌, ℕ, ◌+◌, ◌%◌, Bool, true, false, not, ◌||◌, List}
use Rattle.std.specs.Prelude.{[], ◌∷◌, length, map, min, take, Option, if◌then◌else◌}
use Rattle.std.specs.Io.KnownBytes.{Appends}
use Rattle.dnp_app.specs.Requests.{octets_of}
use Rattle.dnp_transport.specs.Cut.{segment_count, segments_of}
use Rattle.run_log.specs.Follows.{Follows, Known, of_lane}
use Rattle.run_ends.specs.Framed.{framed, status_request}
use Rattle.run_ends.specs.declared.sent.Sent.{Sent}
use Rattle.run_ends.specs.declared.sent.Sent.TheVariants.{Reply, Status, Confirm, Request}
use Rattle.run_ends.specs.declared.sent.Sending.{Sending}

-- the octets that one segment carries, which are all of a request
abbrev pub one_segment : List ℕ → List ℕ
one_segment octets = take (min (length octets) 249) octets

-- its octets, from the master's address to the outstation's, behind so many segments: the sequence number of its first segment is
-- their count, modulo 64 (IEEE Std 1815-2012, clause 8)
abbrev pub sent_octets : ℕ → ℕ → ℕ → Sent → List ℕ
sent_octets own peer before (Reply frame) = frame
sent_octets own peer before Status = status_request own peer
sent_octets own peer before (Confirm octets) = framed own peer (segments_of octets (before % 64))
sent_octets own peer before (Request request) =
    framed own peer (segments_of (one_segment (octets_of request)) (before % 64))

-- how many segments carry it; a frame of the link carries none
abbrev pub segments_in : Sent → ℕ
segments_in (Reply frame) = 0
segments_in Status = 0
segments_in (Confirm octets) = segment_count (length octets)
segments_in (Request request) = segment_count (length (one_segment (octets_of request)))

-- how many were sent so far, the newest first; one that wasn't taken whole doesn't count
abbrev pub segments_sent : List (ℕ × Sending) → ℕ
segments_sent [] = 0
segments_sent (sent ∷ past) = segments_sent past + (if sent.1.whole then segments_in sent.1.what else 0)

-- the whole of octets, or so many at their front
abbrev pub part_of : Bool → ℕ → List ℕ → List ℕ
part_of true count octets = octets
part_of false count octets = take count octets

-- a writer took the octets of what was sent behind so many segments: all of them, or a front of them where it wasn't taken whole
abbrev pub Took : ℕ → ℕ → ℕ → Option (List ℕ) → Option (List ℕ) → Sending → Type 0
Took own peer segments before after sending =
    (count : ℕ) × Appends before after (part_of sending.whole count (sent_octets own peer segments sending.what))

-- a writer that had taken this at first took what was sent from the line's address to its peer's, one after the other, each behind
-- the segments before it; the newest stands first
abbrev pub TookAll : ℕ → ℕ → Option (List ℕ) → Option (List ℕ) → List (ℕ × Sending) → Type 0
TookAll own peer first now [] = now ≡ first
TookAll own peer first now (sent ∷ past) =
    (mid : Option (List ℕ)) × (TookAll own peer first mid past × Took own peer (segments_sent past) mid now sent.1)

-- something of what was sent wasn't taken whole
abbrev pub is_cut_off : List Sending → Bool
is_cut_off [] = false
is_cut_off (sending ∷ past) = not sending.whole || is_cut_off past

-- what was sent, by whichever worker
abbrev pub sendings : List (ℕ × Sending) → List Sending
sendings past = map (λ (sent : ℕ × Sending). sent.1) past

-- a worker that begins to send has sent nothing
abbrev pub IsNew : Known Sending → Type 0
IsNew front = of_lane front.lane front.log ≡ []

-- in the history of the line, of which a worker knew a beginning, it is the newest, and this worker sent nothing else
-- meanwhile
abbrev pub IsSent : Known Sending → Known Sending → Sent → Bool → Type 0
IsSent old new what whole =
    (before : List (ℕ × Sending)) × (Follows old.lane old.log before
    × (new ≡ record { lane = old.lane; log = (old.lane, record { what = what; whole = whole }) ∷ before }))
