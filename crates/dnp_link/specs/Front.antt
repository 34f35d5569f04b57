-- What the tests of a front found.
use Rattle.std.specs.Prelude.{◌≡◌, ℕ, ◌<◌, ◌≤◌, List, length, drop, Option, Some, None, if◌then◌else◌}
use Rattle.dnp_link.specs.declared.event.SkipReason.TheVariants.{BadBlockCrc}
use Rattle.dnp_link.specs.declared.reading.Front.{Front}
use Rattle.dnp_link.specs.declared.reading.Front.TheVariants.{Nothing, Skip, Whole}
use Rattle.dnp_link.specs.Frame.{block_count, frame_length, are_sealed}
use Rattle.dnp_link.specs.Stream.{Event, Framed, Dropped, content_at, user_length}

-- the event at octets with this front: where it is that of a whole frame, the data blocks decide
abbrev pub event_shown_by : Front → List ℕ → Option Event
event_shown_by Nothing octets = None
event_shown_by (Skip why) octets = Some (Dropped why)
event_shown_by (Whole len) octets =
    if are_sealed (block_count len) len (drop 10 octets) then Some (Framed (content_at octets))
    else Some (Dropped BadBlockCrc)

-- what is known of octets with this front: there are fewer than the longest frame has; there is one; or LENGTH tells
-- this many octets of user data, and the whole frame is there
abbrev pub Tells : Front → List ℕ → Type 0
Tells Nothing octets = length octets < 292
Tells (Skip why) octets = 1 ≤ length octets
Tells (Whole len) octets = (len ≤ 250) × (len ≡ user_length octets) × (frame_length len ≤ length octets)
