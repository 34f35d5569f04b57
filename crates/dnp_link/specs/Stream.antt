-- What a stream of octets says: frames, and octets that begin none.
use Rattle.std.specs.Prelude.{ℕ, zero, suc, ◌+◌, ◌-◌, ◌*◌, Bool, false, not, ◌||◌, ◌==◌, nat_lt, List, []}
use Rattle.std.specs.Prelude.{◌∷◌, ◌++◌, length, take, drop, slice_index, Option, Some, None, if◌then◌else◌}
use Rattle.dnp_link.specs.Frame.{FrameContent, block_count, frame_length, is_sealed, are_sealed, user_data_in_blocks}
use Rattle.dnp_link.specs.declared.event.SkipReason.{SkipReason}
use Rattle.dnp_link.specs.declared.event.SkipReason.TheVariants.{BadStart, BadLength, BadHeaderCrc, BadBlockCrc}

-- a frame, or an octet that begins none, and why
pub data Event : Type 0 where
  Framed : FrameContent → Event
  Dropped : SkipReason → Event

-- the octets that the event uses up
abbrev pub octets_used_by : Event → ℕ
octets_used_by (Framed c) = frame_length (length c.user)
octets_used_by (Dropped why) = 1

-- the start octets, 05 and 64 hex, as far as they are there
abbrev pub is_bad_start : List ℕ → Bool
is_bad_start [] = false
is_bad_start (first ∷ []) = not (first == 5)
is_bad_start (first ∷ second ∷ octets) = not (first == 5) || not (second == 100)

-- the octets of user data that LENGTH tells
abbrev pub user_length : List ℕ → ℕ
user_length octets = slice_index octets 2 - 5

-- what the octets carry as a frame
abbrev pub content_at : List ℕ → FrameContent
content_at octets = record {
  control = slice_index octets 3;
  destination = slice_index octets 4 + 256 * slice_index octets 5;
  source = slice_index octets 6 + 256 * slice_index octets 7;
  user = user_data_in_blocks (block_count (user_length octets)) (user_length octets) (drop 10 octets);
}

-- what the front of the octets shows, if it shows anything yet: the first cause of refusal, or a frame
unfoldable pub event_at_front : List ℕ → Option Event
event_at_front octets =
    if is_bad_start octets then Some (Dropped BadStart)
    else if nat_lt (length octets) 3 then None
    else if nat_lt (slice_index octets 2) 5 then Some (Dropped BadLength)
    else if nat_lt (length octets) 10 then None
    else if not (is_sealed (take 10 octets)) then Some (Dropped BadHeaderCrc)
    else if nat_lt (length octets) (frame_length (user_length octets)) then None
    else if not (are_sealed (block_count (user_length octets)) (user_length octets) (drop 10 octets))
    then Some (Dropped BadBlockCrc)
    else Some (Framed (content_at octets))

-- the octets that it uses up, if any
abbrev pub octets_used_if_any : Option Event → ℕ
octets_used_if_any None = 0
octets_used_if_any (Some e) = octets_used_by e

-- events one after another, and the octets behind them, which show nothing yet
pub record Reading : Type 0 where
  pub events : List Event
  pub rest : List ℕ

-- an event, and what comes behind it
abbrev pub reading_with_first : Event → Reading → Reading
reading_with_first e r = record { events = e ∷ r.events; rest = r.rest }

-- in at most n events
abbrev pub reading_within : ℕ → List ℕ → Reading
reading_within zero octets = record { events = []; rest = octets }
reading_within (suc n) octets = elim (event_at_front octets) [
  | None ↦ record { events = []; rest = octets }
  | Some e ↦ reading_with_first e (reading_within n (drop (octets_used_by e) octets))
]

-- what a stream of octets says: the event that its front shows, and then what the octets behind it say. Each
-- event uses up at least one octet
unfoldable pub reading : List ℕ → Reading
reading octets = reading_within (length octets) octets

-- an event, and then what the octets behind it say; without an event these octets wait
abbrev pub reading_with_front : Option Event → List ℕ → Reading
reading_with_front None behind = record { events = []; rest = behind }
reading_with_front (Some e) behind = reading_with_first e (reading behind)

-- one reading, and then another
abbrev pub joined_readings : Reading → Reading → Reading
joined_readings a b = record { events = a.events ++ b.events; rest = b.rest }
