-- What one frame brings a station, by all frames before it.
use Rattle.std.specs.Prelude.{ℕ, Bool, ◌&&◌, List, [], ◌∷◌, ◌++◌, reverse, filter}
use Rattle.std.specs.Prelude.{Option, None, option_and_then, if◌then◌else◌}
use Rattle.std.specs.List.{cons_option}
use Rattle.dnp_link.specs.Frame.{FrameContent}
use Rattle.dnp_link.specs.Station.{Station}
use Rattle.dnp_link.specs.Secondary.{decision_on}
use Rattle.dnp_transport.specs.Segment.{is_whole, may_begin}
use Rattle.dnp_transport.specs.Fragment.{fragment_ended_by_newest}
use Rattle.dnp_receive.specs.Delivery.{station_at, station_after_all, reply_by, user_data_by, delivered_user_data}

-- the fragment that ends with a segment behind these
abbrev pub fragment_ended_by : List (List ℕ) → List ℕ → Option (List ℕ)
fragment_ended_by before segment =
    if is_whole segment then fragment_ended_by_newest (segment ∷ reverse (filter is_whole before)) else None

-- the reply that the station at `own` owes the primary station at `peer` for a frame behind these
abbrev pub reply_owed : ℕ → ℕ → List FrameContent → FrameContent → Option (List ℕ)
reply_owed own peer before c = reply_by (station_after_all (station_at own peer) before) c

-- the fragment that a frame behind these completes: the one that ends with its user data, behind all that was
-- delivered before; none where its user data isn't delivered
abbrev pub fragment_completed : ℕ → ℕ → List FrameContent → FrameContent → Option (List ℕ)
fragment_completed own peer before c =
    let delivered = delivered_user_data (station_at own peer) before in
    option_and_then (fragment_ended_by delivered) (user_data_by (station_after_all (station_at own peer) before) c)

-- a station delivers the frame's user data, and a fragment may begin with it
abbrev pub may_begin_fragment : Station → FrameContent → Bool
may_begin_fragment s c = (decision_on s c).deliver && may_begin c.user

-- the replies owed for frames that come one after another behind those before them
abbrev pub replies_owed : ℕ → ℕ → List FrameContent → List FrameContent → List (List ℕ)
replies_owed own peer before [] = []
replies_owed own peer before (c ∷ more) =
    cons_option (reply_owed own peer before c) (replies_owed own peer (before ++ c ∷ []) more)

-- the fragments that such frames complete
abbrev pub fragments_completed : ℕ → ℕ → List FrameContent → List FrameContent → List (List ℕ)
fragments_completed own peer before [] = []
fragments_completed own peer before (c ∷ more) =
    cons_option (fragment_completed own peer before c) (fragments_completed own peer (before ++ c ∷ []) more)
