-- What a stream of octets brings a station: the replies that it owes, and the fragments, and the responses, that
-- come to it (IEEE Std 1815-2012, clauses 4, 8 and 9).
use Rattle.std.specs.Prelude.{ℕ, List, [], ◌∷◌, Option, Some, None, filter_map, option_map, if◌then◌else◌}
use Rattle.std.specs.List.{cons_option}
use Rattle.std.specs.Result.{result_ok}
use Rattle.dnp_link.specs.Frame.{FrameContent}
use Rattle.dnp_link.specs.Stream.{Event, Framed, Dropped, reading}
use Rattle.dnp_link.specs.Station.{Station}
use Rattle.dnp_link.specs.Secondary.{decision_on, reply_frame, station_after}
use Rattle.dnp_transport.specs.Fragment.{fragments_of}
use Rattle.dnp_app.specs.Response.{Fragment, response_of}

-- the frame that an event is, if it is one
abbrev pub frame_in : Event → Option FrameContent
frame_in (Framed c) = Some c
frame_in (Dropped why) = None

-- the frames among events, in order
abbrev pub frames_of : List Event → List FrameContent
frames_of events = filter_map frame_in events

-- the station at `own` of a link to the primary station at `peer`, which was not reset yet
abbrev pub station_at : ℕ → ℕ → Station
station_at own peer = record { own = own; peer = peer; expected = None }

-- the station after these frames, which come one after another
abbrev pub station_after_all : Station → List FrameContent → Station
station_after_all s [] = s
station_after_all s (c ∷ more) = station_after_all (station_after s c) more

-- the reply that the station owes for a frame, if any
abbrev pub reply_by : Station → FrameContent → Option (List ℕ)
reply_by s c = option_map (reply_frame s) (decision_on s c).reply

-- the replies that the station owes for these frames, which come one after another
abbrev pub replies_by : Station → List FrameContent → List (List ℕ)
replies_by s [] = []
replies_by s (c ∷ more) = cons_option (reply_by s c) (replies_by (station_after s c) more)

-- the user data of a frame, where the station delivers it
abbrev pub user_data_by : Station → FrameContent → Option (List ℕ)
user_data_by s c = if (decision_on s c).deliver then Some c.user else None

-- the user data that the station delivers of these frames, which come one after another
abbrev pub delivered_user_data : Station → List FrameContent → List (List ℕ)
delivered_user_data s [] = []
delivered_user_data s (c ∷ more) = cons_option (user_data_by s c) (delivered_user_data (station_after s c) more)

-- the replies that the station at `own`, which was not reset yet, owes the primary station at `peer` for the
-- frames of a stream
abbrev pub stream_replies : ℕ → ℕ → List ℕ → List (List ℕ)
stream_replies own peer octets = replies_by (station_at own peer) (frames_of (reading octets).events)

-- the fragments of the segments that the frames of a stream deliver to the station at `own`, which was not
-- reset yet, from the primary station at `peer`
abbrev pub stream_fragments : ℕ → ℕ → List ℕ → List (List ℕ)
stream_fragments own peer octets =
    fragments_of (delivered_user_data (station_at own peer) (frames_of (reading octets).events))

-- the response of an outstation that octets are, if they are one
unfoldable pub response_at : ℕ → List ℕ → Option Fragment
response_at outstation octets = result_ok (response_of outstation octets)

-- the responses of an outstation among the fragments of a stream
abbrev pub stream_responses : ℕ → ℕ → ℕ → List ℕ → List Fragment
stream_responses outstation own peer octets = filter_map (response_at outstation) (stream_fragments own peer octets)
