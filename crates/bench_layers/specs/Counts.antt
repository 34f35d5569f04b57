-- What a stream of octets shows, in numbers.
use Rattle.std.specs.Prelude.{ℕ, List, length, Option, Some, None, filter_map}
use Rattle.dnp_link.specs.Stream.{Event, Framed, Dropped, reading}
use Rattle.dnp_transport.specs.Fragment.{fragments_of}
use Rattle.bench_layers.specs.declared.meter.Counts.{Counts}

-- the segment that the frame carries, if the event is one
abbrev pub segment_in : Event → Option (List ℕ)
segment_in (Framed c) = Some c.user
segment_in (Dropped why) = None

-- the segments that the frames among events carry, in order
abbrev pub segments_in : List Event → List (List ℕ)
segments_in events = filter_map segment_in events

-- how many octets these are, how many events they show, and how many fragments their frames carry
abbrev pub counts_of : List ℕ → Counts
counts_of octets = record {
  octets = length octets;
  events = length (reading octets).events;
  fragments = length (fragments_of (segments_in (reading octets).events));
}
