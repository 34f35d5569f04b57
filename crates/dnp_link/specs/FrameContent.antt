-- What values of the program say.
use Rattle.std.specs.Prelude.{◌≡◌, ◌-◌, take, drop, replicate, Option, Some, None}
use Rattle.dnp_link.specs.Frame.{FrameContent}
use Rattle.dnp_link.specs.Stream.{Event, Framed, Dropped}
use Rattle.dnp_link.specs.declared.frame.Frame.{Frame}
use Rattle.dnp_link.specs.declared.event.LinkEvent.{LinkEvent}
use Rattle.dnp_link.specs.declared.event.LinkEvent.TheVariants as events

-- what a frame carries: of its array the first octets alone
abbrev pub content : Frame → FrameContent
content f = record { control = f.control; destination = f.destination; source = f.source; user = take f.len f.user }

-- the octets behind the user data are 0
abbrev pub IsPadded : Frame → Type 0
IsPadded f = drop f.len f.user ≡ replicate (250 - f.len) 0

-- those of an event's frame are
abbrev pub HasPaddedFrame : LinkEvent → Type 0
HasPaddedFrame (events.Frame f) = IsPadded f
HasPaddedFrame (events.Skipped why) = Unit {0}

-- an event, with what its frame carries
abbrev pub event_content : LinkEvent → Event
event_content (events.Frame f) = Framed (content f)
event_content (events.Skipped why) = Dropped why

-- a call's answer, likewise
abbrev pub event_content_if : Option LinkEvent → Option Event
event_content_if None = None
event_content_if (Some e) = Some (event_content e)
