use Rattle.std.proofs.Common.{◌≡◌, ◌++◌, length}
use Rattle.std.specs.Prelude.{map}
use Rattle.dnp_link.specs.Stream.{reading}
use Rattle.dnp_link.specs.FrameContent.{event_content}
use Rattle.dnp_link.proofs.laws.drain.Given as goal

-- the events so far, and those that are held back, are all
abbrev pub invariant-loop-event : goal.invariant-loop-event
invariant-loop-event l = record {
  events : map event_content l.events.items ++ (reading l.feed).events
      ≡ map event_content l.initial.events.items ++ (reading l.initial.feed).events;
  rest : (reading l.feed).rest ≡ (reading l.initial.feed).rest;
}

abbrev pub decreases-loop-event : goal.decreases-loop-event
decreases-loop-event l = length l.feed
