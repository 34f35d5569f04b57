-- The frames that are left come behind those that were gathered.
use Rattle.std.proofs.Common.{◌≡◌, ◌++◌, ℕ, List, length}
use Rattle.dnp_link.specs.Frame.{FrameContent}
use Rattle.dnp_link.specs.Stream.{reading}
use Rattle.dnp_receive.specs.Delivery.{frames_of}
use Rattle.dnp_receive.specs.Gathering.{HasGathered}
use Rattle.dnp_receive.proofs.Gathered.{Completes}
use Rattle.dnp_receive.proofs.gathering.Gathering.drain.Given as goal

abbrev pub invariant-loop-event : goal.invariant-loop-event
invariant-loop-event l = record {
  gathered : (own peer : ℕ) (before : List FrameContent) → HasGathered own peer before l.initial.self
      → Completes own peer l.self (frames_of (reading l.feed).events)
      (before ++ frames_of (reading l.initial.feed).events);
  rest : (reading l.feed).rest ≡ (reading l.initial.feed).rest;
}

abbrev pub decreases-loop-event : goal.decreases-loop-event
decreases-loop-event l = length l.feed
