use Rattle.std.proofs.Common.{take}
use Rattle.std.specs.Prelude.{map}
use Rattle.std.specs.List.{flat_map}
use Rattle.dnp_link.specs.FrameContent.{event_content}
use Rattle.dnp_link.proofs.Streams.{IsSoFar}
use Rattle.dnp_link.proofs.laws.events_of.Given as goal

abbrev pub invariant-loop-piece : goal.invariant-loop-piece
invariant-loop-piece l =
    IsSoFar (flat_map (λ piece. piece.now) (take l.piece-index l.pieces)) (map event_content l.events.items) l.feed
