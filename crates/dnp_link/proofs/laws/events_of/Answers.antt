use Rattle.std.proofs.Common.{ℕ, List, [], ap, subst, Bor}
use Rattle.std.specs.Prelude.{map}
use Rattle.dnp_link.specs.FrameContent.{event_content}
use Rattle.dnp_link.proofs.Streams.{IsSoFar, nothing_yet, one_more, pieces_more}
use Rattle.dnp_link.proofs.laws.events_of.Goals as goal

pub loop-piece-init : goal.loop-piece-init
loop-piece-init c = nothing_yet _ _ (ap (map event_content) c.new-events.ensures.items) c.new-feed.ensures

pub loop-piece-preserved : goal.loop-piece-preserved
loop-piece-preserved c =
    let none : Bor (List ℕ) = record { ref_ptr = (0, 0); now = [] } in
    subst (λ (octets : List ℕ). IsSoFar octets (map event_content c.drain.new.events.items) c.drain.new.feed)
    (pieces_more (λ piece. piece.now) c.args.pieces.now c.loop-piece.piece-index none c.loop-piece-test.true)
    (one_more _ _ _ _ _ _ _ c.loop-piece.invariant c.in_ok-feed.ensures.ok c.in_ok-drain.ensures.events
    c.in_ok-drain.ensures.rest)
