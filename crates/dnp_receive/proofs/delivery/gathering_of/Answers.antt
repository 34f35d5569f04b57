use Rattle.std.proofs.Common.{ℕ, List, [], ap, subst, Bor}
use Rattle.std.specs.List.{flat_map}
use Rattle.std.proofs.lemmas.List.{take_all}
use Rattle.dnp_link.specs.Stream.{reading}
use Rattle.dnp_link.proofs.Streams.{pieces_more}
use Rattle.dnp_receive.specs.Delivery.{frames_of}
use Rattle.dnp_receive.specs.Gathering.{HasGathered}
use Rattle.dnp_receive.proofs.Gathered.{IsSoFar, nothing_yet, piece_more}
use Rattle.dnp_receive.proofs.delivery.gathering_of.Goals as goal

pub loop-piece-init : goal.loop-piece-init
loop-piece-init c = nothing_yet _ _ _ _ c.new-gathering.ensures c.new-feed.ensures

pub loop-piece-preserved : goal.loop-piece-preserved
loop-piece-preserved c =
    let none : Bor (List ℕ) = record { ref_ptr = (0, 0); now = [] } in
    subst (λ (octets : List ℕ). IsSoFar c.args.own c.args.peer octets c.drain.new.self c.drain.new.feed)
    (pieces_more (λ piece. piece.now) c.args.pieces.now c.loop-piece.piece-index none c.loop-piece-test.true)
    (piece_more _ _ _ _ _ _ _ _ _ c.loop-piece.invariant c.in_ok-feed.ensures.ok
    (c.in_ok-drain.ensures.gathered _ _ _ c.loop-piece.invariant.gathered) c.in_ok-drain.ensures.rest)

pub returns : goal.returns
returns c =
    let octets_in = flat_map (λ (piece : Bor (List ℕ)). piece.now) in
    subst (λ (octets : List ℕ).
    HasGathered c.args.own c.args.peer (frames_of (reading octets).events) c.loop-piece.gathering)
    (ap octets_in (take_all _ _ c.loop-piece-test.false)) c.loop-piece.invariant.gathered
