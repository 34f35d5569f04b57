use Rattle.std.proofs.Common.{take}
use Rattle.std.specs.List.{flat_map}
use Rattle.dnp_receive.proofs.Gathered.{IsSoFar}
use Rattle.dnp_receive.proofs.delivery.gathering_of.Given as goal

-- the pieces before this one were gathered
abbrev pub invariant-loop-piece : goal.invariant-loop-piece
invariant-loop-piece l =
    IsSoFar l.own l.peer (flat_map (λ piece. piece.now) (take l.piece-index l.pieces)) l.gathering l.feed
