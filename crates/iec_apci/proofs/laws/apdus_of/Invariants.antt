use Rattle.std.proofs.Common.{take}
use Rattle.std.specs.Prelude.{map}
use Rattle.std.specs.List.{flat_map}
use Rattle.iec_apci.specs.ApduContent.{content}
use Rattle.iec_apci.proofs.Drained.{Said}
use Rattle.iec_apci.proofs.laws.apdus_of.Given as goal

-- what was said of the pieces so far
abbrev pub invariant-loop-piece : goal.invariant-loop-piece
invariant-loop-piece l =
    Said (flat_map (λ piece. piece.now) (take l.piece-index l.pieces)) (map content l.apdus.items) l.feed l.fault
