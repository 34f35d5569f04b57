use Rattle.std.proofs.Common.{length}
use Rattle.dnp_link.proofs.Blocks.{IsWritten}
use Rattle.dnp_link.proofs.writing.write_blocks.Given as goal

abbrev pub invariant-loop-rest : goal.invariant-loop-rest
invariant-loop-rest l = IsWritten l.at l.rest l.user l.out l.initial.out

abbrev pub decreases-loop-rest : goal.decreases-loop-rest
decreases-loop-rest l = length l.rest
