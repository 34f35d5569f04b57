use Rattle.std.proofs.Common.{◌-◌}
use Rattle.dnp_link.proofs.Blocks.{IsRead}
use Rattle.dnp_link.proofs.reading.read_blocks.Given as goal

abbrev pub invariant-loop-at : goal.invariant-loop-at
invariant-loop-at l = IsRead l.len l.at l.rest l.user l.octets

abbrev pub decreases-loop-at : goal.decreases-loop-at
decreases-loop-at l = l.len - l.at
