-- So far there is at most one ASDU for each point, the first one among them.
use Rattle.std.proofs.Common.{◌+◌, ◌≤◌}
use Rattle.cmd_warnings.proofs.packing.count_asdus.Given as goal

abbrev pub invariant-loop-point : goal.invariant-loop-point
invariant-loop-point l = l.asdus ≤ 1 + l.point-index
