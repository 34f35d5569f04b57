use Rattle.std.proofs.Common.{◌-◌}
use Rattle.bench_layers.proofs.round.round.Given as goal

-- how many APDUs are left
abbrev pub decreases-loop-first : goal.decreases-loop-first
decreases-loop-first l = l.load.count - l.first
