-- The losses before this position are counted.
use Rattle.std.proofs.Common.{◌≡◌, ◌+◌, length, drop}
use Rattle.gw_picture.specs.Loss.{losses_of}
use Rattle.gw_picture.proofs.losing.count_losses.Given as goal

abbrev pub invariant-loop-position : goal.invariant-loop-position
invariant-loop-position l =
    l.losses + length (losses_of l.outstation (drop l.position l.rows) (drop l.position l.shown))
    ≡ length (losses_of l.outstation l.rows l.shown)
