-- The rows before this one are shown.
use Rattle.std.proofs.Common.{◌≡◌, ◌++◌, map, drop}
use Rattle.gw_picture.specs.Opening.{opening}
use Rattle.gw_picture.proofs.opening.opening_of.Given as goal

abbrev pub invariant-loop-row : goal.invariant-loop-row
invariant-loop-row l = l.shown.items ++ map opening (drop l.row-index l.rows) ≡ map opening l.rows
