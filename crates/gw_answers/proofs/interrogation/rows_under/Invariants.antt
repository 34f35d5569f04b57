-- The rows before this one that are asked.
use Rattle.std.proofs.Common.{◌≡◌, take}
use Rattle.gw_answers.specs.Interrogations.{rows_under}
use Rattle.gw_answers.proofs.interrogation.rows_under.Given as goal

abbrev pub invariant-loop-observation : goal.invariant-loop-observation
invariant-loop-observation l =
    l.rows.items ≡ rows_under l.action (take l.observation-index l.picture) l.common_address
