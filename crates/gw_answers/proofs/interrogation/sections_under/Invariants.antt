-- The sections have the rows before this one.
use Rattle.std.proofs.Common.{◌≡◌, map, take}
use Rattle.gw_answers.specs.Interrogations.{rows_under}
use Rattle.gw_answers.specs.Outgoing.{under}
use Rattle.gw_answers.specs.Sections.{commands_in, rows_in}
use Rattle.gw_answers.proofs.interrogation.sections_under.Given as goal

abbrev pub invariant-loop-observation : goal.invariant-loop-observation
invariant-loop-observation l =
    (commands_in l.sections.items ≡ map (λ common. under common l.command) l.addresses)
    × (rows_in l.sections.items
    ≡ map (rows_under l.command.action (take l.observation-index l.picture)) l.addresses)
