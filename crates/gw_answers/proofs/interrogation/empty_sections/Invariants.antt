-- A section without rows for each address before this one; there is room for the others.
use Rattle.std.proofs.Common.{◌≡◌, ◌≤◌, [], length, map, take}
use Rattle.std.specs.Prelude.{vec_capacity}
use Rattle.gw_answers.specs.Outgoing.{under}
use Rattle.gw_answers.specs.Sections.{commands_in, rows_in}
use Rattle.gw_answers.proofs.interrogation.empty_sections.Given as goal

abbrev pub invariant-loop-address : goal.invariant-loop-address
invariant-loop-address l =
    (commands_in l.sections.items ≡ map (λ common. under common l.command) (take l.address-index l.addresses))
    × (rows_in l.sections.items ≡ map (λ _. []) (take l.address-index l.addresses))
    × (length l.sections.items ≤ l.address-index)
    × (length l.addresses ≤ vec_capacity l.sections)
