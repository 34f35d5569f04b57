-- The tables so far, and those that follow, are those of the list.
use Rattle.std.proofs.Common.{◌≡◌, drop}
use Rattle.toml.specs.View.{items_view}
use Rattle.gw_map.specs.Answers.{seen}
use Rattle.gw_map.specs.Sections.{tables_of}
use Rattle.gw_map.proofs.Listed.{after}
use Rattle.gw_map.proofs.lists.as_tables.Given as goal

abbrev pub invariant-loop-value : goal.invariant-loop-value
invariant-loop-value l =
    after (seen l.tables.items) (tables_of (items_view (drop l.value-index l.values))) ≡ tables_of (items_view l.values)
