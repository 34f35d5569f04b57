use Rattle.std.proofs.Common.{◌≡◌, None, Some, sym, ◌<◌, length, arith}
use Rattle.std.proofs.lemmas.List.{length-map}
use Rattle.toml.specs.View.{items_view}
use Rattle.gw_entries.specs.Answers.{first}
use Rattle.gw_map.specs.Answers.{seen}
use Rattle.gw_map.specs.Sections.{tables_of}
use Rattle.gw_map.proofs.Loops.{listed_no_array, listed_array, count_told}
use Rattle.gw_entries.proofs.Told.{tells_first}
use Rattle.gw_map.proofs.lists.tables_in.Goals as goal

pub returns-in_default-as_array-clause-read : goal.returns-in_default-as_array-clause-read
unfolding first
returns-in_default-as_array-clause-read c =
    tells_first c.at_top.result _ _ c.at_top.ensures
    (rw (← (rw c.name.ensures at c.in-Some.ensures), listed_no_array _ (sym c.in_default-as_array.ensures)))

pub returns-in_default-2-clause-read : goal.returns-in_default-2-clause-read
unfolding first
returns-in_default-2-clause-read c =
    let none : None ≡ tables_of (items_view c.deref.result.now) = rw c.in_default-2.is at c.in_ok-tables.ensures in
    tells_first c.at_top-in_default-2.result _ _ c.at_top-in_default-2.ensures
    (rw (
      ← (rw c.name.ensures at c.in-Some.ensures),
      listed_array _ _ (sym c.in-Some-as_array.ensures),
      ← c.deref.ensures.value,
      ← none,
    ))

pub returns-then-len-room-clause-read : goal.returns-then-len-room-clause-read
returns-then-len-room-clause-read c =
    let some : Some (seen c.in-Some-2.tables.items) ≡ tables_of (items_view c.deref.result.now) =
    rw c.in-Some-2.is at c.in_ok-tables.ensures in
    let many : c.args.room < length (seen c.in-Some-2.tables.items) = simp length-map (omega (arith, c.len.ensures)) in
    tells_first c.at.result _ _ c.at.ensures
    (rw (
      ← (rw c.name.ensures at c.in-Some.ensures),
      listed_array _ _ (sym c.in-Some-as_array.ensures),
      ← c.deref.ensures.value,
      ← some,
    )
    (count_told c.args.section c.args.room (seen c.in-Some-2.tables.items) many))
