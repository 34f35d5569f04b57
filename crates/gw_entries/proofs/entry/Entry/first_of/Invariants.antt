-- None of the keys so far stands there.
use Rattle.std.proofs.Common.{◌≡◌, map, drop}
use Rattle.toml.specs.View.{table_view}
use Rattle.gw_entries.specs.Answers.{first}
use Rattle.gw_entries.specs.Complaints.{present}
use Rattle.gw_entries.proofs.entry.Entry.first_of.Given as goal

abbrev pub invariant-loop-name : goal.invariant-loop-name
invariant-loop-name l =
    first (present (table_view l.self.table.now) (map (λ name. name.now) l.names))
    ≡ first (present (table_view l.self.table.now) (map (λ name. name.now) (drop l.name-index l.names)))
