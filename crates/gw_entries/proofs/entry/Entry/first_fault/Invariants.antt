-- Nothing is wrong at the keys so far.
use Rattle.std.proofs.Common.{◌≡◌, map, drop}
use Rattle.toml.specs.View.{table_view}
use Rattle.gw_entries.specs.Keys.{rule_seen}
use Rattle.gw_entries.specs.Tables.{rules_of}
use Rattle.gw_entries.proofs.Wrongs.{first_wrong}
use Rattle.gw_entries.proofs.entry.Entry.first_fault.Given as goal

abbrev pub invariant-loop-key : goal.invariant-loop-key
invariant-loop-key l =
    first_wrong l.outstations (rules_of l.self.section) (table_view l.self.table.now) (rules_of l.self.section)
    ≡ first_wrong l.outstations (rules_of l.self.section) (table_view l.self.table.now)
    (map rule_seen (drop l.key-index l.key-items))
