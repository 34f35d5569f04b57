-- The key is that of none of the rows so far.
use Rattle.std.proofs.Common.{◌≡◌, map, drop}
use Rattle.gw_entries.specs.Keys.{rule_seen}
use Rattle.gw_entries.specs.Tables.{rules_of}
use Rattle.gw_entries.specs.Values.{rule_named}
use Rattle.gw_entries.proofs.keys.key_named.Given as goal

abbrev pub invariant-loop-key : goal.invariant-loop-key
invariant-loop-key l =
    rule_named (rules_of l.fn.section) l.name ≡ rule_named (map rule_seen (drop l.key-index l.key-items)) l.name
