-- No entry so far has a complaint, and their values are kept.
use Rattle.std.proofs.Common.{◌≡◌, length, min, drop, take, map, vec_len}
use Rattle.toml.specs.View.{table_view}
use Rattle.gw_map.specs.Answers.{seen}
use Rattle.gw_map.specs.Sections.{each_from}
use Rattle.gw_map.proofs.lists.entries_of.Given as goal

abbrev pub invariant-loop-position : goal.invariant-loop-position
invariant-loop-position g l = record {
  none : each_from 0 (g.T.Listed.complaints (min (length l.outstations) 255)) (seen l.tables)
      ≡ each_from l.position (g.T.Listed.complaints (min (length l.outstations) 255)) (seen (drop l.position l.tables));
  kept : map g.T.Listed.fields l.entries.items
      ≡ map (λ t. g.T.Listed.meaning l.station.common_address l.outstations (table_view t.now)) (take l.position l.tables);
  len : vec_len l.entries ≡ l.position;
}
