-- No point so far stood before, and each row is kept.
use Rattle.std.proofs.Common.{◌≡◌, [], drop, take, map}
use Rattle.gw_model.specs.Keys.{same_key}
use Rattle.gw_map.specs.Sections.{repeated}
use Rattle.gw_map.specs.Settings.{by_point}
use Rattle.gw_map.proofs.indexes.point_map.Given as goal

abbrev pub invariant-loop-position : goal.invariant-loop-position
invariant-loop-position l = record {
  none : repeated same_key 0 [] (map (λ row. row.key) l.rows)
      ≡ repeated same_key l.position (map (λ row. row.key) (take l.position l.rows))
      (map (λ row. row.key) (drop l.position l.rows));
  kept : l.points.entries ≡ by_point (take l.position l.rows);
}
