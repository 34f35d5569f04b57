-- No information object so far stood before, and each is found.
use Rattle.std.proofs.Common.{◌≡◌, [], drop, take, map}
use Rattle.gw_model.specs.Keys.{same_object}
use Rattle.gw_map.specs.Sections.{repeated}
use Rattle.gw_map.specs.Settings.{row_object, IsIndex}
use Rattle.gw_map.proofs.indexes.row_index.Given as goal

abbrev pub invariant-loop-position : goal.invariant-loop-position
invariant-loop-position l = record {
  none : repeated same_object 0 [] (map row_object l.rows)
      ≡ repeated same_object l.position (map row_object (take l.position l.rows))
      (map row_object (drop l.position l.rows));
  index : IsIndex same_object l.index.entries (map row_object (take l.position l.rows));
}
