-- No information object so far stood before, among the points or here, and each is found.
use Rattle.std.proofs.Common.{◌≡◌, ◌++◌, List, drop, take, map}
use Rattle.gw_model.specs.declared.point.ObjectKey.{ObjectKey}
use Rattle.gw_model.specs.Keys.{same_object}
use Rattle.gw_map.specs.Sections.{repeated}
use Rattle.gw_map.specs.Settings.{control_object, IsIndex}
use Rattle.gw_map.proofs.indexes.control_index.Given as goal

abbrev pub invariant-loop-position : goal.invariant-loop-position
invariant-loop-position l = record {
  none : (objects : List ObjectKey) → IsIndex same_object l.row_objects.entries objects
      → repeated same_object 0 objects (map control_object l.controls)
      ≡ repeated same_object l.position (objects ++ map control_object (take l.position l.controls))
      (map control_object (drop l.position l.controls));
  index : IsIndex same_object l.index.entries (map control_object (take l.position l.controls));
}
