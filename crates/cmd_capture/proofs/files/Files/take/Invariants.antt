-- Fewer and fewer came early.
use Rattle.std.specs.BTreeMap.{btree_map_len}
use Rattle.cmd_capture.proofs.files.Files.take.Given as goal

abbrev pub decreases-loop-lines : goal.decreases-loop-lines
decreases-loop-lines g l = btree_map_len l.self.sorter.early
