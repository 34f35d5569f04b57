-- The lines of the images before this one are written.
use Rattle.std.proofs.Common.{◌≡◌, ◌++◌, drop}
use Rattle.cmd_replay.specs.FragmentText.{asdu_lines}
use Rattle.cmd_replay.proofs.fragment_text.push_asdus.Given as goal

abbrev pub invariant-loop-image : goal.invariant-loop-image
invariant-loop-image l = l.text.items ++ asdu_lines l.settings (drop l.image-index l.images)
    ≡ l.initial.text.items ++ asdu_lines l.settings l.images
