-- The history is the one that was opened for this line, from the master to the outstation; what this took isn't known, and no write of
-- it has failed.
use Rattle.std.specs.Prelude.{◌+◌, false, None}
use Rattle.sim.proofs.play.add_next.Given as goal

abbrev pub ghosts-add_one-N-Naming : goal.ghosts-add_one-N-Naming
ghosts-add_one-N-Naming g a = record { book = a.history.seen.book }

abbrev pub ghosts-add_one-N-LineCourse : goal.ghosts-add_one-N-LineCourse
ghosts-add_one-N-LineCourse g a = record { own = 1024; peer = 10 + a.number; first = None; failed = false }
