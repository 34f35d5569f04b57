-- The history is the one that was opened for this line, from the master to the outstation; what this took isn't known, and no write of
-- it has failed.
use Rattle.std.specs.Prelude.{false, None}
use Rattle.test_tools.proofs.cores.TestCore.read_outstation.Given as goal

abbrev pub ghosts-read_alone-N-Naming : goal.ghosts-read_alone-N-Naming
ghosts-read_alone-N-Naming g a = record { book = a.history.seen.book }

abbrev pub ghosts-read_alone-N-LineCourse : goal.ghosts-read_alone-N-LineCourse
ghosts-read_alone-N-LineCourse g a =
    record { own = 1024; peer = a.source.now.address; first = None; failed = false }
