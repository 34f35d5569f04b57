-- The histories are those that were opened for these lines, from the master to outstations 1 and 2; what these took isn't known, and
-- no write has failed.
use Rattle.std.specs.Prelude.{false, None}
use Rattle.test_threads.proofs.workers.serve.Given as goal

abbrev pub ghosts-serve_on-M-Naming : goal.ghosts-serve_on-M-Naming
ghosts-serve_on-M-Naming g a = record { book = a.first.seen.book }

abbrev pub ghosts-serve_on-M-LineCourse : goal.ghosts-serve_on-M-LineCourse
ghosts-serve_on-M-LineCourse g a = record { own = 1024; peer = 1; first = None; failed = false }

abbrev pub ghosts-serve_on-N-Naming : goal.ghosts-serve_on-N-Naming
ghosts-serve_on-N-Naming g a = record { book = a.second.seen.book }

abbrev pub ghosts-serve_on-N-LineCourse : goal.ghosts-serve_on-N-LineCourse
ghosts-serve_on-N-LineCourse g a = record { own = 1024; peer = 2; first = None; failed = false }
