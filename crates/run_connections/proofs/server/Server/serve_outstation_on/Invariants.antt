-- The history is the one that was opened for this line, whose addresses are those of the outstation's settings; what its socket took
-- isn't known, and no write of it has failed.
use Rattle.std.specs.Prelude.{false, None}
use Rattle.run_connections.proofs.server.Server.serve_outstation_on.Given as goal

abbrev pub ghosts-serve_line-N-Naming : goal.ghosts-serve_line-N-Naming
ghosts-serve_line-N-Naming g a = record { book = a.history.seen.book }

abbrev pub ghosts-serve_line-N-LineCourse : goal.ghosts-serve_line-N-LineCourse
ghosts-serve_line-N-LineCourse g a =
    record { own = a.link.now.own; peer = a.link.now.peer; first = None; failed = false }
