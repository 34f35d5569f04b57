-- The ledger and the history are those that were made for this core, the settings are its hub's, and anybody may make any call.
use Rattle.run_shared.specs.Roles.{anybody}
use Rattle.test_faults.proofs.writing_ends.writing_ends.Given as goal

abbrev pub ghosts-write_run-L-Ledger : goal.ghosts-write_run-L-Ledger
ghosts-write_run-L-Ledger g a = record { name = a.opening.blank.name; parts = a.opening.blank.parts }

abbrev pub ghosts-write_run-L-Naming : goal.ghosts-write_run-L-Naming
ghosts-write_run-L-Naming g a = record { book = a.opening.history.seen.book }

abbrev pub ghosts-write_run-L-Course : goal.ghosts-write_run-L-Course
ghosts-write_run-L-Course g a = record { setup = a.opening.hub.setup; roles = anybody }
