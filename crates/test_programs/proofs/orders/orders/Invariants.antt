-- The ledger and the history are those that were made for this core, the settings are its hub's, and anybody may make any call.
use Rattle.run_shared.specs.Roles.{anybody}
use Rattle.test_programs.proofs.orders.orders.Given as goal

abbrev pub ghosts-run-L-Ledger : goal.ghosts-run-L-Ledger
ghosts-run-L-Ledger g a = record { name = a.opening.blank.name; parts = a.opening.blank.parts }

abbrev pub ghosts-run-L-Naming : goal.ghosts-run-L-Naming
ghosts-run-L-Naming g a = record { book = a.opening.history.seen.book }

abbrev pub ghosts-run-L-Course : goal.ghosts-run-L-Course
ghosts-run-L-Course g a = record { setup = a.opening.hub.setup; roles = anybody }
