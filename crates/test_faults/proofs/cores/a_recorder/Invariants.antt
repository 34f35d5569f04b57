-- The ledger and the history are those that were made for this core, the settings are its hub's, and anybody may make any call.
use Rattle.run_shared.specs.Roles.{anybody}
use Rattle.test_faults.proofs.cores.a_recorder.Given as goal

abbrev pub ghosts-start-L-Ledger : goal.ghosts-start-L-Ledger
ghosts-start-L-Ledger g a = record { name = a.opening.blank.name; parts = a.opening.blank.parts }

abbrev pub ghosts-start-L-Naming : goal.ghosts-start-L-Naming
ghosts-start-L-Naming g a = record { book = a.opening.history.seen.book }

abbrev pub ghosts-start-L-Course : goal.ghosts-start-L-Course
ghosts-start-L-Course g a = record { setup = a.opening.hub.setup; roles = anybody }
