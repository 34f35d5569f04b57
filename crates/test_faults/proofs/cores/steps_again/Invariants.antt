-- The ledger and the history are those that were made for this core, the settings are its hub's, and anybody may make any call.
use Rattle.run_shared.specs.Roles.{anybody}
use Rattle.test_faults.proofs.cores.steps_again.Given as goal

abbrev pub ghosts-interrogate-L-Ledger : goal.ghosts-interrogate-L-Ledger
ghosts-interrogate-L-Ledger g a = record { name = a.opening.blank.name; parts = a.opening.blank.parts }

abbrev pub ghosts-interrogate-L-Naming : goal.ghosts-interrogate-L-Naming
ghosts-interrogate-L-Naming g a = record { book = a.opening.history.seen.book }

abbrev pub ghosts-interrogate-L-Course : goal.ghosts-interrogate-L-Course
ghosts-interrogate-L-Course g a = record { setup = a.opening.hub.setup; roles = anybody }
