-- The ledger and the history are those that were made for this core, the settings are its hub's, and anybody may make any call.
use Rattle.run_shared.specs.Roles.{anybody}
use Rattle.test_threads.proofs.workers.workers.Given as goal

abbrev pub ghosts-work-L-Ledger : goal.ghosts-work-L-Ledger
ghosts-work-L-Ledger g a = record { name = a.opening.blank.name; parts = a.opening.blank.parts }

abbrev pub ghosts-work-L-Naming : goal.ghosts-work-L-Naming
ghosts-work-L-Naming g a = record { book = a.opening.history.seen.book }

abbrev pub ghosts-work-L-Course : goal.ghosts-work-L-Course
ghosts-work-L-Course g a = record { setup = a.opening.hub.setup; roles = anybody }
