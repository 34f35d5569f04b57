-- The ledger and the history are those that were made for this core, the settings are its hub's, and anybody may make any call.
use Rattle.run_shared.specs.Roles.{anybody}
use Rattle.test_threads.proofs.recorder.the_largest_recorder.Given as goal

abbrev pub ghosts-fill-L-Ledger : goal.ghosts-fill-L-Ledger
ghosts-fill-L-Ledger g a = record { name = a.opening.blank.name; parts = a.opening.blank.parts }

abbrev pub ghosts-fill-L-Naming : goal.ghosts-fill-L-Naming
ghosts-fill-L-Naming g a = record { book = a.opening.history.seen.book }

abbrev pub ghosts-fill-L-Course : goal.ghosts-fill-L-Course
ghosts-fill-L-Course g a = record { setup = a.opening.hub.setup; roles = anybody }
