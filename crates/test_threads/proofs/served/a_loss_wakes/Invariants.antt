-- The ledger and the history are those that were made for this core, the settings are its hub's, and anybody may make any call.
use Rattle.run_shared.specs.Roles.{anybody}
use Rattle.test_threads.proofs.served.a_loss_wakes.Given as goal

abbrev pub ghosts-lose-L-Ledger : goal.ghosts-lose-L-Ledger
ghosts-lose-L-Ledger g a = record { name = a.opening.blank.name; parts = a.opening.blank.parts }

abbrev pub ghosts-lose-L-Naming : goal.ghosts-lose-L-Naming
ghosts-lose-L-Naming g a = record { book = a.opening.history.seen.book }

abbrev pub ghosts-lose-L-Course : goal.ghosts-lose-L-Course
ghosts-lose-L-Course g a = record { setup = a.opening.hub.setup; roles = anybody }
