-- The ledger and the history are those that were made for this core, the settings are its hub's, and anybody may make any call.
use Rattle.run_shared.specs.Roles.{anybody}
use Rattle.test_threads.proofs.conversations.as_one_thread.Given as goal

abbrev pub ghosts-converse-L-Ledger : goal.ghosts-converse-L-Ledger
ghosts-converse-L-Ledger g a = record { name = a.opening.blank.name; parts = a.opening.blank.parts }

abbrev pub ghosts-converse-L-Naming : goal.ghosts-converse-L-Naming
ghosts-converse-L-Naming g a = record { book = a.opening.history.seen.book }

abbrev pub ghosts-converse-L-Course : goal.ghosts-converse-L-Course
ghosts-converse-L-Course g a = record { setup = a.opening.hub.setup; roles = anybody }
