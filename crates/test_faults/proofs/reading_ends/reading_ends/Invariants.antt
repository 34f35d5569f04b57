-- The ledger and the history are those that were made for this core, the settings are its hub's, and anybody may make any call.
use Rattle.run_shared.specs.Roles.{anybody}
use Rattle.test_faults.proofs.reading_ends.reading_ends.Given as goal

abbrev pub ghosts-read_client_on-L-Ledger : goal.ghosts-read_client_on-L-Ledger
ghosts-read_client_on-L-Ledger g a = record { name = a.opening.blank.name; parts = a.opening.blank.parts }

abbrev pub ghosts-read_client_on-L-Naming : goal.ghosts-read_client_on-L-Naming
ghosts-read_client_on-L-Naming g a = record { book = a.opening.history.seen.book }

abbrev pub ghosts-read_client_on-L-Course : goal.ghosts-read_client_on-L-Course
ghosts-read_client_on-L-Course g a = record { setup = a.opening.hub.setup; roles = anybody }
