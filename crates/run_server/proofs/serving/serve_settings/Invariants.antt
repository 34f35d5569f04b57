-- The ledger and the history are those that were made for this core, the settings are its hub's, and the roles the server's.
use Rattle.run_server.specs.Roles.{roles_of}
use Rattle.run_server.proofs.serving.serve_settings.Given as goal

abbrev pub ghosts-serve_with-L-Ledger : goal.ghosts-serve_with-L-Ledger
ghosts-serve_with-L-Ledger g a = record { name = a.blank.name; parts = a.blank.parts }

abbrev pub ghosts-serve_with-L-Naming : goal.ghosts-serve_with-L-Naming
ghosts-serve_with-L-Naming g a = record { book = a.history.seen.book }

abbrev pub ghosts-serve_with-L-Course : goal.ghosts-serve_with-L-Course
ghosts-serve_with-L-Course g a = record { setup = a.opening.machine.setup; roles = roles_of a.opening.outstations }
