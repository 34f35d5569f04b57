-- The ledger and the history are those that were made for this core, the settings are its hub's, and anybody may make any call.
use Rattle.run_shared.specs.Roles.{anybody}
use Rattle.test_faults.proofs.writing_ends.the_second_write_fails.Given as goal

abbrev pub ghosts-write_news-L-Ledger : goal.ghosts-write_news-L-Ledger
ghosts-write_news-L-Ledger g a = record { name = a.opening.blank.name; parts = a.opening.blank.parts }

abbrev pub ghosts-write_news-L-Naming : goal.ghosts-write_news-L-Naming
ghosts-write_news-L-Naming g a = record { book = a.opening.history.seen.book }

abbrev pub ghosts-write_news-L-Course : goal.ghosts-write_news-L-Course
ghosts-write_news-L-Course g a = record { setup = a.opening.hub.setup; roles = anybody }
