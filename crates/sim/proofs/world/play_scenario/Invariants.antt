-- The ledger and the history are those that were made for this core, the settings are its hub's, and anybody may make any call.
use Rattle.run_shared.specs.Roles.{anybody}
use Rattle.sim.proofs.world.play_scenario.Given as goal

abbrev pub ghosts-play_on-L-Ledger : goal.ghosts-play_on-L-Ledger
ghosts-play_on-L-Ledger g a = record { name = a.opening.blank.name; parts = a.opening.blank.parts }

abbrev pub ghosts-play_on-L-Naming : goal.ghosts-play_on-L-Naming
ghosts-play_on-L-Naming g a = record { book = a.opening.history.seen.book }

abbrev pub ghosts-play_on-L-Course : goal.ghosts-play_on-L-Course
ghosts-play_on-L-Course g a = record { setup = a.opening.hub.setup; roles = anybody }
