-- What is promised of each client's connection, and of steps that aren't made, at each point of a run.
use Rattle.std.specs.Prelude.{List}
use Rattle.gw_map.specs.Settings.{Setup}
use Rattle.gw_steps.specs.Runs.{Entry}
use Rattle.law_clients.specs.Closes.{Closes}
use Rattle.law_clients.specs.Faults.{Faults}
use Rattle.law_clients.specs.Signals.{Signals}
use Rattle.law_clients.specs.Times.{Times}

pub record Connections (setup : Setup) (past : List Entry) : Type 0 where
  -- in a step without a fault an APDU closes the connection for the first cause that holds, or else is taken
  pub closes : Closes setup past
  -- the STARTDT, STOPDT and TESTFR acts that were taken are confirmed in order, each once at most
  pub signals : Signals setup past
  -- t1, t2, t3, k and w: when a connection is closed, and what a pump gives
  pub times : Times setup past
  -- why a step isn't made
  pub faults : Faults setup past
