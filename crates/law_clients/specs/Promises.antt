-- What the core promises at each point of a run.
use Rattle.std.specs.Prelude.{List}
use Rattle.gw_map.specs.Settings.{Setup}
use Rattle.gw_steps.specs.Carried.{AreMeant}
use Rattle.gw_steps.specs.Runs.{Entry}
use Rattle.gw_steps.specs.Sound.{LeavesSound}
use Rattle.law_history.specs.Confirmations.{Confirmations}
use Rattle.law_clients.specs.News.{News}
use Rattle.law_clients.specs.Interrogations.{Interrogations}
use Rattle.law_clients.specs.Line.{Line}
use Rattle.law_clients.specs.Mirror.{Mirror}
use Rattle.law_clients.specs.Numbers.{Numbers}
use Rattle.law_clients.specs.Frames.{Frames}
use Rattle.law_clients.specs.Apdus.{Apdus}

pub record Promises (setup : Setup) (past : List Entry) : Type 0 where
  -- the picture is that of the log; what a session put out, and what is queued, are its news, less what was dropped
  pub news : News setup past
  -- what was put out of the answer to an interrogation is its front, and all of it once its termination is out
  pub interrogations : Interrogations setup past
  -- an I format carries the first of what waits
  pub line : Line setup past
  -- of what the station shows, a client that interrogated it has the last values, or they wait for it
  pub mirror : Mirror setup past
  -- N(S) counts the I formats put out, N(R) those taken, and at most k are not acknowledged
  pub numbers : Numbers setup past
  -- an I or S format is taken where it is right, and closes the connection where it isn't
  pub frames : Frames setup past
  -- what a pump puts out reads as one APDU
  pub apdus : Apdus setup past
  -- a fragment is confirmed with its news in the log, or where it is repeated
  pub confirmations : Confirmations setup past
  -- a fragment reports what its octets mean
  pub meant : AreMeant past
  -- what the picture shows and what waits can be sent, and no more waits than may
  pub sound : LeavesSound setup past
