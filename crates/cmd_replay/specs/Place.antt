-- What stands between two lines of a replay.
use Rattle.std.specs.Prelude.{Bool}
use Rattle.gw_steps.specs.State.{Hub}

-- the hub, and whether a line was refused
pub record Place : Type 0 where
  pub hub : Hub
  pub has_refused : Bool

abbrev pub place : Hub → Bool → Place
place hub has_refused = record { hub = hub; has_refused = has_refused }
