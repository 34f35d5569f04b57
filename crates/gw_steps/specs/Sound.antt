-- What every state keeps: the picture shows each row of the map by what an ASDU can carry, there is a master for each
-- outstation, what waits for a client can be sent and is no more than may wait, and orders hold their places.
use Rattle.std.specs.Prelude.{◌≡◌, ℕ, ◌*◌, List, length, slice_get, IfSome}
use Rattle.std.specs.List.{AllByRecursion}
use Rattle.gw_map.specs.Settings.{Setup}
use Rattle.gw_control.specs.Held.{orders_of}
use Rattle.gw_control.specs.Moves.{HasWholeCommands, IsSoundControls}
use Rattle.gw_picture.specs.Shown.{IsShown, ShowsRows}
use Rattle.gw_station.specs.Sound.{IsSoundClient}
use Rattle.gw_steps.specs.State.{State}
use Rattle.gw_steps.specs.Runs.{Entry, state_after}

pub record IsSoundState (setup : Setup) (s : State) : Type 0 where
  pub picture : AllByRecursion IsShown s.picture
  pub rows : ShowsRows setup.rows s.picture
  pub masters : length s.outstations ≡ length setup.outstations
  pub clients : AllByRecursion (IsSoundClient setup.station s.counts.steps s.counts.news) s.clients
  -- there is a place for each client, control and outstation, and the orders of each outstation are in order
  pub controls : IsSoundControls setup s.controls
  -- the commands of orders have the bits of their places
  pub commands : HasWholeCommands s.controls
  -- each order holds two places of its client
  pub held : (c : ℕ) → IfSome (slice_get s.clients c) (λ k. k.held ≡ 2 * orders_of c s.controls)

-- the state after a history is sound
abbrev pub LeavesSound : Setup → List Entry → Type 0
LeavesSound setup past = IsSoundState setup (state_after setup past)
