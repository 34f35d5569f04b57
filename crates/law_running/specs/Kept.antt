-- All that is promised of runs, at each place of a history.
use Rattle.std.specs.Prelude.{◌≡◌, ℕ, List, length}
use Rattle.gw_map.specs.Settings.{Setup}
use Rattle.gw_steps.specs.State.{Hub}
use Rattle.gw_steps.specs.Runs.{Entry, state_after, AtEach, IsRun}
use Rattle.run_shared.specs.Reached.{Deed, entries_of}
use Rattle.law_fates.specs.Fates.{HasOneFateEach}
use Rattle.law_fates.specs.Told.{TellsFates}
use Rattle.law_effects.specs.Tells.{Tells}
use Rattle.law_clients.specs.Connections.{Connections}
use Rattle.law_clients.specs.Promises.{Promises}
use Rattle.law_orders.specs.Bonds.{Bonds}
use Rattle.law_orders.specs.ToldOnce.{TellsOnce}
use Rattle.law_orders.specs.Outcomes.{TellsDue}
use Rattle.law_orders.specs.Commands.{AnswersCommands}
use Rattle.law_orders.specs.Requests.{Requests}

-- the history is a run from the first state, and at each of its places everything holds that `Hub::run` promises
pub record KeepsAll (setup : Setup) (past : List Entry) : Type 0 where
  pub run : IsRun setup past
  pub promises : AtEach (Promises setup) past
  pub bonds : AtEach (Bonds setup) past
  pub outcomes : AtEach (TellsOnce setup) past
  pub due : AtEach (TellsDue setup) past
  pub fates : AtEach (HasOneFateEach setup) past
  pub told : AtEach (TellsFates setup) past
  pub tells : AtEach (Tells setup) past
  pub commands : AtEach (AnswersCommands setup) past
  pub requests : AtEach (Requests setup) past
  pub connections : AtEach (Connections setup) past

-- so many calls were made, in one history at each place of which all is kept
pub record IsKeptRun (setup : Setup) (total : ℕ) : Type 0 where
  pub past : List Deed
  pub count : length past ≡ total
  pub kept : KeepsAll setup (entries_of past)

-- a hub is the state after a history of so many steps, and at each place of it all that is kept
pub record IsPromised (setup : Setup) (hub : Hub) (past : List Deed) (made : ℕ) : Type 0 where
  pub setup_is : hub.setup ≡ setup
  pub state : hub.state ≡ state_after setup (entries_of past)
  pub count : length past ≡ made
  pub kept : KeepsAll setup (entries_of past)
