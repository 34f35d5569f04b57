-- What the laws suppose of a run, and its clients.
use Rattle.std.specs.Prelude.{IsTrue, ℕ, ◌<◌, List, slice_get, Option}
use Rattle.std.specs.List.{AllByRecursion}
use Rattle.gw_entries.specs.declared.row.Row.{Row}
use Rattle.gw_map.specs.Settings.{Setup, is_known, HasSingleAddresses}
use Rattle.iec_window.specs.Sequence.{numbers}
use Rattle.gw_station.specs.Client.{Client}
use Rattle.gw_steps.specs.Carried.{AreMeant}
use Rattle.gw_steps.specs.Runs.{Entry, state_after, IsRun, AtEach}
use Rattle.gw_steps.specs.Sound.{LeavesSound}

-- each row has a common address that clients may use
abbrev pub HasKnownRows : Setup → Type 0
HasKnownRows setup = AllByRecursion (λ (row : Row). IsTrue (is_known setup row.common_address)) setup.rows

-- no two rows or controls are of one object, each row's common address is known, the window k is smaller than the
-- sequence numbers, and some news may wait for a client
pub record IsSoundSetup (setup : Setup) : Type 0 where
  pub addresses : HasSingleAddresses setup.rows setup.controls
  pub known : HasKnownRows setup
  pub window : setup.station.k < numbers
  pub queue : 0 < setup.station.queue

pub record IsSoundRun (setup : Setup) (past : List Entry) : Type 0 where
  pub settings : IsSoundSetup setup
  pub run : IsRun setup past
  -- each state is sound
  pub sound : AtEach (LeavesSound setup) past
  -- each fragment is what its octets mean
  pub meant : AreMeant past

-- client c after a history, if there is one
abbrev pub client_at : Setup → ℕ → List Entry → Option Client
client_at setup c past = slice_get (state_after setup past).clients c
