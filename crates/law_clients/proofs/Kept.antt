-- The laws of connections at each point of every run.
use Rattle.std.proofs.Common.{List, [], ◌∷◌}
use Rattle.gw_map.specs.Settings.{Setup}
use Rattle.gw_steps.specs.Runs.{Entry, AtEach}
use Rattle.gw_steps.specs.Premises.{IsSoundRun}
use Rattle.law_history.proofs.Places.{Place, places}
use Rattle.law_clients.specs.Connections.{Connections}
use Rattle.law_clients.specs.Faults.{Faults}
use Rattle.law_clients.proofs.Closes.{LinkedBefore, tells_closes}
use Rattle.law_clients.proofs.Faults.{tells_faults}
use Rattle.law_clients.proofs.Links.{AllLinked}
use Rattle.law_clients.proofs.Signals.{tells_signals}
use Rattle.law_clients.proofs.Steps.{links}
use Rattle.law_clients.proofs.Times.{tells_times}

kept : (setup : Setup) (past : List Entry) → Place setup past → LinkedBefore setup past → AllLinked setup past
    → Faults setup past → Connections setup past
kept setup past place before linked faults = record {
  closes = tells_closes setup past place before;
  signals = tells_signals setup past place linked;
  times = tells_times setup past place before;
  faults = faults;
}

each : (setup : Setup) (past : List Entry) → AtEach (Place setup) past → AtEach (Connections setup) past
each setup [] at = kept setup [] at tt (links setup [] at) (tells_faults setup [] at)
each setup (e ∷ past) at = (
  kept setup (e ∷ past) at.0 (links setup past at.1) (links setup (e ∷ past) at) (tells_faults setup (e ∷ past) at),
  each setup past at.1,
)

pub keeps_connections : (setup : Setup) (past : List Entry) → IsSoundRun setup past → AtEach (Connections setup) past
keeps_connections setup past run = each setup past (places setup past run)
