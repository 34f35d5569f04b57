-- What runs keep.
use Rattle.std.proofs.Common.{ℕ, List, Result, Ok, Err}
use Rattle.std.specs.Prelude.{IfOk}
use Rattle.gw_map.specs.Settings.{Setup}
use Rattle.gw_steps.specs.State.{Hub}
use Rattle.gw_steps.specs.Runs.{Entry}
use Rattle.gw_steps.specs.Premises.{IsSoundRun}
use Rattle.law_orders.specs.Bonds.{IsControlRun}
use Rattle.law_orders.proofs.Bonded.{bound, told_once}
use Rattle.law_orders.proofs.Follows.{told_when_due}
use Rattle.law_orders.proofs.CommandsTold.{commands_answered}
use Rattle.law_orders.proofs.RequestPlaces.{requests_due}
use Rattle.law_fates.proofs.Runs.{fates}
use Rattle.law_fates.proofs.Tells.{fates_told}
use Rattle.law_effects.proofs.Together.{steps_tell}
use Rattle.law_clients.proofs.Promised.{keeps_promises}
use Rattle.law_clients.proofs.Kept.{keeps_connections}
use Rattle.run_shared.specs.declared.close.Closed.{Closed}
use Rattle.run_shared.specs.Reached.{CourseOf, Deed, entries_of, HasShortIndices, IsCourse, IsReached}
use Rattle.law_running.specs.Kept.{IsKeptRun, IsPromised, KeepsAll}

keeps_all : (setup : Setup) (past : List Entry) → IsSoundRun setup past → HasShortIndices setup → KeepsAll setup past
keeps_all setup past run indices =
    let controls : IsControlRun setup past = record { run = run.run; sound = run.sound; indices = indices } in
    record {
      run = run.run;
      promises = keeps_promises setup past run;
      bonds = bound setup past controls;
      outcomes = told_once setup past controls;
      due = told_when_due setup past run indices;
      fates = fates setup past run;
      told = fates_told setup past run;
      tells = steps_tell setup past run indices;
      commands = commands_answered setup past run indices;
      requests = requests_due setup past run indices;
      connections = keeps_connections setup past run;
    }

pub promised : (setup : Setup) (hub : Hub) (past : List Deed) (made : ℕ) → IsReached setup hub past made
    → IsPromised setup hub past made
promised setup hub past made reached = record {
  setup_is = reached.setup_is;
  state = reached.state;
  count = reached.count;
  kept = keeps_all setup (entries_of past) reached.course.run reached.course.indices;
}

pub course_promised : (setup : Setup) (past : List Entry) → IsCourse setup past → KeepsAll setup past
course_promised setup past course = keeps_all setup past course.run course.indices

run_kept : (setup : Setup) (total : ℕ) → CourseOf setup total → IsKeptRun setup total
run_kept setup total course =
    record { past = course.0; count = course.1.1; kept = course_promised setup (entries_of course.0) course.1.0 }

-- what was closed was kept
pub closed_kept : {E : Type 0} (setup : Setup) (r : Result Closed E) → IfOk r (λ closed. CourseOf setup closed.total)
    → IfOk r (λ closed. IsKeptRun setup closed.total)
closed_kept setup (Ok closed) course = run_kept setup closed.total course
closed_kept setup (Err e) course = course
