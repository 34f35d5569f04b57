-- A run of a hub meets what the laws of runs suppose.
use Rattle.std.proofs.Common.{ℕ, ◌≤◌, List, [], ◌∷◌, length, take, Result, arith}
use Rattle.std.specs.List.{AllByRecursion}
use Rattle.gw_entries.specs.Ranges.{IsStation}
use Rattle.gw_map.specs.Settings.{Setup, HasSingleAddresses}
use Rattle.gw_steps.specs.declared.step.Step.{Step}
use Rattle.gw_steps.specs.declared.step.Reply.{Reply}
use Rattle.gw_steps.specs.declared.step.StepFault.{StepFault}
use Rattle.gw_steps.specs.Carried.{AreMeant, IsMeant}
use Rattle.gw_steps.specs.State.{State}
use Rattle.gw_steps.specs.Runs.{Entry, history}
use Rattle.gw_steps.proofs.Running.{Ran, run_all}
use Rattle.gw_steps.specs.Premises.{HasKnownRows, IsSoundRun, IsSoundSetup}
use Rattle.gw_hub.proofs.Each.{all_taken}

-- the history that steps make
history_meant : (past : List Entry) (ss : List Step) (rs : List (Result Reply StepFault)) → AreMeant past
    → AllByRecursion IsMeant ss → AreMeant (history past ss rs)
history_meant past [] rs before all = before
history_meant past (s ∷ ss) [] before all = before
history_meant past (s ∷ ss) (r ∷ rs) before all =
    history_meant (record { step = s; reply = r } ∷ past) ss rs (all.0, before) all.1

-- what settings keep is what the laws of runs suppose of them
pub sound_setup : (setup : Setup) → HasSingleAddresses setup.rows setup.controls → HasKnownRows setup
    → IsStation setup.station → IsSoundSetup setup
sound_setup setup addresses known station = record {
  addresses = addresses;
  known = known;
  window = omega (arith, station.k.1);
  queue = omega (arith, station.queue.0);
}

-- all steps were made
pub made : (setup : Setup) (ss : List Step) (rs : List (Result Reply StepFault)) (i : ℕ) (s : State)
    → HasSingleAddresses setup.rows setup.controls → HasKnownRows setup → IsStation setup.station
    → length ss ≤ i → Ran setup (history [] (take i ss) rs) s → AllByRecursion IsMeant (take i ss)
    → IsSoundRun setup (history [] ss rs)
made setup ss rs i s addresses known station all so_far meant =
    let ran : Ran setup (history [] ss rs) s = run_all setup ss rs i s all so_far in
    record {
      settings = sound_setup setup addresses known station;
      run = ran.run;
      sound = ran.sound;
      meant = history_meant [] ss rs tt (all_taken IsMeant ss i all meant);
    }
