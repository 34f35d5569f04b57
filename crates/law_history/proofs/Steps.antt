-- Each step keeps what ties the state to the history.
use Rattle.std.proofs.Common.{◌≡◌, ℕ, List, [], ◌∷◌, Option, Some, None, Result, Ok, Err, refl, ap, arith}
use Rattle.std.specs.Prelude.{slice_get, option_map}
use Rattle.gw_entries.specs.Setup.{OutstationSetup}
use Rattle.gw_map.specs.Settings.{Setup, HasSingleAddresses}
use Rattle.gw_picture.proofs.Lists.{map-get}
use Rattle.dnp_master.specs.Master.{master_down}
use Rattle.gw_steps.specs.declared.step.Step.{Step}
use Rattle.gw_steps.specs.declared.step.Step.TheVariants as steps
use Rattle.gw_steps.specs.declared.step.Reply.{Reply}
use Rattle.gw_steps.specs.declared.step.StepFault.{StepFault}
use Rattle.gw_steps.specs.State.{State, at_first}
use Rattle.gw_steps.specs.Steps.{Allowed, outcome, after}
use Rattle.gw_steps.specs.Runs.{Entry, state_after}
use Rattle.gw_steps.proofs.Running.{entry}
use Rattle.law_history.specs.Accepted.{last_text, asked_of}
use Rattle.law_history.proofs.Masters.{MasterTied, same_master}
use Rattle.law_history.proofs.Outstations.{outstation_up, outstation_down, fragment, poll, tick}
use Rattle.law_history.proofs.Tied.{Tied, brought, quiet_tied, fault_tied}

-- ---- at first

outstation_tied : (setup : Setup) (o : ℕ) (x : Option OutstationSetup) → slice_get setup.outstations o ≡ x
    → MasterTied setup o [] (option_map (λ (outstation : OutstationSetup). master_down outstation.poll) x)
outstation_tied setup o None e = tt
outstation_tied setup o (Some x) e = record {
  poll = ap (option_map (λ
      (outstation : OutstationSetup). outstation.poll)) e;
  last = refl;
  number = omega arith;
  awaits = tt;
}

pub first_tied : (setup : Setup) → Tied setup [] (at_first setup)
first_tied setup = record {
  picture = refl;
  outstations = λ o. rw (map-get (λ (outstation : OutstationSetup). master_down outstation.poll) setup.outstations o)
      (outstation_tied setup o (slice_get setup.outstations o) refl);
  moment = refl;
}

-- ---- one entry more

-- a step of a client
client_tied : (setup : Setup) (past : List Entry) (step : Step) (r : Reply) (s : State)
    → brought setup past (entry step (Ok r)) ≡ []
    → (after setup s step).picture ≡ s.picture → (after setup s step).outstations ≡ s.outstations
    → ((o : ℕ) → last_text o (entry step (Ok r) ∷ past) ≡ last_text o past)
    → ((o : ℕ) → asked_of setup o (entry step (Ok r) ∷ past) ≡ asked_of setup o past)
    → Tied setup past s → Tied setup (entry step (Ok r) ∷ past) (after setup s step)
client_tied setup past step r s none picture outstations lasts asks tied =
    quiet_tied setup past step r s none picture
    (λ o. rw outstations (same_master setup o past (entry step (Ok r)) (slice_get s.outstations o) (lasts o) (asks o)
    (tied.outstations o))) tied

step_tied : (setup : Setup) (past : List Entry) (step : Step) (r : Reply) (s : State)
    → HasSingleAddresses setup.rows setup.controls
    → outcome setup s step ≡ Ok r → Tied setup past s → Tied setup (entry step (Ok r) ∷ past) (after setup s step)
step_tied setup past (steps.OutstationUp o m) r s single e tied = outstation_up setup past o m r s tied
step_tied setup past (steps.OutstationDown o m) r s single e tied = outstation_down setup past o m r s single tied
step_tied setup past (steps.Fragment f m) r s single e tied = fragment setup past f m r s single e tied
step_tied setup past (steps.Poll o m wall) r s single e tied = poll setup past o m wall r s e tied
step_tied setup past (steps.ClientUp c m) r s single e tied =
    client_tied setup past (steps.ClientUp c m) r s refl refl refl (λ o. refl) (λ o. refl) tied
step_tied setup past (steps.ClientDown c m) r s single e tied =
    client_tied setup past (steps.ClientDown c m) r s refl refl refl (λ o. refl) (λ o. refl) tied
step_tied setup past (steps.Frame c apdu m) r s single e tied =
    client_tied setup past (steps.Frame c apdu m) r s refl refl refl (λ o. refl) (λ o. refl) tied
step_tied setup past (steps.Pump c m) r s single e tied =
    client_tied setup past (steps.Pump c m) r s refl refl refl (λ o. refl) (λ o. refl) tied
step_tied setup past (steps.Tick m) r s single e tied = tick setup past m r s tied

pub tied_more : (setup : Setup) (past : List Entry) (step : Step) (reply : Result Reply StepFault)
    → HasSingleAddresses setup.rows setup.controls
    → Allowed setup (state_after setup past) step reply (state_after setup (entry step reply ∷ past))
    → Tied setup past (state_after setup past)
    → Tied setup (entry step reply ∷ past) (state_after setup (entry step reply ∷ past))
tied_more setup past step (Ok r) single allowed tied =
    step_tied setup past step r (state_after setup past) single allowed.0 tied
tied_more setup past step (Err f) single allowed tied = fault_tied setup past step f (state_after setup past) tied
