-- What ties outstations, picture and moment of the state to the history.
use Rattle.std.proofs.Common.{◌≡◌, ℕ, List, [], ◌∷◌, ◌++◌, Ok, Err, sym, ap, ◌∙◌, refl}
use Rattle.std.specs.Prelude.{slice_get}
use Rattle.std.proofs.lemmas.List.{append-nil}
use Rattle.gw_model.specs.declared.observation.Observation.{Observation}
use Rattle.gw_map.specs.Settings.{Setup}
use Rattle.gw_picture.specs.Log.{picture_of}
use Rattle.gw_steps.specs.declared.step.Step.{Step}
use Rattle.gw_steps.specs.declared.step.Reply.{Reply}
use Rattle.gw_steps.specs.declared.step.StepFault.{StepFault}
use Rattle.gw_steps.specs.State.{State, later}
use Rattle.gw_steps.specs.Steps.{latest, moment_of, after}
use Rattle.gw_steps.specs.Runs.{Entry}
use Rattle.gw_steps.proofs.Running.{entry}
use Rattle.law_history.specs.Accepted.{moment_after}
use Rattle.law_history.specs.Log.{log_of, news_of_entry}
use Rattle.law_history.proofs.Masters.{MasterTied, same_master}

pub record Tied (setup : Setup) (past : List Entry) (s : State) : Type 0 where
  pub picture : s.picture ≡ picture_of setup.rows (log_of setup past)
  pub outstations : (o : ℕ) → MasterTied setup o past (slice_get s.outstations o)
  pub moment : s.moment ≡ moment_after past

-- the moment that the history tells
pub told_moment : (setup : Setup) (past : List Entry) (s : State) (m : ℕ) → Tied setup past s
    → latest s m ≡ later (moment_after past) m
told_moment setup past s m tied = ap (λ (n : ℕ). later n m) tied.moment

-- what an entry brings to the log
abbrev pub brought : Setup → List Entry → Entry → List Observation
brought setup past e = news_of_entry setup (log_of setup past) past e

-- a log to which nothing came
pub same_log : (setup : Setup) (past : List Entry) (e : Entry) (picture : List Observation) → brought setup past e ≡ []
    → picture ≡ picture_of setup.rows (log_of setup past) → picture ≡ picture_of setup.rows (log_of setup (e ∷ past))
same_log setup past e picture none tied =
    let log = log_of setup past in
    tied ∙ sym (ap (λ (xs : List Observation). picture_of setup.rows (log ++ xs)) none
    ∙ ap (picture_of setup.rows) (append-nil log))

-- a step that brings no news
pub quiet_tied : (setup : Setup) (past : List Entry) (step : Step) (r : Reply) (s : State)
    → brought setup past (entry step (Ok r)) ≡ [] → (after setup s step).picture ≡ s.picture
    → ((o : ℕ) → MasterTied setup o (entry step (Ok r) ∷ past) (slice_get (after setup s step).outstations o))
    → Tied setup past s → Tied setup (entry step (Ok r) ∷ past) (after setup s step)
quiet_tied setup past step r s none picture outstations tied = record {
  picture = picture ∙ same_log setup past (entry step (Ok r)) s.picture none tied.picture;
  outstations = outstations;
  moment = told_moment setup past s (moment_of step) tied;
}

-- a fault
pub fault_tied : (setup : Setup) (past : List Entry) (step : Step) (f : StepFault) (s : State) → Tied setup past s
    → Tied setup (entry step (Err f) ∷ past) s
fault_tied setup past step f s tied = record {
  picture = same_log setup past (entry step (Err f)) s.picture refl tied.picture;
  outstations = λ o. same_master setup o past (entry step (Err f)) (slice_get s.outstations o) refl refl
      (tied.outstations o);
  moment = tied.moment;
}
