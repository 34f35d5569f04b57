-- The first of the master's tasks is the first that is due by the talk, and its request asks for just that.
use Rattle.std.proofs.Common.{◌≡◌, ℕ, ◌+◌, ◌<◌, Bool, true, false, List, [], ◌∷◌, ◌++◌}
use Rattle.std.proofs.Common.{Option, Some, None, option_map, refl, ap, subst, sym, arith}
use Rattle.std.specs.Prelude.{slice_get}
use Rattle.gw_model.specs.First.{first_of, when}
use Rattle.dnp_app.specs.declared.response.ApplicationControl.{ApplicationControl}
use Rattle.dnp_app.specs.Asking.{Asks, RecordTime as Recording, asks_for}
use Rattle.dnp_app.specs.Control.{control_of}
use Rattle.dnp_app.proofs.Written.{time_is_asked}
use Rattle.dnp_master.specs.declared.due.DueTasks.{DueTasks}
use Rattle.dnp_master.specs.declared.task.Task.{Task}
use Rattle.dnp_master.specs.declared.task.Task.TheVariants.{ClearRestart, RecordTime, Disable, Integrity, Enable, EventPoll}
use Rattle.dnp_master.specs.Master.{Master, if_due, task_request, tasks_due, time_due as write_due}
use Rattle.law_orders.specs.Talk.{Turn}
use Rattle.law_orders.specs.Due.{clear_restart, disable, enable, event_poll, events_due, integrity_due, integrity_poll}
use Rattle.law_orders.specs.Requests.{Due, IsDue, ToAsk, in_rank, to_write}
use Rattle.law_orders.proofs.RequestTurns.{IsRecordedAt, IsTold, due_told}

-- a task is what is due: a recording is that of this wall time
pub record Does (wall : ℕ) (task : Task) (due : Due) : Type 0 where
  pub recorded : IsRecordedAt wall task
  pub is : (n : ℕ) → n < 16 → IsDue n due (task_request task n)

abbrev pub Fits : ℕ → Option Task → Option Due → Type 0
Fits wall None None = Unit {0}
Fits wall (Some task) (Some due) = Does wall task due
Fits wall None (Some due) = ⊥
Fits wall (Some task) None = ⊥

-- ---- requests

control_is : (n : ℕ) → n < 16
    → control_of (192 + n) ≡ record { fir = true; fin = true; con = false; uns = false; sequence = n }
control_is n small = grind arith

asks_so : (n : ℕ) (asks : Asks) → n < 16
    → Some (record { control = control_of (192 + n); asks = asks }) ≡ asks_for n asks
asks_so n asks small =
    ap (λ (c : ApplicationControl). Some (record { control = c; asks = asks })) (control_is n small)

-- ---- in the order of rank

abbrev tasks_of : ℕ → Bool → Option ℕ → Bool → Bool → Bool → Bool → Bool → List Task
tasks_of wall clear time record_it off integrity on events =
    if_due clear ClearRestart
    ++ (write_due time
    ++ (if_due record_it (RecordTime wall)
    ++ (if_due off Disable
    ++ (if_due integrity Integrity
    ++ (if_due on Enable
    ++ if_due events EventPoll)))))

abbrev dues_of : Bool → Option ℕ → Bool → Bool → Bool → Bool → Bool → List (Option Due)
dues_of clear time record_it off integrity on events =
    when clear (ToAsk clear_restart)
    ∷ option_map to_write time
    ∷ when record_it (ToAsk Recording)
    ∷ when off (ToAsk disable)
    ∷ when integrity (ToAsk integrity_poll)
    ∷ when on (ToAsk enable)
    ∷ when events (ToAsk event_poll)
    ∷ []

ranked : (wall : ℕ) (clear : Bool) (time : Option ℕ) (record_it off integrity on events : Bool)
    → Fits wall (slice_get (tasks_of wall clear time record_it off integrity on events) 0)
    (first_of (dues_of clear time record_it off integrity on events))
ranked wall true time record_it off integrity on events =
    record { recorded = tt; is = λ n small. (refl, asks_so n clear_restart small) }
ranked wall false (Some time) record_it off integrity on events =
    record { recorded = tt; is = λ n small. (refl, time_is_asked n time small) }
ranked wall false None true off integrity on events =
    record { recorded = refl; is = λ n small. (refl, asks_so n Recording small) }
ranked wall false None false true integrity on events =
    record { recorded = tt; is = λ n small. (refl, asks_so n disable small) }
ranked wall false None false false true on events =
    record { recorded = tt; is = λ n small. (refl, asks_so n integrity_poll small) }
ranked wall false None false false false true events =
    record { recorded = tt; is = λ n small. (refl, asks_so n enable small) }
ranked wall false None false false false false true =
    record { recorded = tt; is = λ n small. (refl, asks_so n event_poll small) }
ranked wall false None false false false false false = tt

-- by the talk
pub first_fits : (moment wall : ℕ) (m : Master) (ts : List Turn) → IsTold m ts
    → Fits wall (slice_get (tasks_due moment wall m.poll m.due) 0) (first_of (in_rank m.poll moment ts))
first_fits moment wall m ts k =
    let told : DueTasks = due_told m.poll ts in
    subst (λ (d : DueTasks). Fits wall (slice_get (tasks_due moment wall m.poll d) 0)
    (first_of (in_rank m.poll moment ts))) (sym k.due)
    (ranked wall told.clear_restart told.write_time told.record_time told.disable
    (integrity_due m.poll moment ts) told.enable (events_due m.poll moment ts))
