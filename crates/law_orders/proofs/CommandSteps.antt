-- At each place of a run the selections whose sessions stand are those that the history tells.
use Rattle.std.proofs.Common.{◌≡◌, ℕ, zero, suc, ◌+◌, Bool, false, cond, List, [], ◌∷◌, length, map, replicate}
use Rattle.std.proofs.Common.{Option, Some, None, Result, Ok, Err, refl, sym, ap, subst, ◌∙◌, arith, inl, inr}
use Rattle.std.specs.Prelude.{◌==◌, slice_get, slice_index}
use Rattle.std.proofs.lemmas.Bool.{cases_Bool}
use Rattle.std.proofs.lemmas.List.{length-map}
use Rattle.gw_model.specs.declared.control.Ended.{Ended}
use Rattle.gw_model.specs.declared.control.Order.{Order}
use Rattle.gw_model.specs.declared.observation.Observation.{Observation}
use Rattle.gw_map.specs.Settings.{Setup, station_clocks}
use Rattle.gw_model.specs.Places.{change}
use Rattle.gw_picture.proofs.Lists.{change-length}
use Rattle.gw_picture.specs.Picture.{news_of}
use Rattle.dnp_app.specs.Response.{Fragment}
use Rattle.iec_apci.specs.declared.apdu.Apdu.{Apdu}
use Rattle.gw_control.specs.declared.answer.Outcome.{Outcome}
use Rattle.gw_control.specs.Controls.{Controls, clients, controls_after_end, controls_after_taking}
use Rattle.gw_control.specs.Moves.{IsSoundControls}
use Rattle.gw_control.specs.Orders.{places as order_places}
use Rattle.gw_station.specs.declared.client.Stage.{Stage}
use Rattle.gw_station.specs.declared.client.Stage.TheVariants.{Down, Started, Stopped}
use Rattle.gw_station.specs.Client.{Client, client_after_close, client_after_tick, client_after_up}
use Rattle.gw_station.specs.Client.{client_with_news, is_started, is_timed_out, is_up}
use Rattle.gw_station.specs.Frames.{begins, close_of, event_of}
use Rattle.gw_station.specs.Pump.{client_after_pump}
use Rattle.gw_steps.specs.declared.step.Step.{Step}
use Rattle.gw_steps.specs.declared.step.Step.TheVariants as steps
use Rattle.gw_steps.specs.declared.step.Reply.{Reply}
use Rattle.gw_steps.specs.declared.step.StepFault.{StepFault}
use Rattle.gw_steps.specs.declared.step.StepFault.TheVariants.{NoClient}
use Rattle.gw_steps.specs.Controls.{clients_told, controls_with_ended, ended_lost, order_due}
use Rattle.gw_steps.specs.State.{State, at_first, client_limit, later}
use Rattle.gw_steps.specs.Steps.{Allowed, after, begun_by, bits_of, can_be_counted, client_reply}
use Rattle.gw_steps.specs.Steps.{controls_after_frame, ended_late, fault_of, is_accepting, latest, losses}
use Rattle.gw_steps.specs.Steps.{needs, order_ended, outcome, outcomes_of_fragment, outcomes_of_loss}
use Rattle.gw_steps.specs.Steps.{outcomes_of_tick, parts_after_poll, reply_of_event, reply_to}
use Rattle.gw_steps.specs.Runs.{Entry, state_after}
use Rattle.gw_steps.proofs.Inversion.{answered, who_is_down, who_is_up}
use Rattle.gw_steps.proofs.Running.{entry}
use Rattle.law_history.specs.Accepted.{moment_after}
use Rattle.law_history.specs.Life.{has_bit}
use Rattle.law_history.proofs.Bits.{bit_told}
use Rattle.law_history.proofs.Told.{told_length}
use Rattle.law_orders.specs.Selections.{Selected, moment_at, selected, selected_with}
use Rattle.law_orders.proofs.Changed.{all_told, told_kept}
use Rattle.law_orders.proofs.Opened.{Leaves, end_leaves, none_current, none_kept, none_open, open_at, open_left, still_leaves, unless_none}
use Rattle.law_orders.proofs.SelectionCloses.{ended_selections, ended_sessions, lost_selections, lost_sessions, tick_leaves}
use Rattle.gw_steps.specs.Queries.{started_at}
use Rattle.law_orders.proofs.Stages.{pumped_stage, ticked_stage, told_stage}
use Rattle.law_orders.proofs.CommandFrames.{FreshState, IsFresh, Framed, ending, framed, framing, leaving, staying}

-- after a step with a reply
pub record Goes (setup : Setup) (past : List Entry) (step : Step) (r : Reply) (s new : State) : Type 0 where
  pub fresh : FreshState new
  pub opened : (p : ℕ) → open_at p new.controls ≡ selected_with setup p past step (open_at p s.controls) r

-- ---- clients and sessions stay as they are

unchanged : (s : State) (w : Controls) → w.sessions ≡ s.controls.sessions → w.selections ≡ s.controls.selections
    → FreshState s → IsFresh s.clients s.sessions (s.counts.sessions + 0) w
unchanged s w sessions selections fresh =
    leaving (λ c. false) s.clients s.clients s.sessions s.counts.sessions (s.counts.sessions + 0) s.controls w refl
    (λ c. refl) (omega arith) (still_leaves s.controls w sessions selections) fresh

opened_still : (s : State) (w : Controls) (p : ℕ) → w.sessions ≡ s.controls.sessions
    → w.selections ≡ s.controls.selections → open_at p w ≡ open_at p s.controls
opened_still s w p sessions selections =
    open_left (λ c. false) s.controls w p (still_leaves s.controls w sessions selections)
    ∙ unless_none (open_at p s.controls)

-- news come to all, and they are told of their orders
news_come : (s : State) (xs : List Observation) (outcomes : List Outcome) (w : Controls)
    → w.sessions ≡ s.controls.sessions → w.selections ≡ s.controls.selections → FreshState s
    → IsFresh (clients_told outcomes (map (client_with_news xs) s.clients)) s.sessions (s.counts.sessions + 0) w
news_come s xs outcomes w sessions selections fresh =
    let ks : List Client = map (client_with_news xs) s.clients in
    leaving (λ c. false) s.clients (clients_told outcomes ks) s.sessions s.counts.sessions (s.counts.sessions + 0)
    s.controls w (told_length outcomes ks ∙ length-map s.clients (client_with_news xs))
    (λ c. told_stage outcomes ks c ∙ all_told started_at (client_with_news xs) s.clients c (λ k. refl))
    (omega arith) (still_leaves s.controls w sessions selections) fresh

-- ---- outstations

outstation_up : (setup : Setup) (past : List Entry) (o m : ℕ) (r : Reply) (s : State) → FreshState s
    → Goes setup past (steps.OutstationUp o m) r s (after setup s (steps.OutstationUp o m))
outstation_up setup past o m r s fresh = record {
  fresh = unchanged s s.controls refl refl fresh;
  opened = λ p. sym (unless_none (open_at p s.controls));
}

outstation_down : (setup : Setup) (past : List Entry) (o m : ℕ) (r : Reply) (s : State) → FreshState s
    → Goes setup past (steps.OutstationDown o m) r s (after setup s (steps.OutstationDown o m))
outstation_down setup past o m r s fresh =
    let e : Option Ended = ended_lost (slice_get s.outstations o) in
    let ended : Controls = controls_with_ended o e s.controls in
    let w : Controls = (after setup s (steps.OutstationDown o m)).controls in
    let sessions : w.sessions ≡ s.controls.sessions =
    lost_sessions order_places o ended ∙ ended_sessions o e s.controls in
    let selections : w.selections ≡ s.controls.selections =
    lost_selections order_places o ended ∙ ended_selections o e s.controls in
    record {
      fresh = news_come s (losses setup s o) (outcomes_of_loss s o) w sessions selections fresh;
      opened = λ p. opened_still s w p sessions selections ∙ sym (unless_none (open_at p s.controls));
    }

fragment : (setup : Setup) (past : List Entry) (f : Fragment) (m : ℕ) (r : Reply) (s : State) → FreshState s
    → Goes setup past (steps.Fragment f m) r s (after setup s (steps.Fragment f m))
fragment setup past f m r s fresh =
    let o : ℕ = f.outstation in
    let e : Option Ended = order_ended s f in
    let w : Controls = controls_with_ended o e s.controls in
    let none : (p : ℕ) → open_at p w ≡ selected_with setup p past (steps.Fragment f m) (open_at p s.controls) r =
    λ p. opened_still s w p (ended_sessions o e s.controls) (ended_selections o e s.controls)
    ∙ sym (unless_none (open_at p s.controls)) in
    elim (cases_Bool (is_accepting s f)) [
      | inl taken ↦ rw taken (record {
        fresh = news_come s (news_of (station_clocks setup.station) setup.rows s.picture f.reports)
            (outcomes_of_fragment s f) w (ended_sessions o e s.controls) (ended_selections o e s.controls) fresh;
        opened = none;
      })
      | inr left ↦ rw left (record {
        fresh = unchanged s s.controls refl refl fresh;
        opened = λ p. sym (unless_none (open_at p s.controls));
      })
    ]

poll : (setup : Setup) (past : List Entry) (o m wall : ℕ) (r : Reply) (s : State) → FreshState s
    → Goes setup past (steps.Poll o m wall) r s (after setup s (steps.Poll o m wall))
poll setup past o m wall r s fresh =
    let k = by (order_due s o) in record { fresh = k.0; opened = k.1 }
  where
    by : (order : Option Order)
        → let new : State = parts_after_poll s (latest s m) o wall order in
        IsFresh new.clients new.sessions (s.counts.sessions + 0) new.controls
        × ((p : ℕ) → open_at p new.controls
        ≡ selected_with setup p past (steps.Poll o m wall) (open_at p s.controls) r)
    by None = (unchanged s s.controls refl refl fresh, λ p. sym (unless_none (open_at p s.controls)))
    by (Some order) = (
      unchanged s (controls_after_taking o s.controls) refl refl fresh,
      λ p. sym (unless_none (open_at p s.controls)),
    )

-- ---- clients

not_started : (stage : Stage) → is_up stage ≡ false → is_started stage ≡ false
not_started Down e = refl
not_started Stopped e = refl
not_started Started e = e

client_up : (setup : Setup) (past : List Entry) (c m : ℕ) (r : Reply) (s : State)
    → outcome setup s (steps.ClientUp c m) ≡ Ok r → FreshState s
    → Goes setup past (steps.ClientUp c m) r s (after setup s (steps.ClientUp c m))
client_up setup past c m r s e fresh =
    let step : Step = steps.ClientUp c m in
    let told = answered (fault_of s step) (can_be_counted s (needs setup s step)) (reply_to setup s step) r e in
    let down = who_is_down (λ (k : Client). is_up k.stage) NoClient (slice_get s.clients c) told.0 in
    record {
      fresh = staying c s (client_after_up (latest s m)) down.0 s.controls down.1
          (sym (not_started down.0.stage down.2)) fresh;
      opened = λ p. sym (unless_none (open_at p s.controls));
    }

client_down : (setup : Setup) (past : List Entry) (c m : ℕ) (r : Reply) (s : State)
    → outcome setup s (steps.ClientDown c m) ≡ Ok r → FreshState s
    → Goes setup past (steps.ClientDown c m) r s (after setup s (steps.ClientDown c m))
client_down setup past c m r s e fresh =
    let step : Step = steps.ClientDown c m in
    let told = answered (fault_of s step) (can_be_counted s (needs setup s step)) (reply_to setup s step) r e in
    let up = who_is_up (λ (k : Client). is_up k.stage) NoClient (slice_get s.clients c) told.0 in
    record {
      fresh = ending c s client_after_close up.0 up.1 refl fresh;
      opened = λ p. open_left (λ d. d == c) s.controls (controls_after_end c s.controls) p (end_leaves c s.controls);
    }

pump : (setup : Setup) (past : List Entry) (c m : ℕ) (r : Reply) (s : State) → FreshState s
    → Goes setup past (steps.Pump c m) r s (after setup s (steps.Pump c m))
pump setup past c m r s fresh = record {
  fresh = leaving (λ d. false) s.clients (change c (client_after_pump (station_clocks setup.station) (latest s m)) s.clients) s.sessions
      s.counts.sessions (s.counts.sessions + 0) s.controls s.controls
      (change-length c (client_after_pump (station_clocks setup.station) (latest s m)) s.clients)
      (λ d. told_kept started_at c (client_after_pump (station_clocks setup.station) (latest s m)) s.clients d (λ k. pumped_stage (station_clocks setup.station) (latest s m) k))
      (omega arith) (still_leaves s.controls s.controls refl refl) fresh;
  opened = λ p. sym (unless_none (open_at p s.controls));
}

frame : (setup : Setup) (past : List Entry) (c m : ℕ) (apdu : Apdu) (r : Reply) (s : State)
    → s.moment ≡ moment_after past → IsSoundControls setup s.controls
    → outcome setup s (steps.Frame c apdu m) ≡ Ok r → FreshState s
    → Goes setup past (steps.Frame c apdu m) r s (after setup s (steps.Frame c apdu m))
frame setup past c m apdu r s moment sound e fresh =
    let step : Step = steps.Frame c apdu m in
    let told = answered (fault_of s step) (can_be_counted s (needs setup s step)) (reply_to setup s step) r e in
    let up = who_is_up (λ (k : Client). is_up k.stage) NoClient (slice_get s.clients c) told.0 in
    let k : Client = up.0 in
    let reply : reply_of_event (event_of setup apdu k) ≡ r =
    sym (ap (client_reply (λ (x : Client). reply_of_event (event_of setup apdu x))) up.1) ∙ told.2 in
    let own : Framed setup past c m apdu s (framing setup c m s apdu) (begins apdu k)
    (controls_after_frame setup s (latest s m) c apdu (Some k)) (reply_of_event (event_of setup apdu k)) =
    framed setup past c m s k apdu (close_of setup apdu k) refl (told_at s past m moment) up.1 sound fresh in
    let there : Framed setup past c m apdu s (framing setup c m s apdu) (begun_by apdu (slice_get s.clients c))
    (controls_after_frame setup s (latest s m) c apdu (slice_get s.clients c)) r =
    subst (λ (x : Option Client). Framed setup past c m apdu s (framing setup c m s apdu) (begun_by apdu x)
    (controls_after_frame setup s (latest s m) c apdu x) r) (sym up.1)
    (subst (λ (x : Reply). Framed setup past c m apdu s (framing setup c m s apdu) (begins apdu k)
    (controls_after_frame setup s (latest s m) c apdu (Some k)) x) reply own) in
    record { fresh = there.fresh; opened = there.opened }
  where
    told_at : (s : State) (past : List Entry) (m : ℕ) → s.moment ≡ moment_after past
        → latest s m ≡ moment_at past (steps.Frame c apdu m)
    told_at s past m moment = ap (λ (n : ℕ). later n m) moment

tick : (setup : Setup) (past : List Entry) (m : ℕ) (r : Reply) (s : State)
    → outcome setup s (steps.Tick m) ≡ Ok r → FreshState s
    → Goes setup past (steps.Tick m) r s (after setup s (steps.Tick m))
tick setup past m r s e fresh =
    let step : Step = steps.Tick m in
    let moment : ℕ = latest s m in
    let bs : List Bool = map (is_timed_out moment) s.clients in
    let ks : List Client = map (client_after_tick moment) s.clients in
    let outcomes : List Outcome = outcomes_of_tick s moment in
    let told = answered (fault_of s step) (can_be_counted s (needs setup s step)) (reply_to setup s step) r e in
    let leaves : Leaves (λ c. has_bit c (bits_of bs)) s.controls (after setup s step).controls =
    tick_leaves bs (ended_late s moment) s.controls in
    subst (λ (x : Reply). Goes setup past step x s (after setup s step)) told.2 (record {
      fresh = leaving (λ c. has_bit c (bits_of bs)) s.clients (clients_told outcomes ks) s.sessions s.counts.sessions
          (s.counts.sessions + 0) s.controls (after setup s step).controls
          (told_length outcomes ks ∙ length-map s.clients (client_after_tick moment))
          (λ c. told_stage outcomes ks c ∙ (ticked_stage moment s.clients c
          ∙ sym (ap (λ (b : Bool). cond b false (started_at (slice_get s.clients c))) (bit_told bs c))))
          (omega arith) leaves fresh;
      opened = λ p. open_left (λ c. has_bit c (bits_of bs)) s.controls (after setup s step).controls p leaves;
    })

-- ---- all steps

step_goes : (setup : Setup) (past : List Entry) (step : Step) (r : Reply) (s : State)
    → s.moment ≡ moment_after past → IsSoundControls setup s.controls → outcome setup s step ≡ Ok r → FreshState s
    → Goes setup past step r s (after setup s step)
step_goes setup past (steps.OutstationUp o m) r s moment sound e fresh = outstation_up setup past o m r s fresh
step_goes setup past (steps.OutstationDown o m) r s moment sound e fresh = outstation_down setup past o m r s fresh
step_goes setup past (steps.Fragment f m) r s moment sound e fresh = fragment setup past f m r s fresh
step_goes setup past (steps.Poll o m wall) r s moment sound e fresh = poll setup past o m wall r s fresh
step_goes setup past (steps.ClientUp c m) r s moment sound e fresh = client_up setup past c m r s e fresh
step_goes setup past (steps.ClientDown c m) r s moment sound e fresh = client_down setup past c m r s e fresh
step_goes setup past (steps.Frame c apdu m) r s moment sound e fresh =
    frame setup past c m apdu r s moment sound e fresh
step_goes setup past (steps.Pump c m) r s moment sound e fresh = pump setup past c m r s fresh
step_goes setup past (steps.Tick m) r s moment sound e fresh = tick setup past m r s e fresh

-- ---- each place

-- the selections of the state are those of the history
pub record Selects (setup : Setup) (past : List Entry) (s : State) : Type 0 where
  pub fresh : FreshState s
  pub tells : (p : ℕ) → open_at p s.controls ≡ selected setup p past

no_session : (n c : ℕ) → slice_index (replicate n 0) c ≡ 0
no_session zero c = refl
no_session (suc n) zero = refl
no_session (suc n) (suc c) = no_session n c

pub first_selects : (setup : Setup) → Selects setup [] (at_first setup)
first_selects setup =
    let started : ℕ → Bool = λ c. started_at (slice_get (at_first setup).clients c) in
    let number : ℕ → ℕ = λ c. slice_index (at_first setup).sessions c in
    let sessions : List (Option ℕ) = (at_first setup).controls.sessions in
    record {
      fresh = record {
        few = refl;
        each = refl;
        fresh = record {
          counted = λ c. omega (arith, no_session client_limit c);
          current = λ c. none_current (started c) (number c) clients c;
          kept = λ p. none_kept started number 0 sessions (length setup.controls) p;
        };
      };
      tells = λ p. none_open sessions (length setup.controls) p;
    }

pub selects_more : (setup : Setup) (past : List Entry) (step : Step) (reply : Result Reply StepFault)
    → (state_after setup past).moment ≡ moment_after past
    → IsSoundControls setup (state_after setup past).controls
    → Allowed setup (state_after setup past) step reply (state_after setup (entry step reply ∷ past))
    → Selects setup past (state_after setup past)
    → Selects setup (entry step reply ∷ past) (state_after setup (entry step reply ∷ past))
selects_more setup past step (Ok r) moment sound allowed before =
    let k = step_goes setup past step r (state_after setup past) moment sound allowed.0 before.fresh in
    record {
      fresh = k.fresh;
      tells = λ p. k.opened p ∙ ap (λ (x : Option Selected). selected_with setup p past step x r) (before.tells p);
    }
selects_more setup past step (Err f) moment sound allowed before =
    record { fresh = before.fresh; tells = before.tells }
