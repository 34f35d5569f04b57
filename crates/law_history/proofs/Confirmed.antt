-- What a reply confirms is what is due by the history.
use Rattle.std.proofs.Common.{◌≡◌, ℕ, Bool, true, false, cond, List, [], ◌∷◌, Option}
use Rattle.std.proofs.Common.{Some, None, Result, Ok, Err, refl, ap, subst, ◌∙◌}
use Rattle.std.proofs.Math.Bool.{or-false}
use Rattle.std.specs.Prelude.{slice_get}
use Rattle.gw_model.specs.declared.control.Order.{Order}
use Rattle.gw_map.specs.Settings.{Setup, station_clocks}
use Rattle.dnp_app.specs.Response.{Fragment, is_unsolicited}
use Rattle.dnp_app.specs.declared.request.Request.{Request}
use Rattle.dnp_master.specs.Master.{Master}
use Rattle.dnp_master.specs.Fragments.{is_last, verdict_of}
use Rattle.iec_apci.specs.Apdu.{ApduContent}
use Rattle.gw_station.specs.declared.event.Event.{Event}
use Rattle.gw_station.specs.declared.event.Event.TheVariants as events
use Rattle.gw_station.specs.Client.{Client, is_up}
use Rattle.gw_station.specs.Frames.{event_of}
use Rattle.gw_station.specs.Pump.{given}
use Rattle.gw_steps.specs.declared.step.Step.{Step}
use Rattle.gw_steps.specs.declared.step.Step.TheVariants as steps
use Rattle.gw_steps.specs.declared.step.Reply.{Reply}
use Rattle.gw_steps.specs.declared.step.StepFault.{StepFault}
use Rattle.gw_steps.specs.declared.step.StepFault.TheVariants.{NoOutstation, NoClient}
use Rattle.gw_steps.specs.Controls.{order_for}
use Rattle.gw_steps.specs.State.{State}
use Rattle.gw_steps.specs.Steps.{Allowed, outcome, needs, can_be_counted, reply_to, fault_of}
use Rattle.gw_steps.specs.Steps.{reply_of_event, reply_asking, reply_giving, request_polled, latest}
use Rattle.gw_steps.specs.Runs.{Entry, state_after}
use Rattle.gw_steps.proofs.Inversion.{answered, who_is_up}
use Rattle.law_history.specs.Accepted.{last_text, AskedRequest, is_in_sequence, is_in_place, is_answer, asked_of}
use Rattle.law_history.specs.Confirmations.{asked_confirmation, verdict_in, verdict_due_to_answer}
use Rattle.law_history.specs.Confirmations.{verdict_due, confirmation_in, confirmation_due}
use Rattle.law_history.specs.Confirmations.{without_order, Confirms, ConfirmsBy, Confirmations}
use Rattle.law_history.proofs.Masters.{MasterIs, MasterTied, verdict_is}
use Rattle.law_history.proofs.Tied.{Tied}
use Rattle.law_history.proofs.Places.{Place}

answer_confirms : (asked : Option AskedRequest) (f : Fragment)
    → confirmation_in (Some (verdict_due_to_answer asked f)) ≡ cond (is_answer asked f) (asked_confirmation f.octets) None
answer_confirms None f = refl
answer_confirms (Some a) f = go (is_in_sequence a f) (is_in_place a f) refl refl
  where
    go : (s p : Bool) → is_in_sequence a f ≡ s → is_in_place a f ≡ p
        → confirmation_in (Some (verdict_due_to_answer (Some a) f)) ≡ cond (is_answer (Some a) f)
        (asked_confirmation f.octets) None
    go true true es ep = rw (es, ep) refl
    go true false es ep = rw (es, ep) refl
    go false p es ep = rw es refl

-- the confirmation in what is to be said of a fragment is the one that is due
due_confirms : (setup : Setup) (past : List Entry) (f : Fragment) (m : ℕ)
    → confirmation_in (Some (verdict_due setup past f)) ≡ confirmation_due setup past (steps.Fragment f m)
due_confirms setup past f m = go (is_unsolicited f) (is_last (last_text f.outstation past) f.octets) refl refl
  where
    go : (b text : Bool) → is_unsolicited f ≡ b → is_last (last_text f.outstation past) f.octets ≡ text
        → confirmation_in (Some (verdict_due setup past f)) ≡ confirmation_due setup past (steps.Fragment f m)
    go true true e et = rw (e, et) refl
    go true false e et = rw (e, et) refl
    go false text e et =
        rw (e, or-false (is_answer (asked_of setup f.outstation past) f))
        (answer_confirms (asked_of setup f.outstation past) f)

confirms : (setup : Setup) (past : List Entry) (step : Step) (r : Reply) (s : State) → outcome setup s step ≡ Ok r
    → Tied setup past s → Confirms setup past step r
confirms setup past step r s e tied =
    let told = answered (fault_of s step) (can_be_counted s (needs setup s step)) (reply_to setup s step) r e in
    subst (Confirms setup past step) told.2 (by step told.0)
  where
    of_event : (event : Event) → (verdict_in (reply_of_event event) ≡ None)
    of_event events.Taken = refl
    of_event (events.Command command) = refl
    of_event (events.Closed why) = refl

    of_asking : (request : Option Request) → verdict_in (reply_asking request) ≡ None
    of_asking None = refl
    of_asking (Some request) = refl

    of_given : (content : Option ApduContent) → verdict_in (reply_giving content) ≡ None
    of_given None = refl
    of_given (Some content) = refl

    by : (step : Step) → fault_of s step ≡ None → Confirms setup past step (reply_to setup s step)
    by (steps.OutstationUp o m) e = record { verdict = refl; confirmation = refl }
    by (steps.ClientUp c m) e = record { verdict = refl; confirmation = refl }
    by (steps.ClientDown c m) e = record { verdict = refl; confirmation = refl }
    by (steps.OutstationDown o m) e = record { verdict = refl; confirmation = refl }
    by (steps.Tick m) e = record { verdict = refl; confirmation = refl }
    by (steps.Fragment f m) e =
        let up = who_is_up (λ (x : Master). x.up) NoOutstation (slice_get s.outstations f.outstation) e in
        let is : MasterIs setup f.outstation past up.0 =
        subst (MasterTied setup f.outstation past) up.1 (tied.outstations f.outstation) in
        let said : without_order (verdict_of up.0 f) ≡ verdict_due setup past f = verdict_is setup past f up.0 is in
        rw up.1 (record {
          verdict = ap (λ v. Some v) said;
          confirmation = ap (λ v. confirmation_in (Some v)) said ∙ due_confirms setup past f m;
        })
    by (steps.Poll o m wall) e =
        let up = who_is_up (λ (x : Master). x.up) NoOutstation (slice_get s.outstations o) e in
        let order : Option Order = order_for (Some up.0) (slice_get s.controls.outgoing o) in
        let none = of_asking (request_polled order (latest s m) wall up.0) in
        rw up.1 (record { verdict = none; confirmation = ap confirmation_in none })
    by (steps.Frame c a m) e =
        let up = who_is_up (λ (k : Client). is_up k.stage) NoClient (slice_get s.clients c) e in
        let none = of_event (event_of setup a up.0) in
        rw up.1 (record { verdict = none; confirmation = ap confirmation_in none })
    by (steps.Pump c m) e =
        let up = who_is_up (λ (k : Client). is_up k.stage) NoClient (slice_get s.clients c) e in
        let none = of_given (given (station_clocks setup.station) (latest s m) up.0) in
        rw up.1 (record { verdict = none; confirmation = ap confirmation_in none })

-- ---- the law

by_reply : (setup : Setup) (past : List Entry) (step : Step) (reply : Result Reply StepFault) (new : State)
    → Allowed setup (state_after setup past) step reply new
    → Tied setup past (state_after setup past) → ConfirmsBy setup past step reply
by_reply setup past step (Ok r) new allowed tied = confirms setup past step r (state_after setup past) allowed.0 tied
by_reply setup past step (Err f) new allowed tied = tt

pub confirmed : (setup : Setup) (past : List Entry) → Place setup past → Confirmations setup past
confirmed setup [] place = tt
confirmed setup (e ∷ past) place = by_reply setup past e.step e.reply
    (state_after setup (e ∷ past)) place.last.0 place.last.1.tied
