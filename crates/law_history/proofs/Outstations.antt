-- Each step of an outstation, and a tick, keeps what ties the state to the history.
use Rattle.std.proofs.Common.{◌≡◌, ℕ, true, false, List, ◌∷◌, ◌++◌, [], Option}
use Rattle.std.proofs.Common.{Some, None, Ok, refl, sym, ap, subst, ◌∙◌, inl, inr}
use Rattle.std.specs.Prelude.{slice_get, option_map}
use Rattle.std.proofs.lemmas.Bool.{cases_Bool, cases_eq, ne_eqb}
use Rattle.gw_model.specs.declared.control.Order.{Order}
use Rattle.gw_model.specs.declared.observation.Observation.{Observation}
use Rattle.gw_map.specs.Settings.{Setup, HasSingleAddresses, station_clocks}
use Rattle.gw_model.specs.Places.{change}
use Rattle.gw_picture.specs.Log.{picture_of}
use Rattle.gw_picture.specs.Loss.{picture_after_loss}
use Rattle.gw_picture.specs.Picture.{picture_after}
use Rattle.gw_picture.proofs.Lists.{change-here, change-there, map-get}
use Rattle.gw_picture.proofs.Losses.{loss_in_log}
use Rattle.dnp_app.specs.declared.request.Request.{Request}
use Rattle.dnp_app.specs.Response.{Fragment}
use Rattle.dnp_master.specs.Master.{Master, master_down, master_after_up, master_after_next}
use Rattle.dnp_master.specs.Master.{master_after_order, master_after_tick, task_given}
use Rattle.dnp_master.specs.Fragments.{accepts, master_after_fragment}
use Rattle.gw_steps.specs.declared.step.Step.{Step}
use Rattle.gw_steps.specs.declared.step.Step.TheVariants as steps
use Rattle.gw_steps.specs.declared.step.Reply.{Reply}
use Rattle.gw_steps.specs.declared.step.StepFault.TheVariants.{NoOutstation}
use Rattle.gw_steps.specs.Controls.{order_due}
use Rattle.gw_steps.specs.State.{State, later}
use Rattle.gw_steps.specs.Steps.{outcome, needs, can_be_counted, reply_to, fault_of, outstation_reply}
use Rattle.gw_steps.specs.Steps.{parts_after_poll, reply_asking, request_polled, is_accepting, latest, after}
use Rattle.gw_steps.specs.Runs.{Entry}
use Rattle.gw_steps.proofs.Inversion.{answered, who_is_up}
use Rattle.gw_steps.proofs.Running.{entry}
use Rattle.law_history.specs.Accepted.{moment_after, last_text, asked_of, is_accepted}
use Rattle.law_history.specs.Log.{log_of, news_after_log}
use Rattle.law_history.proofs.Masters.{MasterIs, MasterTied, same_master, same_accepted, master_up}
use Rattle.law_history.proofs.Masters.{master_lost, master_ordered, master_polled, master_ticked}
use Rattle.law_history.proofs.Masters.{master_accepted, master_left, other_last, other_asked}
use Rattle.law_history.proofs.Pictures.{news_same}
use Rattle.law_history.proofs.Tied.{Tied, told_moment, brought, same_log, quiet_tied}

-- ---- one outstation

-- one outstation changes, and the others as the history tells of them
changed_outstations : (setup : Setup) (past : List Entry) (e : Entry) (s : State) (o : ℕ) (f : Master → Master)
    → ((p : ℕ) → (o ≡ p → ⊥) → last_text p (e ∷ past) ≡ last_text p past)
    → ((p : ℕ) → (o ≡ p → ⊥) → asked_of setup p (e ∷ past) ≡ asked_of setup p past)
    → MasterTied setup o (e ∷ past) (option_map f (slice_get s.outstations o)) → Tied setup past s
    → (p : ℕ) → MasterTied setup p (e ∷ past) (slice_get (change o f s.outstations) p)
changed_outstations setup past e s o f lasts asks own tied p = elim (cases_eq o p) [
  | inl same ↦ subst (λ (x : ℕ). MasterTied setup x (e ∷ past) (slice_get (change o f s.outstations) x)) same
      (rw (change-here o f s.outstations) own)
  | inr ne ↦ rw (change-there o p f s.outstations ne)
      (same_master setup p past e (slice_get s.outstations p) (lasts p ne) (asks p ne) (tied.outstations p))
]

-- ---- OutstationUp

pub outstation_up : (setup : Setup) (past : List Entry) (o m : ℕ) (r : Reply) (s : State) → Tied setup past s
    → Tied setup (entry (steps.OutstationUp o m) (Ok r) ∷ past) (after setup s (steps.OutstationUp o m))
outstation_up setup past o m r s tied =
    let e : Entry = entry (steps.OutstationUp o m) (Ok r) in
    quiet_tied setup past (steps.OutstationUp o m) r s refl refl
    (changed_outstations setup past e s o (master_after_up
    (latest s m)) (λ p ne. rw (ne_eqb o p ne) refl) (λ p ne. rw (ne_eqb o p ne) refl)
    (master_up setup o m (latest s m) r past (slice_get s.outstations o) (tied.outstations o)) tied)
    tied

-- ---- OutstationDown

pub outstation_down : (setup : Setup) (past : List Entry) (o m : ℕ) (r : Reply) (s : State)
    → HasSingleAddresses setup.rows setup.controls → Tied setup past s
    → Tied setup (entry (steps.OutstationDown o m) (Ok r) ∷ past) (after setup s (steps.OutstationDown o m))
outstation_down setup past o m r s single tied =
    let e : Entry = entry (steps.OutstationDown o m) (Ok r) in
    let log : List Observation = log_of setup past in
    record {
      picture = ap (picture_after_loss o setup.rows) tied.picture ∙ loss_in_log o setup.rows setup.controls log single;
      outstations =
          changed_outstations setup past e s o (λ (x : Master). master_down x.poll) (λ p ne. rw (ne_eqb o p ne)
          refl) (λ p ne. rw (ne_eqb o p ne) refl)
          (master_lost setup o m r past (slice_get s.outstations o) (tied.outstations o)) tied;
      moment = told_moment setup past s m tied;
    }

-- ---- Poll

-- what becomes of its master
abbrev pub master_after_poll : ℕ → ℕ → Option Order → Master → Master
master_after_poll moment wall None x = master_after_next moment wall x
master_after_poll moment wall (Some order) x = master_after_order moment order x

pub polled_outstations : (s : State) (moment o wall : ℕ) (order : Option Order)
    → (parts_after_poll s moment o wall order).outstations
    ≡ change o (master_after_poll moment wall order) s.outstations
polled_outstations s moment o wall None = refl
polled_outstations s moment o wall (Some order) = refl

polled_picture : (s : State) (moment o wall : ℕ) (order : Option Order)
    → (parts_after_poll s moment o wall order).picture ≡ s.picture
polled_picture s moment o wall None = refl
polled_picture s moment o wall (Some order) = refl

other_polled : (setup : Setup) (past : List Entry) (o p m wall : ℕ) (given : Option Request) → (o ≡ p → ⊥)
    → asked_of setup p (entry (steps.Poll o m wall) (Ok (reply_asking given)) ∷ past) ≡ asked_of setup p past
other_polled setup past o p m wall None ne = refl
other_polled setup past o p m wall (Some request) ne = rw (ne_eqb o p ne) refl

-- a poll gives the order that is due, or else a task
master_given : (setup : Setup) (o m wall moment : ℕ) (past : List Entry) (order : Option Order) (x : Master)
    → moment ≡ later (moment_after past) m → MasterIs setup o past x
    → MasterIs setup o (entry (steps.Poll o m wall) (Ok (reply_asking (request_polled order moment wall x))) ∷ past)
    (master_after_poll moment wall order x)
master_given setup o m wall moment past None x at is =
    master_polled setup o m wall moment past x (task_given moment wall x) refl at is
master_given setup o m wall moment past (Some order) x at is =
    master_ordered setup o m wall moment past x order at is

pub poll : (setup : Setup) (past : List Entry) (o m wall : ℕ) (r : Reply) (s : State)
    → outcome setup s (steps.Poll o m wall) ≡ Ok r → Tied setup past s
    → Tied setup (entry (steps.Poll o m wall) (Ok r) ∷ past) (after setup s (steps.Poll o m wall))
poll setup past o m wall r s e tied =
    let step : Step = steps.Poll o m wall in
    let told = answered (fault_of s step) (can_be_counted s (needs setup s step)) (reply_to setup s step) r e in
    let up = who_is_up (λ (x : Master). x.up) NoOutstation (slice_get s.outstations o) told.0 in
    let moment : ℕ = latest s m in
    let order : Option Order = order_due s o in
    let given : Option Request = request_polled order moment wall up.0 in
    let reply : reply_asking given ≡ r = sym (ap (outstation_reply (λ (x : Master). reply_asking
    (request_polled order moment wall x))) up.1) ∙ told.2 in
    let is : MasterIs setup o past up.0 = subst (MasterTied setup o past) up.1 (tied.outstations o) in
    let here : Entry = entry step (Ok (reply_asking given)) in
    let own : MasterTied setup o (here ∷ past) (option_map (master_after_poll moment wall order)
    (slice_get s.outstations o)) =
    subst (λ (y : Option Master). MasterTied setup o (here ∷ past) (option_map (master_after_poll moment wall order) y))
    (sym up.1) (master_given setup o m wall moment past order up.0 (told_moment setup past s m tied) is) in
    subst (λ (x : Reply). Tied setup (entry step (Ok x) ∷ past) (after setup s step)) reply
    (quiet_tied setup past step (reply_asking given) s refl (polled_picture s moment o wall order)
    (λ p. rw (polled_outstations s moment o wall order)
    (changed_outstations setup past here s o (master_after_poll moment wall order) (λ p ne. refl) (λ
    p ne. other_polled setup past o p m wall given ne) own tied p))
    tied)

-- ---- Tick

pub tick : (setup : Setup) (past : List Entry) (m : ℕ) (r : Reply) (s : State) → Tied setup past s
    → Tied setup (entry (steps.Tick m) (Ok r) ∷ past) (after setup s (steps.Tick m))
tick setup past m r s tied =
    let moment : ℕ = latest s m in
    quiet_tied setup past (steps.Tick m) r s refl refl
    (λ p. rw (map-get (master_after_tick moment) s.outstations p)
    (master_ticked setup p m moment r past (slice_get s.outstations p) (told_moment setup past s m tied)
    (tied.outstations p)))
    tied

-- ---- Fragment

fragment_taken : (setup : Setup) (past : List Entry) (f : Fragment) (m : ℕ) (r : Reply) (s : State) (x : Master)
    → HasSingleAddresses setup.rows setup.controls
    → slice_get s.outstations f.outstation ≡ Some x → MasterIs setup f.outstation past x → accepts x f ≡ true
    → Tied setup past s → Tied setup (entry (steps.Fragment f m) (Ok r) ∷ past) (after setup s (steps.Fragment f m))
fragment_taken setup past f m r s x single at is takes tied =
    let e : Entry = entry (steps.Fragment f m) (Ok r) in
    let log : List Observation = log_of setup past in
    let xs : List Observation = news_after_log setup log f.reports in
    let accepted : is_accepted setup past f ≡ true = sym (same_accepted setup past f x is) ∙ takes in
    let accepting : is_accepting s f ≡ true = rw at takes in
    let came : brought setup past e ≡ xs = rw accepted refl in
    let shown : picture_after (station_clocks setup.station) setup.rows s.picture f.reports
    ≡ picture_of setup.rows (log ++ xs) =
    ap (λ (p : List Observation). picture_after (station_clocks setup.station) setup.rows p f.reports) tied.picture
    ∙ (news_same setup log f.reports single).1 in
    let moment : ℕ = latest s m in
    let own : MasterTied setup f.outstation (e ∷ past)
    (option_map (master_after_fragment moment f) (slice_get s.outstations f.outstation)) =
    rw at (master_accepted setup past f m moment r x (told_moment setup past s m tied) takes is) in
    rw accepting (record {
      picture = shown ∙ ap (λ (zs : List Observation). picture_of setup.rows (log ++ zs)) (sym came);
      outstations = changed_outstations setup past e s f.outstation
          (master_after_fragment moment f) (λ p ne. other_last past f p m r ne) (λ
          p ne. other_asked setup past f p m r ne) own tied;
      moment = told_moment setup past s m tied;
    })

fragment_left : (setup : Setup) (past : List Entry) (f : Fragment) (m : ℕ) (r : Reply) (s : State) (x : Master)
    → slice_get s.outstations f.outstation ≡ Some x
    → MasterIs setup f.outstation past x → accepts x f ≡ false → Tied setup past s
    → Tied setup (entry (steps.Fragment f m) (Ok r) ∷ past) (after setup s (steps.Fragment f m))
fragment_left setup past f m r s x at is left tied =
    let e : Entry = entry (steps.Fragment f m) (Ok r) in
    let none : brought setup past e ≡ [] = rw (sym (same_accepted setup past f x is) ∙ left) refl in
    let accepting : is_accepting s f ≡ false = rw at left in
    rw accepting (record {
      picture = same_log setup past e s.picture none tied.picture;
      outstations = λ p. elim (cases_eq f.outstation p) [
        | inl same ↦ subst (λ (y : ℕ). MasterTied setup y (e ∷ past) (slice_get s.outstations y)) same
            (rw at (master_left setup past f m r x left is))
        | inr ne ↦ same_master setup p past e (slice_get s.outstations p) (other_last past f p m r ne)
            (other_asked setup past f p m r ne) (tied.outstations p)
      ];
      moment = told_moment setup past s m tied;
    })

pub fragment : (setup : Setup) (past : List Entry) (f : Fragment) (m : ℕ) (r : Reply) (s : State)
    → HasSingleAddresses setup.rows setup.controls
    → outcome setup s (steps.Fragment f m) ≡ Ok r → Tied setup past s
    → Tied setup (entry (steps.Fragment f m) (Ok r) ∷ past) (after setup s (steps.Fragment f m))
fragment setup past f m r s single e tied =
    let step : Step = steps.Fragment f m in
    let told = answered (fault_of s step) (can_be_counted s (needs setup s step)) (reply_to setup s step) r e in
    let up = who_is_up (λ (x : Master). x.up) NoOutstation (slice_get s.outstations f.outstation) told.0 in
    let is : MasterIs setup f.outstation past up.0 = subst (MasterTied setup f.outstation past) up.1
    (tied.outstations f.outstation) in
    elim (cases_Bool (accepts up.0 f)) [
      | inl takes ↦ fragment_taken setup past f m r s up.0 single up.1 is takes tied
      | inr left ↦ fragment_left setup past f m r s up.0 up.1 is left tied
    ]
