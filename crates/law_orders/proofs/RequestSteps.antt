-- Each step keeps what ties outstations to the talks with them.
use Rattle.std.proofs.Common.{◌≡◌, ℕ, Bool, true, false, cond, ◌&&◌, List, [], ◌∷◌, Option, Some, None}
use Rattle.std.proofs.Common.{option_map, is_some, is_none, Result, Ok, Err, refl, sym, ap, subst, ◌∙◌, inl, inr}
use Rattle.std.specs.Prelude.{◌==◌, slice_get}
use Rattle.std.proofs.lemmas.Bool.{cases_Bool, cases_eq, eq-eqb, eqb-true, ne_eqb}
use Rattle.gw_model.specs.First.{first_of}
use Rattle.gw_model.specs.Places.{change}
use Rattle.gw_model.specs.declared.control.Order.{Order}
use Rattle.gw_model.specs.declared.poll.Poll.{Poll}
use Rattle.gw_entries.specs.Setup.{OutstationSetup}
use Rattle.gw_map.specs.Settings.{Setup}
use Rattle.gw_picture.proofs.Lists.{change-here, change-there, map-get, some_is}
use Rattle.dnp_app.specs.declared.operation.Operation.TheVariants.{Operate}
use Rattle.dnp_app.specs.declared.request.Request.{Request}
use Rattle.dnp_app.specs.Response.{Fragment, is_unsolicited}
use Rattle.dnp_master.specs.declared.exchange.Exchange.{Exchange}
use Rattle.dnp_master.specs.declared.exchange.Exchange.TheVariants.{Idle, Waiting, Selected}
use Rattle.dnp_master.specs.declared.task.Task.{Task}
use Rattle.dnp_master.specs.declared.task.Task.TheVariants.{Command}
use Rattle.dnp_master.specs.Fragments.{accepts, control_in, is_acceptance, is_begun_rightly, master_after_accepted}
use Rattle.dnp_master.specs.Fragments.{master_after_answer, master_after_fragment, verdict_of_answer}
use Rattle.dnp_master.specs.Master.{Master, due_unanswered, first_task, is_late, master_after_given}
use Rattle.dnp_master.specs.Master.{master_after_tick, master_after_up, master_down, master_with_exchange_after}
use Rattle.dnp_master.specs.Master.{order_task, task_given, task_request, tasks_due}
use Rattle.gw_steps.specs.declared.step.Step.{Step}
use Rattle.gw_steps.specs.declared.step.Step.TheVariants as steps
use Rattle.gw_steps.specs.declared.step.Reply.{Reply}
use Rattle.gw_steps.specs.declared.step.StepFault.{StepFault}
use Rattle.gw_steps.specs.declared.step.StepFault.TheVariants.{NoOutstation}
use Rattle.gw_steps.specs.Controls.{order_due}
use Rattle.gw_steps.specs.State.{State, at_first}
use Rattle.gw_steps.specs.Steps.{Allowed, after, can_be_counted, fault_of, is_accepting, latest, needs, outcome}
use Rattle.gw_steps.specs.Steps.{outstation_reply, parts_after_fragment, reply_asking, reply_to, request_polled}
use Rattle.gw_steps.specs.Runs.{Entry, state_after}
use Rattle.gw_steps.proofs.Inversion.{answered, who_is_up}
use Rattle.gw_steps.proofs.Running.{entry}
use Rattle.law_history.specs.Accepted.{AskedRequest, asked_at, asked_of, is_accepted, poll_at}
use Rattle.law_history.proofs.Masters.{AwaitsAs, MasterIs, MasterTied, same_accepted}
use Rattle.law_history.proofs.Tied.{Tied, told_moment}
use Rattle.law_history.proofs.Outstations.{master_after_poll, polled_outstations}
use Rattle.law_orders.specs.Marks.{request_of}
use Rattle.law_orders.specs.Pending.{is_late_at}
use Rattle.law_orders.specs.Selections.{moment_at}
use Rattle.law_orders.specs.Talk.{Turn, Up, Accepts, GivesUp, talk, talk_giving}
use Rattle.law_orders.specs.Requests.{Due, in_rank}
use Rattle.law_orders.proofs.RequestTurns.{IsRecordedAt, IsTold, SentAs, told_answer, told_asking}
use Rattle.law_orders.proofs.RequestTurns.{told_down, told_given_up, told_unsolicited, told_up}
use Rattle.law_orders.proofs.RequestRanked.{Fits, first_fits}
use Rattle.law_orders.proofs.Verdicts.{answer_verdict}

-- ---- the tie

abbrev pub ToldAt : List Turn → Option Master → Type 0
ToldAt ts None = Unit {0}
ToldAt ts (Some m) = IsTold m ts

abbrev pub Told : Setup → List Entry → State → Type 0
Told setup past s = (o : ℕ) → ToldAt (talk setup o past) (slice_get s.outstations o)

-- nothing new is told of an outstation
same_told : (ts new : List Turn) (x : Option Master) → new ≡ ts → ToldAt ts x → ToldAt new x
same_told ts new x e told = subst (λ (y : List Turn). ToldAt y x) (sym e) told

-- one outstation changes
changed : (setup : Setup) (past : List Entry) (e : Entry) (s : State) (o : ℕ) (f : Master → Master)
    → ((p : ℕ) → (o ≡ p → ⊥) → talk setup p (e ∷ past) ≡ talk setup p past)
    → ToldAt (talk setup o (e ∷ past)) (option_map f (slice_get s.outstations o)) → Told setup past s
    → (p : ℕ) → ToldAt (talk setup p (e ∷ past)) (slice_get (change o f s.outstations) p)
changed setup past e s o f apart own told p = elim (cases_eq o p) [
  | inl same ↦ subst (λ (x : ℕ). ToldAt (talk setup x (e ∷ past)) (slice_get (change o f s.outstations) x)) same
      (subst (ToldAt (talk setup o (e ∷ past))) (sym (change-here o f s.outstations)) own)
  | inr ne ↦ subst (ToldAt (talk setup p (e ∷ past))) (sym (change-there o p f s.outstations ne))
      (same_told (talk setup p past) (talk setup p (e ∷ past)) (slice_get s.outstations p) (apart p ne) (told p))
]

-- ---- OutstationUp and OutstationDown

up_told : (moment : ℕ) (x : Option Master) → ToldAt (Up moment ∷ []) (option_map (master_after_up moment) x)
up_told moment None = tt
up_told moment (Some m) = told_up moment m

down_told : (x : Option Master) → ToldAt [] (option_map (λ (m : Master). master_down m.poll) x)
down_told None = tt
down_told (Some m) = told_down m.poll

up_here : (setup : Setup) (past : List Entry) (o m moment : ℕ) (r : Reply)
    → moment ≡ moment_at past (steps.OutstationUp o m)
    → talk setup o (entry (steps.OutstationUp o m) (Ok r) ∷ past) ≡ Up moment ∷ []
up_here setup past o m moment r at =
    ap (λ (b : Bool). cond b (Up (moment_at past (steps.OutstationUp o m)) ∷ []) (talk setup o past)) (eq-eqb o o refl)
    ∙ ap (λ (n : ℕ). Up n ∷ []) (sym at)

outstation_up : (setup : Setup) (past : List Entry) (o m : ℕ) (r : Reply) (s : State) → Tied setup past s
    → Told setup past s
    → Told setup (entry (steps.OutstationUp o m) (Ok r) ∷ past) (after setup s (steps.OutstationUp o m))
outstation_up setup past o m r s tied told =
    let e : Entry = entry (steps.OutstationUp o m) (Ok r) in
    let moment : ℕ = latest s m in
    changed setup past e s o (master_after_up moment)
    (λ p ne. ap (λ (b : Bool). cond b (Up (moment_at past e.step) ∷ []) (talk setup p past)) (ne_eqb o p ne))
    (same_told (Up moment ∷ []) (talk setup o (e ∷ past))
    (option_map (master_after_up moment) (slice_get s.outstations o))
    (up_here setup past o m moment r (told_moment setup past s m tied)) (up_told moment (slice_get s.outstations o)))
    told

outstation_down : (setup : Setup) (past : List Entry) (o m : ℕ) (r : Reply) (s : State) → Told setup past s
    → Told setup (entry (steps.OutstationDown o m) (Ok r) ∷ past) (after setup s (steps.OutstationDown o m))
outstation_down setup past o m r s told =
    let e : Entry = entry (steps.OutstationDown o m) (Ok r) in
    changed setup past e s o (λ (x : Master). master_down x.poll)
    (λ p ne. ap (λ (b : Bool). cond b [] (talk setup p past)) (ne_eqb o p ne))
    (same_told [] (talk setup o (e ∷ past))
    (option_map (λ (x : Master). master_down x.poll) (slice_get s.outstations o))
    (ap (λ (b : Bool). cond b [] (talk setup o past)) (eq-eqb o o refl)) (down_told (slice_get s.outstations o)))
    told

-- ---- Poll

request_asked : (given : Option Request) → request_of (reply_asking given) ≡ given
request_asked None = refl
request_asked (Some r) = refl

-- a recording that is due is that of this wall time
fits_recorded : (wall : ℕ) (task : Option Task) (due : Option Due) (one : Task) → task ≡ Some one → Fits wall task due
    → IsRecordedAt wall one
fits_recorded wall None due one e fits = absurd (let no : ⊥ = cc in no)
fits_recorded wall (Some task) None one e fits = absurd fits
fits_recorded wall (Some task) (Some due) one e fits =
    subst (IsRecordedAt wall) (some_is task one e) fits.recorded

given_recorded : (moment wall : ℕ) (m : Master) (ts : List Turn) (ex : Exchange) (task : Task) → IsTold m ts
    → first_task ex (tasks_due moment wall m.poll m.due) ≡ Some task → IsRecordedAt wall task
given_recorded moment wall m ts Idle task k e =
    fits_recorded wall (slice_get (tasks_due moment wall m.poll m.due) 0) (first_of (in_rank m.poll moment ts)) task e
    (first_fits moment wall m ts k)
given_recorded moment wall m ts (Waiting w) task k e = absurd (let no : ⊥ = cc in no)
given_recorded moment wall m ts (Selected order) task k e =
    subst (IsRecordedAt wall) (some_is (Command Operate order) task e) tt

next_told : (moment wall : ℕ) (m : Master) (ts : List Turn) (task : Option Task) → m.up ≡ true
    → task_given moment wall m ≡ task → IsTold m ts
    → IsTold (master_after_given moment task m)
    (talk_giving moment wall (option_map (λ (x : Task). task_request x m.sequence) task) ts)
next_told moment wall m ts None up e k = k
next_told moment wall m ts (Some task) up e k =
    told_asking moment wall task m ts
    (given_recorded moment wall m ts m.exchange task k
    (sym (ap (λ (b : Bool). cond b (first_task m.exchange (tasks_due moment wall m.poll m.due)) None) up) ∙ e)) k

ordered_recorded : (wall : ℕ) (order : Order) → IsRecordedAt wall (order_task order)
ordered_recorded wall order = tt

polled_told : (moment wall : ℕ) (order : Option Order) (m : Master) (ts : List Turn) → m.up ≡ true → IsTold m ts
    → IsTold (master_after_poll moment wall order m)
    (talk_giving moment wall (request_polled order moment wall m) ts)
polled_told moment wall None m ts up k = next_told moment wall m ts (task_given moment wall m) up refl k
polled_told moment wall (Some order) m ts up k =
    told_asking moment wall (order_task order) m ts (ordered_recorded wall order) k

poll_here : (setup : Setup) (past : List Entry) (o m wall moment : ℕ) (given : Option Request)
    → moment ≡ moment_at past (steps.Poll o m wall)
    → talk setup o (entry (steps.Poll o m wall) (Ok (reply_asking given)) ∷ past)
    ≡ talk_giving moment wall given (talk setup o past)
poll_here setup past o m wall moment given at =
    ap (λ (b : Bool). cond b (talk_giving (moment_at past (steps.Poll o m wall)) wall (request_of (reply_asking given))
    (talk setup o past)) (talk setup o past)) (eq-eqb o o refl)
    ∙ (ap (λ (x : Option Request). talk_giving (moment_at past (steps.Poll o m wall)) wall x (talk setup o past))
    (request_asked given)
    ∙ ap (λ (n : ℕ). talk_giving n wall given (talk setup o past)) (sym at))

poll_there : (setup : Setup) (past : List Entry) (o p m wall : ℕ) (r : Reply) → (o ≡ p → ⊥)
    → talk setup p (entry (steps.Poll o m wall) (Ok r) ∷ past) ≡ talk setup p past
poll_there setup past o p m wall r ne =
    ap (λ (b : Bool). cond b
    (talk_giving (moment_at past (steps.Poll o m wall)) wall (request_of r) (talk setup p past))
    (talk setup p past)) (ne_eqb o p ne)

poll : (setup : Setup) (past : List Entry) (o m wall : ℕ) (r : Reply) (s : State)
    → outcome setup s (steps.Poll o m wall) ≡ Ok r → Tied setup past s → Told setup past s
    → Told setup (entry (steps.Poll o m wall) (Ok r) ∷ past) (after setup s (steps.Poll o m wall))
poll setup past o m wall r s e tied told =
    let step : Step = steps.Poll o m wall in
    let answer = answered (fault_of s step) (can_be_counted s (needs setup s step)) (reply_to setup s step) r e in
    let up = who_is_up (λ (x : Master). x.up) NoOutstation (slice_get s.outstations o) answer.0 in
    let moment : ℕ = latest s m in
    let order : Option Order = order_due s o in
    let given : Option Request = request_polled order moment wall up.0 in
    let reply : reply_asking given ≡ r = sym (ap (outstation_reply (λ (x : Master). reply_asking
    (request_polled order moment wall x))) up.1) ∙ answer.2 in
    let here : Entry = entry step (Ok (reply_asking given)) in
    let is : IsTold up.0 (talk setup o past) = subst (ToldAt (talk setup o past)) up.1 (told o) in
    let own : ToldAt (talk setup o (here ∷ past)) (option_map (master_after_poll moment wall order)
    (slice_get s.outstations o)) =
    subst (λ (y : Option Master). ToldAt (talk setup o (here ∷ past))
    (option_map (master_after_poll moment wall order) y))
    (sym up.1)
    (same_told (talk_giving moment wall given (talk setup o past)) (talk setup o (here ∷ past))
    (Some (master_after_poll moment wall order up.0))
    (poll_here setup past o m wall moment given (told_moment setup past s m tied))
    (polled_told moment wall order up.0 (talk setup o past) up.2 is)) in
    subst (λ (x : Reply). Told setup (entry step (Ok x) ∷ past) (after setup s step)) reply
    (λ p. subst (λ (ms : List Master). ToldAt (talk setup p (here ∷ past)) (slice_get ms p))
    (sym (polled_outstations s moment o wall order))
    (changed setup past here s o (master_after_poll moment wall order)
    (λ q ne. poll_there setup past o q m wall (reply_asking given) ne) own told p))

-- ---- Fragment

answer_told : (moment : ℕ) (f : Fragment) (m : Master) (ts : List Turn) (ex : Exchange) → is_unsolicited f ≡ false
    → is_acceptance (verdict_of_answer ex f) ≡ true → SentAs ex ts → IsTold m ts
    → IsTold (master_after_answer moment f ex m) (Accepts f ∷ ts)
answer_told moment f m ts Idle e takes sent k = absurd (let no : ⊥ = cc in no)
answer_told moment f m ts (Selected order) e takes sent k = absurd (let no : ⊥ = cc in no)
answer_told moment f m ts (Waiting w) e takes sent k =
    by ((control_in f).sequence == w.expected) (is_begun_rightly w.begun (control_in f).fir) refl takes
  where
    by : (in_sequence rightly : Bool) → ((control_in f).sequence == w.expected) ≡ in_sequence
        → is_acceptance (answer_verdict f w in_sequence rightly) ≡ true
        → IsTold (master_after_answer moment f (Waiting w) m) (Accepts f ∷ ts)
    by true rightly same taken =
        told_answer moment f w m ts e (eqb-true (control_in f).sequence w.expected same) sent k
    by false rightly other taken = absurd (let no : ⊥ = cc in no)

accepted_told : (moment : ℕ) (f : Fragment) (m : Master) (ts : List Turn) → accepts m f ≡ true → IsTold m ts
    → IsTold (master_after_fragment moment f m) (Accepts f ∷ ts)
accepted_told moment f m ts takes k =
    subst (λ (x : Master). IsTold x (Accepts f ∷ ts))
    (sym (ap (λ (b : Bool). cond b (master_after_accepted moment f m) m) takes)) (by (is_unsolicited f) refl)
  where
    by : (u : Bool) → is_unsolicited f ≡ u → IsTold (master_after_accepted moment f m) (Accepts f ∷ ts)
    by true e = rw e (told_unsolicited f m ts e k)
    by false e =
        let taken : is_acceptance (verdict_of_answer m.exchange f) ≡ true = sym (rw e refl) ∙ takes in
        rw e (answer_told moment f m ts m.exchange e taken k.sent k)

fragment_here : (setup : Setup) (past : List Entry) (f : Fragment) (m : ℕ) (r : Reply) (b : Bool)
    → is_accepted setup past f ≡ b
    → talk setup f.outstation (entry (steps.Fragment f m) (Ok r) ∷ past)
    ≡ cond b (Accepts f ∷ talk setup f.outstation past) (talk setup f.outstation past)
fragment_here setup past f m r b e =
    let ts : List Turn = talk setup f.outstation past in
    ap (λ (own : Bool). cond (own && is_accepted setup past f) (Accepts f ∷ ts) ts)
    (eq-eqb f.outstation f.outstation refl)
    ∙ ap (λ (x : Bool). cond x (Accepts f ∷ ts) ts) e

fragment_there : (setup : Setup) (past : List Entry) (f : Fragment) (p m : ℕ) (r : Reply) → (f.outstation ≡ p → ⊥)
    → talk setup p (entry (steps.Fragment f m) (Ok r) ∷ past) ≡ talk setup p past
fragment_there setup past f p m r ne =
    let ts : List Turn = talk setup p past in
    ap (λ (own : Bool). cond (own && is_accepted setup past f) (Accepts f ∷ ts) ts) (ne_eqb f.outstation p ne)

-- the masters behind it
fragment_masters : (setup : Setup) (s : State) (f : Fragment) (m : ℕ) (b : Bool) → is_accepting s f ≡ b
    → (after setup s (steps.Fragment f m)).outstations
    ≡ cond b (change f.outstation (master_after_fragment (latest s m) f) s.outstations) s.outstations
fragment_masters setup s f m true e =
    ap (λ (x : Bool). (cond x (parts_after_fragment setup s (latest s m) f) s).outstations) e
fragment_masters setup s f m false e =
    ap (λ (x : Bool). (cond x (parts_after_fragment setup s (latest s m) f) s).outstations) e

fragment_taken : (setup : Setup) (past : List Entry) (f : Fragment) (m : ℕ) (r : Reply) (s : State) (x : Master)
    → slice_get s.outstations f.outstation ≡ Some x → MasterIs setup f.outstation past x → accepts x f ≡ true
    → Told setup past s
    → Told setup (entry (steps.Fragment f m) (Ok r) ∷ past) (after setup s (steps.Fragment f m))
fragment_taken setup past f m r s x at is takes told =
    let e : Entry = entry (steps.Fragment f m) (Ok r) in
    let ts : List Turn = talk setup f.outstation past in
    let moment : ℕ = latest s m in
    let accepting : is_accepting s f ≡ true = rw at takes in
    let accepted : is_accepted setup past f ≡ true = sym (same_accepted setup past f x is) ∙ takes in
    let own : ToldAt (talk setup f.outstation (e ∷ past))
    (option_map (master_after_fragment moment f) (slice_get s.outstations f.outstation)) =
    subst (λ (y : Option Master). ToldAt (talk setup f.outstation (e ∷ past))
    (option_map (master_after_fragment moment f) y))
    (sym at)
    (same_told (Accepts f ∷ ts) (talk setup f.outstation (e ∷ past)) (Some (master_after_fragment moment f x))
    (fragment_here setup past f m r true accepted)
    (accepted_told moment f x ts takes (subst (ToldAt ts) at (told f.outstation)))) in
    λ p. subst (λ (ms : List Master). ToldAt (talk setup p (e ∷ past)) (slice_get ms p))
    (sym (fragment_masters setup s f m true accepting))
    (changed setup past e s f.outstation (master_after_fragment moment f)
    (λ q ne. fragment_there setup past f q m r ne) own told p)

fragment_left : (setup : Setup) (past : List Entry) (f : Fragment) (m : ℕ) (r : Reply) (s : State) (x : Master)
    → slice_get s.outstations f.outstation ≡ Some x → MasterIs setup f.outstation past x → accepts x f ≡ false
    → Told setup past s
    → Told setup (entry (steps.Fragment f m) (Ok r) ∷ past) (after setup s (steps.Fragment f m))
fragment_left setup past f m r s x at is left told =
    let e : Entry = entry (steps.Fragment f m) (Ok r) in
    let accepting : is_accepting s f ≡ false = rw at left in
    let refused : is_accepted setup past f ≡ false = sym (same_accepted setup past f x is) ∙ left in
    λ p. subst (λ (ms : List Master). ToldAt (talk setup p (e ∷ past)) (slice_get ms p))
    (sym (fragment_masters setup s f m false accepting))
    (same_told (talk setup p past) (talk setup p (e ∷ past)) (slice_get s.outstations p)
    (elim (cases_eq f.outstation p) [
      | inl same ↦ subst (λ (y : ℕ). talk setup y (e ∷ past) ≡ talk setup y past) same
          (fragment_here setup past f m r false refused)
      | inr ne ↦ fragment_there setup past f p m r ne
    ]) (told p))

fragment : (setup : Setup) (past : List Entry) (f : Fragment) (m : ℕ) (r : Reply) (s : State)
    → outcome setup s (steps.Fragment f m) ≡ Ok r → Tied setup past s → Told setup past s
    → Told setup (entry (steps.Fragment f m) (Ok r) ∷ past) (after setup s (steps.Fragment f m))
fragment setup past f m r s e tied told =
    let step : Step = steps.Fragment f m in
    let answer = answered (fault_of s step) (can_be_counted s (needs setup s step)) (reply_to setup s step) r e in
    let up = who_is_up (λ (x : Master). x.up) NoOutstation (slice_get s.outstations f.outstation) answer.0 in
    let is : MasterIs setup f.outstation past up.0 = subst (MasterTied setup f.outstation past) up.1
    (tied.outstations f.outstation) in
    elim (cases_Bool (accepts up.0 f)) [
      | inl takes ↦ fragment_taken setup past f m r s up.0 up.1 is takes told
      | inr left ↦ fragment_left setup past f m r s up.0 up.1 is left told
    ]

-- ---- Tick

late_so : (setup : Setup) (p moment : ℕ) (past : List Entry) (m : Master) (asked : Option AskedRequest)
    → MasterIs setup p past m → asked_of setup p past ≡ asked
    → is_late_at setup p past moment ≡ is_some asked && is_none (asked_at moment (Some m.poll) asked)
late_so setup p moment past m asked is e =
    ap (λ (x : Option AskedRequest). is_some x && is_none (asked_at moment (poll_at setup p) x)) e
    ∙ ap (λ (x : Option Poll). is_some asked && is_none (asked_at moment x asked)) is.poll

late_of : (late : Bool) (a : AskedRequest) → is_none (cond late None (Some a)) ≡ late
late_of true a = refl
late_of false a = refl

tick_at : (setup : Setup) (p moment : ℕ) (past : List Entry) (m : Master) (ts : List Turn) (ex : Exchange)
    (asked : Option AskedRequest) → AwaitsAs ex asked → SentAs ex ts → IsTold m ts
    → IsTold (master_with_exchange_after moment ex m)
    (cond (is_some asked && is_none (asked_at moment (Some m.poll) asked)) (GivesUp ∷ ts) ts)
tick_at setup p moment past m ts Idle None alike sent k = k
tick_at setup p moment past m ts Idle (Some a) alike sent k = absurd alike
tick_at setup p moment past m ts (Selected order) None alike sent k = k
tick_at setup p moment past m ts (Selected order) (Some a) alike sent k = absurd alike
tick_at setup p moment past m ts (Waiting w) None alike sent k = absurd alike
tick_at setup p moment past m ts (Waiting w) (Some a) alike sent k =
    let late : is_none (cond (is_late moment m.poll a.since) None (Some a)) ≡ is_late moment m.poll w.since =
    late_of (is_late moment m.poll a.since) a ∙ ap (is_late moment m.poll) (sym alike.since) in
    subst (λ (b : Bool). IsTold (master_with_exchange_after moment (Waiting w) m) (cond b (GivesUp ∷ ts) ts)) (sym late)
    (by (is_late moment m.poll w.since))
  where
    by : (b : Bool) → IsTold (cond b (record m { exchange = Idle; due = due_unanswered w.task m.due }) m)
        (cond b (GivesUp ∷ ts) ts)
    by true = told_given_up m w.task ts sent k
    by false = k

tick_told : (setup : Setup) (p moment : ℕ) (past : List Entry) (x : Option Master) → MasterTied setup p past x
    → ToldAt (talk setup p past) x
    → ToldAt (cond (is_late_at setup p past moment) (GivesUp ∷ talk setup p past) (talk setup p past))
    (option_map (master_after_tick moment) x)
tick_told setup p moment past None tied told = tt
tick_told setup p moment past (Some m) tied told =
    let ts : List Turn = talk setup p past in
    subst (λ (b : Bool). IsTold (master_after_tick moment m) (cond b (GivesUp ∷ ts) ts))
    (sym (late_so setup p moment past m (asked_of setup p past) tied refl))
    (tick_at setup p moment past m ts m.exchange (asked_of setup p past) tied.awaits told.sent told)

tick : (setup : Setup) (past : List Entry) (m : ℕ) (r : Reply) (s : State) → Tied setup past s → Told setup past s
    → Told setup (entry (steps.Tick m) (Ok r) ∷ past) (after setup s (steps.Tick m))
tick setup past m r s tied told p =
    let moment : ℕ = latest s m in
    subst (ToldAt (talk setup p (entry (steps.Tick m) (Ok r) ∷ past)))
    (sym (map-get (master_after_tick moment) s.outstations p))
    (subst (λ (n : ℕ). ToldAt (cond (is_late_at setup p past n) (GivesUp ∷ talk setup p past) (talk setup p past))
    (option_map (master_after_tick moment) (slice_get s.outstations p))) (told_moment setup past s m tied)
    (tick_told setup p moment past (slice_get s.outstations p) (tied.outstations p) (told p)))

-- ---- each step

step_told : (setup : Setup) (past : List Entry) (step : Step) (r : Reply) (s : State) → outcome setup s step ≡ Ok r
    → Tied setup past s → Told setup past s → Told setup (entry step (Ok r) ∷ past) (after setup s step)
step_told setup past (steps.OutstationUp o m) r s e tied told = outstation_up setup past o m r s tied told
step_told setup past (steps.OutstationDown o m) r s e tied told = outstation_down setup past o m r s told
step_told setup past (steps.Fragment f m) r s e tied told = fragment setup past f m r s e tied told
step_told setup past (steps.Poll o m wall) r s e tied told = poll setup past o m wall r s e tied told
step_told setup past (steps.ClientUp c m) r s e tied told = told
step_told setup past (steps.ClientDown c m) r s e tied told = told
step_told setup past (steps.Frame c apdu m) r s e tied told = told
step_told setup past (steps.Pump c m) r s e tied told = told
step_told setup past (steps.Tick m) r s e tied told = tick setup past m r s tied told

pub told_more : (setup : Setup) (past : List Entry) (step : Step) (reply : Result Reply StepFault)
    → Allowed setup (state_after setup past) step reply (state_after setup (entry step reply ∷ past))
    → Tied setup past (state_after setup past) → Told setup past (state_after setup past)
    → Told setup (entry step reply ∷ past) (state_after setup (entry step reply ∷ past))
told_more setup past step (Ok r) allowed tied told =
    step_told setup past step r (state_after setup past) allowed.0 tied told
told_more setup past step (Err f) allowed tied told = told

-- ---- at first

first_at : (x : Option OutstationSetup)
    → ToldAt [] (option_map (λ (outstation : OutstationSetup). master_down outstation.poll) x)
first_at None = tt
first_at (Some x) = told_down x.poll

pub first_told : (setup : Setup) → Told setup [] (at_first setup)
first_told setup o =
    subst (ToldAt [])
    (sym (map-get (λ (outstation : OutstationSetup). master_down outstation.poll) setup.outstations o))
    (first_at (slice_get setup.outstations o))
