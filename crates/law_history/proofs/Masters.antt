-- What ties an outstation's part of the state to its history, and how each step keeps it.
use Rattle.std.proofs.Common.{◌≡◌, ℕ, ◌+◌, ◌/◌, ◌%◌, ◌<◌, Bool, true, false, not, cond, eqb, List, []}
use Rattle.std.proofs.Common.{◌∷◌, Option, Some, None, Ok, refl, sym, ap, subst, ◌∙◌, arith, inl, inr}
use Rattle.std.specs.Prelude.{slice_index, option_map}
use Rattle.std.proofs.lemmas.Bool.{cases_Bool, eqb-true, eqb-false, ne_eqb, eq-eqb, le-leb, lt-leb, true≢false}
use Rattle.std.proofs.lemmas.Slice.Eq.{bytes_eq-Decides}
use Rattle.gw_model.specs.declared.control.Ended.{Ended}
use Rattle.gw_model.specs.declared.control.Order.{Order}
use Rattle.gw_model.specs.declared.poll.Poll.{Poll}
use Rattle.gw_map.specs.Settings.{Setup}
use Rattle.dnp_app.specs.declared.operation.Operation.TheVariants.{Select, Operate, DirectOperate}
use Rattle.dnp_app.specs.declared.request.Request.{Request}
use Rattle.dnp_app.specs.Control.{confirm_of}
use Rattle.dnp_app.specs.Response.{Fragment, is_unsolicited}
use Rattle.dnp_master.specs.declared.exchange.Awaited.{Awaited}
use Rattle.dnp_master.specs.declared.exchange.Exchange.{Exchange}
use Rattle.dnp_master.specs.declared.exchange.Exchange.TheVariants.{Idle, Waiting, Selected}
use Rattle.dnp_master.specs.declared.task.Task.{Task}
use Rattle.dnp_master.specs.declared.task.Task.TheVariants.{ClearRestart, WriteTime, RecordTime, Disable}
use Rattle.dnp_master.specs.declared.task.Task.TheVariants.{Integrity, Enable, EventPoll, Command}
use Rattle.dnp_master.specs.declared.verdict.Verdict.{Verdict}
use Rattle.dnp_master.specs.declared.verdict.Verdict.TheVariants.{Accepted, Repeated, Ignored}
use Rattle.dnp_master.specs.declared.verdict.Ignored.TheVariants.{WrongFirst, WrongSequence}
use Rattle.dnp_master.specs.Master.{Master, master_down, master_after_up, master_after_next, master_after_order}
use Rattle.dnp_master.specs.Master.{master_after_tick, master_asking, master_with_exchange_after, order_task}
use Rattle.dnp_master.specs.Master.{task_given, task_request, request_given, request_ordered, is_late, following}
use Rattle.dnp_master.specs.Fragments.{control_in, is_last, is_begun_rightly, verdict_of_answer, verdict_of}
use Rattle.dnp_master.specs.Fragments.{is_acceptance, accepts, ended_with, exchange_once_answered, is_done}
use Rattle.dnp_master.specs.Fragments.{master_after_answer, master_after_accepted, master_after_fragment}
use Rattle.gw_steps.specs.declared.step.Step.TheVariants as steps
use Rattle.gw_steps.specs.declared.step.Reply.{Reply}
use Rattle.gw_steps.specs.declared.step.Reply.TheVariants as replies
use Rattle.gw_steps.specs.State.{later}
use Rattle.gw_steps.specs.Steps.{reply_asking}
use Rattle.gw_steps.specs.Runs.{Entry}
use Rattle.gw_steps.proofs.Running.{entry}
use Rattle.law_history.specs.Accepted.{moment_after, last_text, AskedRequest, is_in_sequence, is_in_place}
use Rattle.law_history.specs.Accepted.{is_answer, asked_with, asked_at, poll_at, asked_of, is_accepted}
use Rattle.law_history.specs.Confirmations.{asked_confirmation, verdict_due_to_answer, verdict_due, without_order}

-- ---- the tie

-- the answer that a master awaits is the one that the history tells
pub record AwaitsAlike (w : Awaited) (a : AskedRequest) : Type 0 where
  pub expected : w.expected ≡ (a.sequence + a.fragments) % 16
  pub begun : w.begun ≡ not (eqb a.fragments 0)
  pub since : w.since ≡ a.since

abbrev pub AwaitsAs : Exchange → Option AskedRequest → Type 0
AwaitsAs Idle None = Unit {0}
AwaitsAs Idle (Some a) = ⊥
AwaitsAs (Waiting w) None = ⊥
AwaitsAs (Waiting w) (Some a) = AwaitsAlike w a
-- nothing awaits once SELECT succeeded
AwaitsAs (Selected order) None = Unit {0}
AwaitsAs (Selected order) (Some a) = ⊥

pub record MasterIs (setup : Setup) (o : ℕ) (past : List Entry) (m : Master) : Type 0 where
  pub poll : poll_at setup o ≡ Some m.poll
  pub last : m.last ≡ last_text o past
  pub number : m.sequence < 16
  pub awaits : AwaitsAs m.exchange (asked_of setup o past)

abbrev pub MasterTied : Setup → ℕ → List Entry → Option Master → Type 0
MasterTied setup o past None = Unit {0}
MasterTied setup o past (Some m) = MasterIs setup o past m

-- an outstation of which the history tells nothing new
pub same_is : (setup : Setup) (o : ℕ) (past : List Entry) (e : Entry) (m : Master)
    → last_text o (e ∷ past) ≡ last_text o past
    → asked_of setup o (e ∷ past) ≡ asked_of setup o past → MasterIs setup o past m → MasterIs setup o (e ∷ past) m
same_is setup o past e m last asked tied = record {
  poll = tied.poll;
  last = tied.last ∙ sym last;
  number = tied.number;
  awaits = subst (λ (x : Option AskedRequest). AwaitsAs m.exchange x) (sym asked) tied.awaits;
}

pub same_master : (setup : Setup) (o : ℕ) (past : List Entry) (e : Entry) (x : Option Master)
    → last_text o (e ∷ past) ≡ last_text o past
    → asked_of setup o (e ∷ past) ≡ asked_of setup o past → MasterTied setup o past x → MasterTied setup o (e ∷ past) x
same_master setup o past e None last asked tied = tt
same_master setup o past e (Some m) last asked tied = same_is setup o past e m last asked tied

-- ---- coming up and going down

-- nothing is remembered and nothing awaits
fresh_is : (setup : Setup) (o : ℕ) (past : List Entry) (e : Entry) (m new : Master) → last_text o (e ∷ past) ≡ None
    → asked_of setup o (e ∷ past) ≡ None
    → new.poll ≡ m.poll → new.last ≡ None → new.sequence ≡ 0 → new.exchange ≡ Idle → MasterIs setup o past m
    → MasterIs setup o (e ∷ past) new
fresh_is setup o past e m new last asked poll none zero idle tied = record {
  poll = tied.poll ∙ ap (λ (x : Poll). Some x) (sym poll);
  last = none ∙ sym last;
  number = omega (arith, zero);
  awaits = subst (λ (x : Exchange). AwaitsAs x (asked_of setup o (e ∷ past))) (sym idle)
      (subst (λ (x : Option AskedRequest). AwaitsAs Idle x) (sym asked) tt);
}

pub master_up : (setup : Setup) (o m moment : ℕ) (r : Reply) (past : List Entry) (x : Option Master)
    → MasterTied setup o past x
    → MasterTied setup o (entry (steps.OutstationUp o m) (Ok r) ∷ past) (option_map (master_after_up moment) x)
master_up setup o m moment r past None tied = tt
master_up setup o m moment r past (Some x) tied =
    fresh_is setup o past (entry (steps.OutstationUp o m) (Ok r)) x (master_after_up moment x)
    (rw (eq-eqb o o refl) refl) (rw (eq-eqb o o refl) refl) refl refl refl refl tied

pub master_lost : (setup : Setup) (o m : ℕ) (r : Reply) (past : List Entry) (x : Option Master)
    → MasterTied setup o past x
    → MasterTied setup o (entry (steps.OutstationDown o m) (Ok r) ∷ past)
    (option_map (λ (y : Master). master_down y.poll) x)
master_lost setup o m r past None tied = tt
master_lost setup o m r past (Some x) tied =
    fresh_is setup o past (entry (steps.OutstationDown o m) (Ok r)) x (master_down x.poll) (rw (eq-eqb o o refl) refl)
    (rw (eq-eqb o o refl) refl) refl refl refl refl tied

-- ---- polls

-- the first octet of each request has its sequence number
pub first_octet : (task : Task) (n : ℕ) → slice_index (task_request task n).octets 0 ≡ 192 + n
first_octet ClearRestart n = refl
first_octet (WriteTime time) n = refl
first_octet (RecordTime wall) n = refl
first_octet Disable n = refl
first_octet Integrity n = refl
first_octet Enable n = refl
first_octet EventPoll n = refl
first_octet (Command operation order) n = refl

abbrev asked_by : Request → ℕ → AskedRequest
asked_by r moment = record { sequence = slice_index r.octets 0 % 16; fragments = 0; since = moment }

poll_asks : (setup : Setup) (o m wall : ℕ) (r : Request) (past : List Entry)
    → asked_of setup o (entry (steps.Poll o m wall) (Ok (replies.Request r)) ∷ past)
    ≡ Some (asked_by r (later (moment_after past) m))
poll_asks setup o m wall r past = rw (eq-eqb o o refl) refl

-- the request of a task is given
master_asked : (setup : Setup) (o m wall moment : ℕ) (past : List Entry) (x : Master) (task : Task)
    → moment ≡ later (moment_after past) m → MasterIs setup o past x
    → MasterIs setup o (entry (steps.Poll o m wall) (Ok (replies.Request (task_request task x.sequence))) ∷ past)
    (master_asking moment task x)
master_asked setup o m wall moment past x task at tied =
    let r : Request = task_request task x.sequence in
    let first : slice_index r.octets 0 ≡ 192 + x.sequence = first_octet task x.sequence in
    let expected : x.sequence ≡ (slice_index r.octets 0 % 16 + 0) % 16 = omega (arith, first, tied.number) in
    let alike : AwaitsAlike (record { task = task; expected = x.sequence; begun = false; since = moment })
    (asked_by r (later (moment_after past) m)) =
    record { expected = expected; begun = refl; since = at } in
    record {
      poll = tied.poll;
      last = tied.last;
      number = omega arith;
      awaits = subst (λ (y : Option AskedRequest). AwaitsAs (Waiting
          (record { task = task; expected = x.sequence; begun = false; since = moment })) y)
          (sym (poll_asks setup o m wall r past)) alike;
    }

pub master_polled : (setup : Setup) (o m wall moment : ℕ) (past : List Entry) (x : Master) (task : Option Task)
    → task_given moment wall x ≡ task
    → moment ≡ later (moment_after past) m → MasterIs setup o past x
    → MasterIs setup o (entry (steps.Poll o m wall) (Ok (reply_asking (request_given moment wall x))) ∷ past)
    (master_after_next moment wall x)
master_polled setup o m wall moment past x None given at tied =
    rw given (same_is setup o past (entry (steps.Poll o m wall) (Ok replies.Nothing)) x refl refl tied)
master_polled setup o m wall moment past x (Some task) given at tied =
    rw given (master_asked setup o m wall moment past x task at tied)

-- that of an order is given
pub master_ordered : (setup : Setup) (o m wall moment : ℕ) (past : List Entry) (x : Master) (order : Order)
    → moment ≡ later (moment_after past) m → MasterIs setup o past x
    → MasterIs setup o (entry (steps.Poll o m wall) (Ok (replies.Request (request_ordered order x))) ∷ past)
    (master_after_order moment order x)
master_ordered setup o m wall moment past x order at tied =
    master_asked setup o m wall moment past x (order_task order) at tied

-- ---- ticks

ticked : (setup : Setup) (o moment : ℕ) (poll : Poll) (w : Awaited) (a : AskedRequest) → AwaitsAlike w a
    → is_late moment poll w.since ≡ is_late moment poll a.since
ticked setup o moment poll w a alike = ap (is_late moment poll) alike.since

pub master_ticked : (setup : Setup) (o m moment : ℕ) (r : Reply) (past : List Entry) (x : Option Master)
    → moment ≡ later (moment_after past) m → MasterTied setup o past x
    → MasterTied setup o (entry (steps.Tick m) (Ok r) ∷ past) (option_map (master_after_tick moment) x)
master_ticked setup o m moment r past None at tied = tt
master_ticked setup o m moment r past (Some x) at tied = go x.exchange (asked_of setup o past) refl tied.awaits
  where
    e : Entry
    e = entry (steps.Tick m) (Ok r)

    told : asked_of setup o (e ∷ past) ≡ asked_at moment (Some x.poll) (asked_of setup o past)
    told = ap (λ (n : ℕ). asked_at n (poll_at setup o) (asked_of setup o past)) (sym at)
        ∙ ap (λ (p : Option Poll). asked_at moment p (asked_of setup o past)) tied.poll

    go : (exchange : Exchange) (asked : Option AskedRequest) → asked_of setup o past ≡ asked → AwaitsAs exchange asked
        → MasterIs setup o (e ∷ past) (master_with_exchange_after moment exchange x)
    go Idle None ea alike =
        let none : asked_of setup o (e ∷ past) ≡ asked_of setup o past =
        told ∙ (ap (asked_at moment (Some x.poll)) ea ∙ sym ea) in
        same_is setup o past e x refl none tied
    go Idle (Some a) ea alike = absurd alike
    go (Waiting w) None ea alike = absurd alike
    go (Selected order) None ea alike =
        let none : asked_of setup o (e ∷ past) ≡ asked_of setup o past =
        told ∙ (ap (asked_at moment (Some x.poll)) ea ∙ sym ea) in
        same_is setup o past e x refl none tied
    go (Selected order) (Some a) ea alike = absurd alike
    go (Waiting w) (Some a) ea alike =
        let there : asked_of setup o (e ∷ past) ≡ cond (is_late moment x.poll a.since) None (Some a) =
        told ∙ ap (asked_at moment (Some x.poll)) ea in
        elim (cases_Bool (is_late moment x.poll w.since)) [
          | inl late ↦
              (let none : asked_of setup o (e ∷ past) ≡ None = there
              ∙ ap (λ (b : Bool). cond b None (Some a)) (sym (ticked setup o moment x.poll w a alike) ∙ late) in
              rw late (record {
                poll = tied.poll;
                last = tied.last;
                number = tied.number;
                awaits = subst (λ (y : Option AskedRequest). AwaitsAs Idle y) (sym none) tt;
              }))
          | inr early ↦
              (let same : asked_of setup o (e ∷ past) ≡ asked_of setup o past = there
              ∙ (ap (λ (b : Bool). cond b None (Some a)) (sym (ticked setup o moment x.poll w a alike) ∙ early)
              ∙ sym ea) in
              rw early (same_is setup o past e x refl same tied))
        ]

-- ---- fragments

-- what awaits once an answer ended: nothing
once_answered : (task : Task) (done : Bool) → AwaitsAs (exchange_once_answered task done) None
once_answered ClearRestart done = tt
once_answered (WriteTime time) done = tt
once_answered (RecordTime wall) done = tt
once_answered Disable done = tt
once_answered Integrity done = tt
once_answered Enable done = tt
once_answered EventPoll done = tt
once_answered (Command Select order) true = tt
once_answered (Command Select order) false = tt
once_answered (Command Operate order) done = tt
once_answered (Command DirectOperate order) done = tt

-- a fragment is given the confirmation that its octets ask for
confirm_asked : (octets : List ℕ) → confirm_of octets ≡ asked_confirmation octets
confirm_asked [] = refl
confirm_asked (octet ∷ octets) = elim (cases_Bool (eqb ((octet / 32) % 2) 1)) [
  | inl is ↦
      (let set = eqb-true ((octet / 32) % 2) 1 is in
      rw (is, le-leb 32 (octet % 64) (omega (arith, set))) (given (eqb ((octet / 16) % 2) 1) refl))
  | inr isnt ↦
      (let clear = eqb-false ((octet / 32) % 2) 1 isnt in
      rw (isnt, lt-leb 32 (octet % 64) (omega (arith, clear))) refl)
]
  where
    given : (uns : Bool) → eqb ((octet / 16) % 2) 1 ≡ uns
        → Some ((192 + octet % 16 + cond uns 16 0) ∷ 0 ∷ []) ≡ Some ((192 + octet % 32) ∷ 0 ∷ [])
    given true is = ap (λ (n : ℕ). Some (n ∷ 0 ∷ [])) (omega (arith, eqb-true ((octet / 16) % 2) 1 is))
    given false isnt = ap (λ (n : ℕ). Some (n ∷ 0 ∷ [])) (omega (arith, eqb-false ((octet / 16) % 2) 1 isnt))

pub verdict_to_answer : (exchange : Exchange) (asked : Option AskedRequest) (f : Fragment) → AwaitsAs exchange asked
    → without_order (verdict_of_answer exchange f) ≡ verdict_due_to_answer asked f
verdict_to_answer Idle None f alike = refl
verdict_to_answer Idle (Some a) f alike = absurd alike
verdict_to_answer (Waiting w) None f alike = absurd alike
verdict_to_answer (Waiting w) (Some a) f alike =
    let rightly : is_begun_rightly w.begun (control_in f).fir ≡ is_in_place a f =
    ap (λ (b : Bool). is_begun_rightly b (control_in f).fir) alike.begun in
    rw (confirm_asked f.octets, alike.expected, rightly) (go (is_in_sequence a f) (is_in_place a f))
  where
    accepted : Option Ended → Verdict
    accepted control = Accepted (asked_confirmation f.octets) (control_in f).fin control

    go : (s p : Bool)
        → without_order (cond s (cond p (accepted (ended_with w.task f)) (Ignored WrongFirst)) (Ignored WrongSequence))
        ≡ cond s (cond p (accepted None) (Ignored WrongFirst)) (Ignored WrongSequence)
    go true true = refl
    go true false = refl
    go false p = refl
verdict_to_answer (Selected order) None f alike = refl
verdict_to_answer (Selected order) (Some a) f alike = absurd alike

unsolicited_verdict : (past : List Entry) (f : Fragment) (m : Master) → m.last ≡ last_text f.outstation past
    → is_last m.last f.octets ≡ is_last (last_text f.outstation past) f.octets
unsolicited_verdict past f m same = ap (λ (last : Option (List ℕ)). is_last last f.octets) same

-- a fragment is judged as the history tells
pub verdict_is : (setup : Setup) (past : List Entry) (f : Fragment) (m : Master) → MasterIs setup f.outstation past m
    → without_order (verdict_of m f) ≡ verdict_due setup past f
verdict_is setup past f m tied = go (is_unsolicited f) refl
  where
    asked : Option (List ℕ)
    asked = asked_confirmation f.octets

    repeated : (again : Bool) → without_order (cond again (Repeated asked) (Accepted asked false None))
        ≡ cond again (Repeated asked) (Accepted asked false None)
    repeated true = refl
    repeated false = refl

    go : (b : Bool) → is_unsolicited f ≡ b → without_order (verdict_of m f) ≡ verdict_due setup past f
    go true e =
        rw (confirm_asked f.octets, e, unsolicited_verdict past f m tied.last) (repeated (is_last (last_text f.outstation past) f.octets))
    go false e = rw e (verdict_to_answer m.exchange (asked_of setup f.outstation past) f tied.awaits)

-- whether a verdict accepts doesn't depend on an order
same_acceptance : (v : Verdict) → is_acceptance (without_order v) ≡ is_acceptance v
same_acceptance (Accepted confirm end control) = refl
same_acceptance (Repeated confirm) = refl
same_acceptance (Ignored why) = refl

answer_accepted : (asked : Option AskedRequest) (f : Fragment)
    → is_acceptance (verdict_due_to_answer asked f) ≡ is_answer asked f
answer_accepted None f = refl
answer_accepted (Some a) f = go (is_in_sequence a f) (is_in_place a f) refl refl
  where
    go : (s p : Bool) → is_in_sequence a f ≡ s → is_in_place a f ≡ p
        → is_acceptance (verdict_due_to_answer (Some a) f) ≡ is_answer (Some a) f
    go true true es ep = rw (es, ep) refl
    go true false es ep = rw (es, ep) refl
    go false p es ep = rw es refl

-- and accepted as the history tells
pub same_accepted : (setup : Setup) (past : List Entry) (f : Fragment) (m : Master)
    → MasterIs setup f.outstation past m → accepts m f ≡ is_accepted setup past f
same_accepted setup past f m tied = go (is_unsolicited f) (is_last (last_text f.outstation past) f.octets) refl refl
  where
    go : (b last : Bool) → is_unsolicited f ≡ b → is_last (last_text f.outstation past) f.octets ≡ last
        → accepts m f ≡ is_accepted setup past f
    go true true e el = rw (e, unsolicited_verdict past f m tied.last, el) refl
    go true false e el = rw (e, unsolicited_verdict past f m tied.last, el) refl
    go false last e el =
        rw e (sym (same_acceptance (verdict_of_answer m.exchange f))
        ∙ (ap is_acceptance (verdict_to_answer m.exchange (asked_of setup f.outstation past) f tied.awaits)
        ∙ answer_accepted (asked_of setup f.outstation past) f))

is_last-true : (last : Option (List ℕ)) (octets : List ℕ) → is_last last octets ≡ true → last ≡ Some octets
is_last-true None octets e = absurd cc
is_last-true (Some l) octets e = ap (λ (x : List ℕ). Some x) ((bytes_eq-Decides l octets).0 e)

-- what the history tells of the outstation of a fragment then
own_last : (past : List Entry) (f : Fragment) (m : ℕ) (r : Reply) → is_unsolicited f ≡ true
    → last_text f.outstation (entry (steps.Fragment f m) (Ok r) ∷ past) ≡ Some f.octets
own_last past f m r e = rw (eq-eqb f.outstation f.outstation refl, e) refl

kept_last : (past : List Entry) (f : Fragment) (m : ℕ) (r : Reply) → is_unsolicited f ≡ false
    → last_text f.outstation (entry (steps.Fragment f m) (Ok r) ∷ past) ≡ last_text f.outstation past
kept_last past f m r e = rw (eq-eqb f.outstation f.outstation refl, e) refl

kept_asked : (setup : Setup) (past : List Entry) (f : Fragment) (m : ℕ) (r : Reply) → is_unsolicited f ≡ true
    → asked_of setup f.outstation (entry (steps.Fragment f m) (Ok r) ∷ past) ≡ asked_of setup f.outstation past
kept_asked setup past f m r e = rw (eq-eqb f.outstation f.outstation refl, e) refl

own_asked : (setup : Setup) (past : List Entry) (f : Fragment) (m : ℕ) (r : Reply) (answers : Bool)
    → is_unsolicited f ≡ false → is_answer (asked_of setup f.outstation past) f ≡ answers
    → asked_of setup f.outstation (entry (steps.Fragment f m) (Ok r) ∷ past)
    ≡ cond answers (asked_with (later (moment_after past) m) f (asked_of setup f.outstation past))
    (asked_of setup f.outstation past)
own_asked setup past f m r true e ea = rw (eq-eqb f.outstation f.outstation refl, e, ea) refl
own_asked setup past f m r false e ea = rw (eq-eqb f.outstation f.outstation refl, e, ea) refl

-- and of the others
pub other_last : (past : List Entry) (f : Fragment) (p m : ℕ) (r : Reply) → (f.outstation ≡ p → ⊥)
    → last_text p (entry (steps.Fragment f m) (Ok r) ∷ past) ≡ last_text p past
other_last past f p m r ne = rw (ne_eqb f.outstation p ne) refl

pub other_asked : (setup : Setup) (past : List Entry) (f : Fragment) (p m : ℕ) (r : Reply) → (f.outstation ≡ p → ⊥)
    → asked_of setup p (entry (steps.Fragment f m) (Ok r) ∷ past) ≡ asked_of setup p past
other_asked setup past f p m r ne = rw (ne_eqb f.outstation p ne) refl

-- one fragment more of an answer
awaits_more : (moment : ℕ) (f : Fragment) (exchange : Exchange) (asked : Option AskedRequest) (m : Master)
    → m.sequence < 16 → is_answer asked f ≡ true → AwaitsAs exchange asked
    → AwaitsAs (master_after_answer moment f exchange m).exchange (asked_with moment f asked)
    × ((master_after_answer moment f exchange m).sequence < 16)
awaits_more moment f Idle None m small answers alike = absurd cc
awaits_more moment f Idle (Some a) m small answers alike = absurd alike
awaits_more moment f (Waiting w) None m small answers alike = absurd alike
awaits_more moment f (Selected order) None m small answers alike = absurd cc
awaits_more moment f (Selected order) (Some a) m small answers alike = absurd alike
awaits_more moment f (Waiting w) (Some a) m small answers alike = (go (control_in f).fin, omega arith)
  where
    next : following w.expected ≡ (a.sequence + (a.fragments + 1)) % 16
    next = omega (arith, alike.expected)

    begun : true ≡ not (eqb (a.fragments + 1) 0)
    begun = ap not (sym (ne_eqb (a.fragments + 1) 0 (λ e. omega (arith, e))))

    go : (fin : Bool) → AwaitsAs
        (cond fin (exchange_once_answered w.task (is_done w.task f))
        (Waiting (record w { expected = following w.expected; begun = true; since = moment })))
        (cond fin None (Some (record a { fragments = a.fragments + 1; since = moment })))
    go true = once_answered w.task (is_done w.task f)
    go false = record { expected = next; begun = begun; since = refl }

after_answer_poll : (moment : ℕ) (f : Fragment) (exchange : Exchange) (m : Master)
    → (master_after_answer moment f exchange m).poll ≡ m.poll
after_answer_poll moment f Idle m = refl
after_answer_poll moment f (Waiting w) m = refl
after_answer_poll moment f (Selected order) m = refl

after_answer_last : (moment : ℕ) (f : Fragment) (exchange : Exchange) (m : Master)
    → (master_after_answer moment f exchange m).last ≡ m.last
after_answer_last moment f Idle m = refl
after_answer_last moment f (Waiting w) m = refl
after_answer_last moment f (Selected order) m = refl

-- an accepted fragment
pub master_accepted : (setup : Setup) (past : List Entry) (f : Fragment) (m moment : ℕ) (r : Reply) (x : Master)
    → moment ≡ later (moment_after past) m → accepts x f ≡ true
    → MasterIs setup f.outstation past x → MasterIs setup f.outstation (entry (steps.Fragment f m) (Ok r) ∷ past)
    (master_after_fragment moment f x)
master_accepted setup past f m moment r x at takes tied = rw takes (go (is_unsolicited f) refl)
  where
    e : Entry
    e = entry (steps.Fragment f m) (Ok r)

    go : (b : Bool) → is_unsolicited f ≡ b → MasterIs setup f.outstation (e ∷ past) (master_after_accepted moment f x)
    go true eb = rw eb (record {
      poll = tied.poll;
      last = sym (own_last past f m r eb);
      number = tied.number;
      awaits = subst (λ (y : Option AskedRequest). AwaitsAs x.exchange y) (sym (kept_asked setup past f m r eb))
          tied.awaits;
    })
    go false eb =
        let answers : is_answer (asked_of setup f.outstation past) f ≡ true =
        sym (rw eb refl) ∙ (sym (same_accepted setup past f x tied) ∙ takes) in
        let more = awaits_more moment f x.exchange (asked_of setup f.outstation past) x tied.number answers
        tied.awaits in
        let asked : asked_of setup f.outstation (e ∷ past) ≡ asked_with moment f (asked_of setup f.outstation past) =
        own_asked setup past f m r true eb answers ∙ ap (λ (n : ℕ). asked_with n f (asked_of setup f.outstation past))
        (sym at) in
        rw eb (record {
          poll = tied.poll ∙ ap (λ (y : Poll). Some y) (sym (after_answer_poll moment f x.exchange x));
          last = after_answer_last moment f x.exchange x ∙ (tied.last ∙ sym (kept_last past f m r eb));
          number = more.1;
          awaits = subst (λ (y : Option AskedRequest). AwaitsAs (master_after_answer moment f x.exchange x).exchange y)
              (sym asked) more.0;
        })

-- a fragment that isn't accepted
pub master_left : (setup : Setup) (past : List Entry) (f : Fragment) (m : ℕ) (r : Reply) (x : Master)
    → accepts x f ≡ false
    → MasterIs setup f.outstation past x → MasterIs setup f.outstation (entry (steps.Fragment f m) (Ok r) ∷ past) x
master_left setup past f m r x left tied = go (is_unsolicited f) refl
  where
    e : Entry
    e = entry (steps.Fragment f m) (Ok r)

    refused : is_accepted setup past f ≡ false
    refused = sym (same_accepted setup past f x tied) ∙ left

    go : (b : Bool) → is_unsolicited f ≡ b → MasterIs setup f.outstation (e ∷ past) x
    go true eb =
        let again : is_last (last_text f.outstation past) f.octets ≡ true =
        elim (cases_Bool (is_last (last_text f.outstation past) f.octets)) [
          | inl known ↦ known
          | inr other ↦ absurd (true≢false (sym (rw (eb, other) refl) ∙ refused))
        ] in
        let known : x.last ≡ Some f.octets = is_last-true x.last f.octets
        (unsolicited_verdict past f x tied.last ∙ again) in
        record {
          poll = tied.poll;
          last = known ∙ sym (own_last past f m r eb);
          number = tied.number;
          awaits = subst (λ (y : Option AskedRequest). AwaitsAs x.exchange y)
              (sym (kept_asked setup past f m r eb)) tied.awaits;
        }
    go false eb =
        let answers : is_answer (asked_of setup f.outstation past) f ≡ false = sym (rw eb refl) ∙ refused in
        same_is setup f.outstation past e x (kept_last past f m r eb) (own_asked setup past f m r false eb answers) tied
