-- Why a step isn't made.
use Rattle.std.proofs.Common.{◌≡◌, ℕ, ◌+◌, ◌^◌, ◌<◌, Bool, true, false, ltb, List, [], ◌∷◌, ◌++◌, length}
use Rattle.std.proofs.Common.{Option, Some, None, Result, Ok, Err, refl, sym, ap, subst, ◌∙◌, arith, inl, inr}
use Rattle.std.specs.Prelude.{◌&&◌, ◌||◌, not, is_some, nat_le, nat_lt, option_map, IsTrue}
use Rattle.std.proofs.lemmas.Bool.{and_parts, cases_Bool, le-leb, le-ltb, lt-leb, lt-ltb, ltb-false, ltb-true}
use Rattle.gw_model.specs.First.{when, first_of}
use Rattle.gw_map.specs.Settings.{Setup}
use Rattle.gw_picture.proofs.Lists.{get_past}
use Rattle.gw_control.specs.Controls.{Controls}
use Rattle.gw_station.specs.Client.{Client, is_up}
use Rattle.gw_steps.specs.declared.step.Step.{Step}
use Rattle.gw_steps.specs.declared.step.Step.TheVariants as steps
use Rattle.gw_steps.specs.declared.step.Reply.{Reply}
use Rattle.gw_steps.specs.declared.step.StepFault.{StepFault}
use Rattle.gw_steps.specs.declared.step.StepFault.TheVariants.{NoOutstation, NoClient, NotUp, AlreadyUp, Memory, Spent}
use Rattle.gw_steps.specs.State.{State}
use Rattle.gw_steps.specs.Steps.{Allowed, after, answer, can_be_counted, can_order, can_rise, client_up, fault_of}
use Rattle.gw_steps.specs.Steps.{fault_unless_down, fault_unless_up, needs, one_if, outcome, outstation_up, reply_to}
use Rattle.gw_steps.specs.Runs.{AtEach, Entry, state_after}
use Rattle.gw_steps.proofs.Inversion.{answered}
use Rattle.gw_steps.proofs.Running.{entry}
use Rattle.law_history.specs.Life.{life}
use Rattle.gw_steps.specs.Premises.{IsSoundSetup, client_at}
use Rattle.law_history.specs.Up.{is_outstation_up}
use Rattle.law_history.proofs.Places.{Known, Place, SlotLives}
use Rattle.law_history.proofs.Ups.{told_up}
use Rattle.law_clients.specs.Connection.{Connection, connection}
use Rattle.law_clients.specs.Faults.{Faults, FaultsBy, count, fault_due, faults_of_actor, is_client_up}
use Rattle.law_clients.specs.Faults.{is_spent, is_spent_of, news_added, one_step, orders_added, sessions_added}
use Rattle.law_clients.proofs.Clients.{eight_clients}
use Rattle.law_clients.proofs.Links.{AllLinked, ClientLinked, SlotLinked}
use Rattle.law_clients.proofs.Needs.{NeedsTold, needs_told}
use Rattle.law_clients.proofs.Ordered.{ordered_more}
use Rattle.law_clients.proofs.Steps.{links}

-- ---- actors

-- by a number below a limit, or not
wanted_up : (absent : StepFault) (limit n : ℕ) (up : Bool)
    → fault_unless_up absent (when (nat_lt n limit) up)
    ≡ first_of (when (nat_le limit n) absent ∷ when (not up) NotUp ∷ [])
wanted_up absent limit n up = elim (cases_Bool (ltb n limit)) [
  | inl is ↦ rw (is, lt-leb limit n (ltb-true n limit is)) (by up)
  | inr out ↦ rw (out, le-leb limit n (ltb-false n limit out)) refl
]
  where
    by : (up : Bool) → fault_unless_up absent (Some up) ≡ first_of (when (not up) NotUp ∷ [])
    by true = refl
    by false = refl

wanted_down : (absent : StepFault) (limit n : ℕ) (up : Bool)
    → fault_unless_down absent (when (nat_lt n limit) up)
    ≡ first_of (when (nat_le limit n) absent ∷ when up AlreadyUp ∷ [])
wanted_down absent limit n up = elim (cases_Bool (ltb n limit)) [
  | inl is ↦ rw (is, lt-leb limit n (ltb-true n limit is)) (by up)
  | inr out ↦ rw (out, le-leb limit n (ltb-false n limit out)) refl
]
  where
    by : (up : Bool) → fault_unless_down absent (Some up) ≡ first_of (when up AlreadyUp ∷ [])
    by true = refl
    by false = refl

-- a client of which there is one is up where its connection stands
linked_up : (setup : Setup) (x : Option Connection) (k : Client) → ClientLinked setup x k → is_up k.stage ≡ is_some x
linked_up setup None k linked = linked
linked_up setup (Some x) k linked = linked.0

client_told : (setup : Setup) (past : List Entry) (c : ℕ) → Known setup past → AllLinked setup past
    → client_up (state_after setup past) c ≡ when (nat_lt c 8) (is_client_up setup c past)
client_told setup past c known linked = by (client_at setup c past) refl (known.lives c) (linked c)
  where
    by : (s : Option Client) → client_at setup c past ≡ s → SlotLives setup c (life setup c past) s
        → SlotLinked setup (connection setup c past) s
        → option_map (λ (k : Client). is_up k.stage) s ≡ when (nat_lt c 8) (is_client_up setup c past)
    by None at lives linked = rw (le-ltb c 8 lives) refl
    by (Some k) at lives linked = elim (cases_Bool (ltb c 8)) [
      | inl is ↦ rw is (ap Some (linked_up setup (connection setup c past) k linked))
      | inr out ↦ (
          let none : client_at setup c past ≡ None = get_past (state_after setup past).clients c
          (omega (arith, eight_clients setup past, ltb-false c 8 out)) in
          absurd cc)
    ]

same_faults : (setup : Setup) (past : List Entry) (step : Step) → Known setup past → AllLinked setup past
    → fault_of (state_after setup past) step ≡ first_of (faults_of_actor setup past step)
same_faults setup past step known linked = by step
  where
    outstation : (o : ℕ) → fault_unless_up NoOutstation (outstation_up (state_after setup past) o)
        ≡ first_of (when (nat_le (length setup.outstations) o) NoOutstation
        ∷ when (not (is_outstation_up o past)) NotUp ∷ [])
    outstation o =
        ap (fault_unless_up NoOutstation) (told_up setup past o)
        ∙ wanted_up NoOutstation (length setup.outstations) o (is_outstation_up o past)

    client : (c : ℕ) → fault_unless_up NoClient (client_up (state_after setup past) c)
        ≡ first_of (when (nat_le 8 c) NoClient ∷ when (not (is_client_up setup c past)) NotUp ∷ [])
    client c =
        ap (fault_unless_up NoClient) (client_told setup past c known linked)
        ∙ wanted_up NoClient 8 c (is_client_up setup c past)

    by : (step : Step) → fault_of (state_after setup past) step ≡ first_of (faults_of_actor setup past step)
    by (steps.OutstationUp o m) =
        ap (fault_unless_down NoOutstation) (told_up setup past o)
        ∙ wanted_down NoOutstation (length setup.outstations) o (is_outstation_up o past)
    by (steps.OutstationDown o m) = outstation o
    by (steps.Fragment f m) = outstation f.outstation
    by (steps.Poll o m wall) = outstation o
    by (steps.ClientUp c m) =
        ap (fault_unless_down NoClient) (client_told setup past c known linked)
        ∙ wanted_down NoClient 8 c (is_client_up setup c past)
    by (steps.ClientDown c m) = client c
    by (steps.Frame c a m) = client c
    by (steps.Pump c m) = client c
    by (steps.Tick m) = refl

-- ---- counts

pub record CountsTold (setup : Setup) (past : List Entry) (s : State) : Type 0 where
  pub steps : s.counts.steps ≡ count one_step setup past
  pub news : s.counts.news ≡ count news_added setup past
  pub sessions : s.counts.sessions ≡ count sessions_added setup past
  pub orders : s.controls.ordered ≡ count orders_added setup past
  pub few : s.controls.ordered < 2 ^ 64

few_more : (order : Bool) (v : Controls) → can_order order v ≡ true → v.ordered < 2 ^ 64
    → v.ordered + one_if order < 2 ^ 64
few_more true v can few = ltb-true (v.ordered + 1) (2 ^ 64) can
few_more false v can few = omega (arith, few)

counted : (setup : Setup) (past : List Entry) (step : Step) → (can_be_counted (state_after setup past)
    (needs setup (state_after setup past) step) ≡ true) → NeedsTold setup past (state_after setup past) step
    → (r : Reply) → CountsTold setup past (state_after setup past)
    → CountsTold setup (entry step (Ok r) ∷ past) (after setup (state_after setup past) step)
counted setup past step can told r so_far =
    let s : State = state_after setup past in
    let more = ordered_more setup s step in
    record {
      steps = omega (arith, so_far.steps, told.steps);
      news = omega (arith, so_far.news, told.news);
      sessions = omega (arith, so_far.sessions, told.sessions);
      orders = omega (arith, more, so_far.orders, told.orders);
      few = subst (λ (n : ℕ). n < 2 ^ 64) (sym more)
          (few_more (needs setup s step).order s.controls (and_parts (can_rise s.counts (needs setup s step).counts)
          (can_order (needs setup s step).order s.controls) can).1 so_far.few);
    }

pub counts_told : (setup : Setup) (past : List Entry) → AtEach (Place setup) past
    → CountsTold setup past (state_after setup past)
counts_told setup [] at = record { steps = refl; news = refl; sessions = refl; orders = refl; few = omega arith }
counts_told setup (e ∷ past) at =
    by e.step e.reply at.0.last.0 at.0.last.1 (links setup past at.1) (counts_told setup past at.1)
  where
    by : (step : Step) (reply : Result Reply StepFault)
        → Allowed setup (state_after setup past) step reply (state_after setup (entry step reply ∷ past))
        → Known setup past → AllLinked setup past → CountsTold setup past (state_after setup past)
        → CountsTold setup (entry step reply ∷ past) (state_after setup (entry step reply ∷ past))
    by step (Ok r) allowed known linked so_far =
        let s : State = state_after setup past in
        let told = answered (fault_of s step) (can_be_counted s (needs setup s step)) (reply_to setup s step) r
        allowed.0 in
        counted setup past step told.1 (needs_told setup past step at.0.given.settings known linked told.0) r so_far
    by step (Err f) allowed known linked so_far = record {
      steps = so_far.steps;
      news = so_far.news;
      sessions = so_far.sessions;
      orders = so_far.orders;
      few = so_far.few;
    }

-- ---- what can't be counted

within : (a limit : ℕ) → nat_lt a limit ≡ not (nat_le limit a)
within a limit = elim (cases_Bool (ltb a limit)) [
  | inl is ↦ rw (is, lt-leb limit a (ltb-true a limit is)) refl
  | inr out ↦ rw (out, le-leb limit a (ltb-false a limit out)) refl
]

orders_within : (order : Bool) (v : Controls) → v.ordered < 2 ^ 64
    → can_order order v ≡ nat_lt (v.ordered + one_if order) (2 ^ 64)
orders_within true v few = refl
orders_within false v few = sym (lt-ltb (v.ordered + 0) (2 ^ 64) (omega (arith, few)))

none_of : (a b c d : Bool) → (not a && not b && not c) && not d ≡ not (a || b || c || d)
none_of true b c d = refl
none_of false true c d = refl
none_of false false true d = refl
none_of false false false d = refl

same_spent : (setup : Setup) (past : List Entry) (step : Step) → NeedsTold setup past (state_after setup past) step
    → CountsTold setup past (state_after setup past)
    → can_be_counted (state_after setup past) (needs setup (state_after setup past) step)
    ≡ not (is_spent setup past step)
same_spent setup past step told counts =
    let s : State = state_after setup past in
    rw (
      orders_within (needs setup s step).order s.controls counts.few,
      counts.steps,
      counts.news,
      counts.sessions,
      counts.orders,
      told.steps,
      told.news,
      told.sessions,
      told.orders,
      within (count one_step setup past + 1) (2 ^ 64),
      within (count news_added setup past + news_added setup past step) (2 ^ 64),
      within (count sessions_added setup past + sessions_added setup past step) (2 ^ 64),
      within (count orders_added setup past + orders_added setup past step) (2 ^ 64),
    ) (none_of (is_spent_of one_step setup past step) (is_spent_of news_added setup past step)
    (is_spent_of sessions_added setup past step) (is_spent_of orders_added setup past step))

-- ---- the law

abbrev or_else : Option StepFault → Option StepFault → Option StepFault
or_else None other = other
or_else (Some fault) other = Some fault

first_append : (xs : List (Option StepFault)) (other : Option StepFault)
    → first_of (xs ++ other ∷ []) ≡ or_else (first_of xs) other
first_append [] None = refl
first_append [] (Some fault) = refl
first_append (None ∷ xs) other = first_append xs other
first_append (Some fault ∷ xs) other = refl

-- the fault of an answer
abbrev fault_in : Result Reply StepFault → Option StepFault
fault_in (Ok reply) = None
fault_in (Err fault) = Some fault

why : (fault : Option StepFault) (rises spent : Bool) (reply : Reply) → (fault ≡ None → rises ≡ not spent)
    → or_else fault (when spent Spent) ≡ fault_in (answer fault rises reply)
why (Some fault) rises spent reply same = refl
why None rises true reply same = rw (same refl) refl
why None rises false reply same = rw (same refl) refl

due_is : (setup : Setup) (past : List Entry) (step : Step) → IsSoundSetup setup → Known setup past
    → AllLinked setup past → CountsTold setup past (state_after setup past)
    → fault_due setup past step ≡ fault_in (outcome setup (state_after setup past) step)
due_is setup past step fit known linked counts =
    let s : State = state_after setup past in
    let spent : Option StepFault = when (is_spent setup past step) Spent in
    first_append (faults_of_actor setup past step) spent
    ∙ (ap (λ (fault : Option StepFault). or_else fault spent) (sym (same_faults setup past step known linked))
    ∙ why (fault_of s step) (can_be_counted s (needs setup s step)) (is_spent setup past step)
    (reply_to setup s step)
    (λ fine. same_spent setup past step (needs_told setup past step fit known linked fine) counts))

faults_by : (setup : Setup) (past : List Entry) (step : Step) (reply : Result Reply StepFault) (new : State)
    → IsSoundSetup setup → Allowed setup (state_after setup past) step reply new → Known setup past
    → AllLinked setup past → CountsTold setup past (state_after setup past) → FaultsBy setup past step reply
faults_by setup past step (Ok r) new fit allowed known linked counts =
    due_is setup past step fit known linked counts ∙ ap fault_in allowed.0
faults_by setup past step (Err Memory) new fit allowed known linked counts =
    let s : State = state_after setup past in
    let told = answered (fault_of s step) (can_be_counted s (needs setup s step)) (reply_to setup s step)
    (reply_to setup s step) allowed.0.0 in (
      due_is setup past step fit known linked counts ∙ ap fault_in allowed.0.0,
      subst IsTrue (needs_told setup past step fit known linked told.0).memory allowed.0.1,
    )
faults_by setup past step (Err NoOutstation) new fit allowed known linked counts =
    due_is setup past step fit known linked counts ∙ ap fault_in allowed.0
faults_by setup past step (Err NoClient) new fit allowed known linked counts =
    due_is setup past step fit known linked counts ∙ ap fault_in allowed.0
faults_by setup past step (Err NotUp) new fit allowed known linked counts =
    due_is setup past step fit known linked counts ∙ ap fault_in allowed.0
faults_by setup past step (Err AlreadyUp) new fit allowed known linked counts =
    due_is setup past step fit known linked counts ∙ ap fault_in allowed.0
faults_by setup past step (Err Spent) new fit allowed known linked counts =
    due_is setup past step fit known linked counts ∙ ap fault_in allowed.0

pub tells_faults : (setup : Setup) (past : List Entry) → AtEach (Place setup) past → Faults setup past
tells_faults setup [] at = tt
tells_faults setup (e ∷ past) at =
    faults_by setup past e.step e.reply (state_after setup (e ∷ past)) at.0.given.settings at.0.last.0 at.0.last.1
    (links setup past at.1) (counts_told setup past at.1)
