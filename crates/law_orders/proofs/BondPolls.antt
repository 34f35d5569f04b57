-- A poll of an outstation gives the request of an order, or one that operates nothing.
use Rattle.std.proofs.Common.{◌≡◌, ℕ, ◌+◌, ◌%◌, ◌≤◌, ◌<◌, Bool, true, false, cond, List, []}
use Rattle.std.proofs.Common.{◌∷◌, ◌++◌, Option, Some, None, option_map, refl, sym, ap, subst, ◌∙◌, arith}
use Rattle.std.specs.Prelude.{◌==◌, is_some, slice_get}
use Rattle.std.specs.List.{AllByRecursion}
use Rattle.std.specs.Option.{option_to_list}
use Rattle.std.proofs.lemmas.Bool.{eq-eqb, true≢false}
use Rattle.gw_model.specs.First.{when}
use Rattle.gw_model.specs.declared.control.Order.{Order}
use Rattle.gw_model.specs.declared.poll.Poll.{Poll}
use Rattle.gw_picture.proofs.Lists.{some_is}
use Rattle.dnp_app.specs.declared.operation.Operation.{Operation}
use Rattle.dnp_app.specs.declared.operation.Operation.TheVariants.{Operate}
use Rattle.dnp_app.specs.declared.request.Request.{Request}
use Rattle.dnp_app.specs.Requests.{octets_of}
use Rattle.dnp_master.specs.declared.due.DueTasks.{DueTasks}
use Rattle.dnp_master.specs.declared.exchange.Exchange.{Exchange}
use Rattle.dnp_master.specs.declared.exchange.Exchange.TheVariants.{Idle, Waiting, Selected}
use Rattle.dnp_master.specs.declared.task.Task.{Task}
use Rattle.dnp_master.specs.declared.task.Task.TheVariants.{ClearRestart, WriteTime, RecordTime, Disable}
use Rattle.dnp_master.specs.declared.task.Task.TheVariants.{Integrity, Enable, EventPoll, Command}
use Rattle.dnp_master.specs.Master.{Master, first_task, if_due, is_event_poll_due, is_integrity_due}
use Rattle.dnp_master.specs.Master.{is_ready, master_after_given, master_after_order, master_asking}
use Rattle.dnp_master.specs.Master.{order_of, request_ordered, task_given, task_request, tasks_due, time_due}
use Rattle.gw_control.specs.declared.accepted.Accepted.{Accepted}
use Rattle.gw_control.specs.declared.accepted.UnderWay.{UnderWay}
use Rattle.gw_control.specs.Controls.{order_at}
use Rattle.gw_control.specs.Moves.{one_if}
use Rattle.gw_control.specs.Orders.{Outgoing, outgoing_after_taking, IsInOrder}
use Rattle.gw_steps.specs.Controls.{order_for}
use Rattle.gw_steps.specs.Steps.{request_polled}
use Rattle.law_history.proofs.Outstations.{master_after_poll}
use Rattle.law_orders.specs.Executes.{Execute, numbered}
use Rattle.law_orders.specs.Marks.{Mark, Asked, is_number, names}
use Rattle.law_orders.specs.Bonds.{AsksAsOrdered, IsBound, IsBoundTo, is_control_request}
use Rattle.law_orders.proofs.Held.{held_at, held_way, under_way_at, waiting_at}
use Rattle.law_orders.proofs.Story.{AskedBy, ForTask, GoesOn, Holds, IsOf, IsOrder, OfOrder}
use Rattle.law_orders.proofs.Story.{Story, Waits, alike_self, asking, mark_here, with_mark}
use Rattle.law_orders.proofs.Asks.{Above, all_above, asked_first, first_of_order, given_apart, last_after}
use Rattle.law_orders.proofs.Asks.{last_here, last_there, marked_apart, marked_bonded, marked_kept}
use Rattle.law_orders.proofs.Asks.{may_first, may_operate, reads_intent, story_marked, waits_behind}
use Rattle.law_orders.proofs.Moves.{InOrderAt, Moves, waits_same}

-- ---- the story

abbrev pub story_asked : ℕ → Request → Story → Story
story_asked o r t = record t {
  marks = λ n. option_to_list (when (names n r) (Asked o r)) ++ t.marks n;
  last = last_after o r t.last;
}

abbrev pub story_polled : ℕ → Option Request → Story → Story
story_polled o None t = t
story_polled o (Some r) t = story_asked o r t

abbrev pub with_outstation : ℕ → Option Request → Option (ℕ × Request)
with_outstation o given = option_map {U = ℕ × Request} (λ r. (o, r)) given

-- the poll gives this, and leaves the master and the orders so
pub record Polled (t : Story) (o : ℕ) (before : Option Outgoing) (given : Option Request) (m : Master)
    (q : Option Outgoing) : Type 0 where
  pub moves : Moves t (story_polled o given t) o before (Some m) q
  pub bound : IsBound t.executes (with_outstation o given)

-- ---- a request of an order

next_small : (n : ℕ) → (n + 1) % 16 < 16
next_small n = omega arith

bound_order : (xs : List Execute) (o : ℕ) (order : Order) (operation : Operation) (n : ℕ) → IsOrder xs o order → n < 16
    → AsksAsOrdered xs o (asking operation order n) order.number
bound_order xs o order operation n k small = record {
  execute = k.execute;
  intent = order.intent;
  at = k.at;
  asks = reads_intent xs o order operation n k small;
  ordered = k.means;
}

order_polled : (t : Story) (o moment : ℕ) (before : Option Outgoing) (m : Master) (ws : List Accepted)
    (operation : Operation) (order : Order) (way : UnderWay) → 1 ≤ held_at order.number before
    → m.sequence < 16 → m.up ≡ true → IsOrder t.executes o order → IsOf t.executes way.accepted
    → way.accepted.order ≡ order
    → ((r : Request) → r ≡ asking operation order m.sequence
    → AskedBy o operation order m.sequence (Asked o r ∷ t.marks order.number))
    → ((r : Request) → r ≡ asking operation order m.sequence
    → (n : ℕ) → OfOrder (numbered n t.executes) (t.marks n)
    → OfOrder (numbered n t.executes) (with_mark order.number (Asked o r) t.marks n))
    → Above order.number ws → AllByRecursion (Waits t o) ws
    → Polled t o before (Some (asking operation order m.sequence)) (master_asking moment (Command operation order) m)
    (Some (record { waiting = ws; under_way = Some way }))
order_polled t o moment before m ws operation order way there small up k of same asked bonded above waiting =
    let r : Request = asking operation order m.sequence in
    let new : Story = story_asked o r t in
    record {
      moves = record {
        here = record {
          waiting = waits_behind t new o order.number (Asked o r) ws (λ n x e. e) (λ n. refl) above waiting;
          going = record {
            sequence = m.sequence;
            small = small;
            last = last_here o r t.last;
            sent = (
              record { way = way; is = refl; same = same; order_is = k; of = of },
              subst (AskedBy o operation order m.sequence) (sym (mark_here order.number (Asked o r) t.marks))
                  (asked r refl),
            );
          };
          small = next_small m.sequence;
          down = λ not_up. absurd (true≢false (sym up ∙ not_up));
        };
        others = λ p ne. given_apart t (story_marked order.number (Asked o r) t) o p r ne
            (marked_apart t o p order (Asked o r) k ne);
        bonded = bonded r refl;
        kept = marked_kept order.number (Asked o r) t.marks before there;
      };
      bound = bound_order t.executes o order operation m.sequence k small;
    }

-- ---- the next order is taken

held_first : (n : ℕ) (xs : List Accepted) (x : Accepted) → x.order.number ≡ n
    → 1 ≤ held_at n (Some (record { waiting = x ∷ xs; under_way = None }))
held_first n xs x is =
    let one : one_if (x.order.number == n) ≡ 1 = ap one_if (eq-eqb x.order.number n is) in omega (arith, one)

take_first : (t : Story) (o moment count : ℕ) (m : Master) (x : Accepted) (xs : List Accepted) → m.up ≡ true
    → IsInOrder count (record { waiting = x ∷ xs; under_way = None })
    → Holds t o (Some m) (Some (record { waiting = x ∷ xs; under_way = None }))
    → Polled t o (Some (record { waiting = x ∷ xs; under_way = None })) (Some (request_ordered x.order m))
    (master_after_order moment x.order m)
    (Some (record { waiting = xs; under_way = Some (record { accepted = x; left = false }) }))
take_first t o moment count m x xs up in_order k =
    let order : Order = x.order in
    let waits : Waits t o x = k.waiting.0 in
    order_polled t o moment (Some (record { waiting = x ∷ xs; under_way = None })) m xs (first_of_order order.sbo) order
    (record { accepted = x; left = false }) (held_first order.number xs x refl) k.small up
    waits.order waits.of refl
    (λ r is. subst (λ (y : Request). AskedBy o (first_of_order order.sbo) order m.sequence
    (Asked o y ∷ t.marks order.number)) (sym is)
    (asked_first o order m.sequence (t.marks order.number) waits.unmarked))
    (λ r is. subst (λ (y : Request). (n : ℕ) → OfOrder (numbered n t.executes) (t.marks n)
    → OfOrder (numbered n t.executes) (with_mark order.number (Asked o y) t.marks n)) (sym is)
    (marked_bonded t o order (Asked o (asking (first_of_order order.sbo) order m.sequence)) waits.order
    (may_first t.executes o order m.sequence (t.marks order.number) waits.order k.small waits.unmarked)))
    (all_above order.number count xs in_order.rise.1) k.waiting.1

take : (t : Story) (o moment count : ℕ) (m : Master) (ws : List Accepted) (u : Option UnderWay) (order : Order)
    → m.up ≡ true → option_map (λ (x : Accepted). x.order) (cond (is_some u) None (slice_get ws 0)) ≡ Some order
    → IsInOrder count (record { waiting = ws; under_way = u })
    → Holds t o (Some m) (Some (record { waiting = ws; under_way = u }))
    → Polled t o (Some (record { waiting = ws; under_way = u })) (Some (request_ordered order m))
    (master_after_order moment order m) (Some (outgoing_after_taking (record { waiting = ws; under_way = u })))
take t o moment count m ws (Some u) order up e in_order k = absurd (let none : ⊥ = cc in none)
take t o moment count m [] None order up e in_order k = absurd (let none : ⊥ = cc in none)
take t o moment count m (x ∷ xs) None order up e in_order k =
    subst (λ (y : Order). Polled t o (Some (record { waiting = x ∷ xs; under_way = None }))
    (Some (request_ordered y m)) (master_after_order moment y m)
    (Some (record { waiting = xs; under_way = Some (record { accepted = x; left = false }) })))
    (some_is x.order order e) (take_first t o moment count m x xs up in_order k)

-- ---- OPERATE

operate : (t : Story) (o moment count : ℕ) (m : Master) (ws : List Accepted) (u : Option UnderWay) (order : Order)
    → m.up ≡ true → m.sequence < 16 → IsInOrder count (record { waiting = ws; under_way = u })
    → AllByRecursion (Waits t o) ws → GoesOn t o (Selected order) u
    → Polled t o (Some (record { waiting = ws; under_way = u })) (Some (asking Operate order m.sequence))
    (master_asking moment (Command Operate order) m) (Some (record { waiting = ws; under_way = u }))
operate t o moment count m ws None order up small in_order waiting k =
    absurd (let none : None ≡ Some k.0.way = k.0.is in let no : ⊥ = cc in no)
operate t o moment count m ws (Some way) order up small in_order waiting k =
    let is : k.0.way ≡ way = sym (some_is way k.0.way k.0.is) in
    let same : way.accepted.order ≡ order = subst (λ (x : UnderWay). x.accepted.order ≡ order) is k.0.same in
    order_polled t o moment (Some (record { waiting = ws; under_way = Some way })) m ws Operate order way
    (held_way order.number (Some (record { waiting = ws; under_way = Some way })) way refl
    (ap (λ (x : Order). x.number) same)) small up k.0.order_is
    (subst (λ (x : UnderWay). IsOf t.executes x.accepted) is k.0.of) same
    (λ r e. (t.marks order.number, k.1, ap (λ (y : Request). Asked o y ∷ t.marks order.number) e))
    (λ r e. subst (λ (y : Request). (n : ℕ) → OfOrder (numbered n t.executes) (t.marks n)
    → OfOrder (numbered n t.executes) (with_mark order.number (Asked o y) t.marks n)) (sym e)
    (marked_bonded t o order (Asked o (asking Operate order m.sequence)) k.0.order_is
    (may_operate t.executes o order m.sequence (t.marks order.number) k.0.order_is small k.1)))
    (subst (λ (x : Order). Above x.number ws) same (all_above way.accepted.order.number count ws in_order.rise.1))
    waiting

operate_at : (t : Story) (o moment count : ℕ) (m : Master) (q : Option Outgoing) (order : Order) → m.up ≡ true
    → m.sequence < 16 → InOrderAt count q → AllByRecursion (Waits t o) (waiting_at q)
    → GoesOn t o (Selected order) (under_way_at q)
    → Polled t o q (Some (asking Operate order m.sequence)) (master_asking moment (Command Operate order) m) q
operate_at t o moment count m None order up small in_order waiting k =
    absurd (let none : None ≡ Some k.0.way = k.0.is in let no : ⊥ = cc in no)
operate_at t o moment count m (Some q) order up small in_order waiting k =
    operate t o moment count m q.waiting q.under_way order up small in_order waiting k

-- ---- a request that operates nothing

operates_nothing : (task : Task) (n : ℕ) → order_of task ≡ None
    → is_control_request (octets_of (task_request task n)) ≡ false
operates_nothing ClearRestart n plain = refl
operates_nothing (WriteTime time) n plain = refl
operates_nothing (RecordTime wall) n plain = refl
operates_nothing Disable n plain = refl
operates_nothing Integrity n plain = refl
operates_nothing Enable n plain = refl
operates_nothing EventPoll n plain = refl
operates_nothing (Command operation order) n plain = absurd (let none : ⊥ = cc in none)

plain_task : (t : Story) (o n : ℕ) (task : Task) (u : Option UnderWay) → order_of task ≡ None → u ≡ None
    → ForTask t o n task u
plain_task t o n (Command operation order) u plain none = absurd (let no : ⊥ = cc in no)
plain_task t o n ClearRestart u plain none = none
plain_task t o n (WriteTime time) u plain none = none
plain_task t o n (RecordTime wall) u plain none = none
plain_task t o n Disable u plain none = none
plain_task t o n Integrity u plain none = none
plain_task t o n Enable u plain none = none
plain_task t o n EventPoll u plain none = none

-- no number, no mark
pub nothing_named : (bond : Option ℕ) (n : ℕ) (mark : Mark) (before : List Mark) → bond ≡ None
    → option_to_list (when (is_number n bond) mark) ++ before ≡ before
nothing_named bond n mark before none =
    ap (λ (b : Option ℕ). option_to_list (when (is_number n b) mark) ++ before) none

pub plain_bond : (task : Task) (n : ℕ) → order_of task ≡ None → (task_request task n).bond ≡ None
plain_bond task n plain = ap (option_map (λ (order : Order). order.number)) plain

plain : (t : Story) (o moment : ℕ) (m : Master) (q : Option Outgoing) (task : Task) → m.up ≡ true → m.sequence < 16
    → order_of task ≡ None → AllByRecursion (Waits t o) (waiting_at q) → under_way_at q ≡ None
    → Polled t o q (Some (task_request task m.sequence)) (master_asking moment task m) q
plain t o moment m q task up small none waiting idle =
    let r : Request = task_request task m.sequence in
    let new : Story = story_asked o r t in
    let same : (n : ℕ) → new.marks n ≡ t.marks n =
    λ n. nothing_named r.bond n (Asked o r) (t.marks n) (plain_bond task m.sequence none) in
    record {
      moves = record {
        here = record {
          waiting = waits_same t new o (waiting_at q) (λ n x e. e) same waiting;
          going = record {
            sequence = m.sequence;
            small = small;
            last = last_here o r t.last;
            sent = plain_task new o m.sequence task (under_way_at q) none idle;
          };
          small = next_small m.sequence;
          down = λ not_up. absurd (true≢false (sym up ∙ not_up));
        };
        others = λ p ne. record {
          keeps = λ n x e. e;
          marks = λ n x e there. same n;
          last = last_there o p r t.last ne;
        };
        bonded = λ n k. subst (OfOrder (numbered n t.executes)) (sym (same n)) k;
        kept = λ n none_there. same n;
      };
      bound = subst (IsBoundTo t.executes o r) (sym (plain_bond task m.sequence none))
          (operates_nothing task m.sequence none);
    }

-- ---- what is due first

-- the first of tasks, if there is one, is no part of an order
abbrev IsPlain : List Task → Type 0
IsPlain tasks = (task : Task) → slice_get tasks 0 ≡ Some task → order_of task ≡ None

plain_first : (first task : Task) (tasks : List Task) → order_of first ≡ None
    → slice_get (first ∷ tasks) 0 ≡ Some task → order_of task ≡ None
plain_first first task tasks none e = subst (λ (x : Task). order_of x ≡ None) (some_is first task e) none

plain_before : (due : Bool) (first : Task) (tasks : List Task) → order_of first ≡ None → IsPlain tasks
    → IsPlain (if_due due first ++ tasks)
plain_before true first tasks none rest task e = plain_first first task tasks none e
plain_before false first tasks none rest task e = rest task e

plain_time : (time : Option ℕ) (tasks : List Task) → IsPlain tasks → IsPlain (time_due time ++ tasks)
plain_time None tasks rest task e = rest task e
plain_time (Some time) tasks rest task e = plain_first (WriteTime time) task tasks refl e

plain_last : (due : Bool) → IsPlain (if_due due EventPoll)
plain_last true task e = plain_first EventPoll task [] refl e
plain_last false task e = absurd (let none : ⊥ = cc in none)

plain_due : (moment wall : ℕ) (poll : Poll) (due : DueTasks) → IsPlain (tasks_due moment wall poll due)
plain_due moment wall poll due =
    plain_before due.clear_restart ClearRestart _ refl
    (plain_time due.write_time _
    (plain_before due.record_time (RecordTime wall) _ refl
    (plain_before due.disable Disable _ refl
    (plain_before (is_integrity_due moment poll due) Integrity _ refl
    (plain_before due.enable Enable _ refl
    (plain_last (is_event_poll_due moment poll due)))))))

-- nothing is due
nothing_polled : (t : Story) (o : ℕ) (m : Master) (q : Option Outgoing) → Holds t o (Some m) q → Polled t o q None m q
nothing_polled t o m q k = record {
  moves = record { here = k; others = λ p ne. alike_self t p; bonded = λ n so_far. so_far; kept = λ n none. refl };
  bound = tt;
}

abbrev given_for : Option Task → Master → Option Request
given_for task m = option_map (λ (x : Task). task_request x m.sequence) task

due_polled : (t : Story) (o moment : ℕ) (m : Master) (q : Option Outgoing) (tasks : List Task) → m.up ≡ true
    → IsPlain tasks → under_way_at q ≡ None → Holds t o (Some m) q → (first : Option Task)
    → slice_get tasks 0 ≡ first → Polled t o q (given_for first m) (master_after_given moment first m) q
due_polled t o moment m q tasks up no_order idle k None e = nothing_polled t o m q k
due_polled t o moment m q tasks up no_order idle k (Some task) e =
    plain t o moment m q task up k.small (no_order task e) k.waiting idle

next_polled : (t : Story) (o moment count : ℕ) (m : Master) (q : Option Outgoing) (tasks : List Task) → m.up ≡ true
    → InOrderAt count q → IsPlain tasks → Holds t o (Some m) q → (ex : Exchange) → GoesOn t o ex (under_way_at q)
    → Polled t o q (given_for (first_task ex tasks) m) (master_after_given moment (first_task ex tasks) m) q
next_polled t o moment count m q tasks up in_order no_order k Idle going =
    due_polled t o moment m q tasks up no_order going k (slice_get tasks 0) refl
next_polled t o moment count m q tasks up in_order no_order k (Waiting w) going = nothing_polled t o m q k
next_polled t o moment count m q tasks up in_order no_order k (Selected order) going =
    operate_at t o moment count m q order up k.small in_order k.waiting going

-- ---- all polls

abbrev pub outgoing_polled : Option Order → Option Outgoing → Option Outgoing
outgoing_polled None q = q
outgoing_polled (Some order) q = option_map outgoing_after_taking q

if_so : {A : Type 0} (b : Bool) (x : Option A) (y : A) → cond b x None ≡ Some y → (b ≡ true) × (x ≡ Some y)
if_so true x y e = (refl, e)
if_so false x y e = absurd (let none : ⊥ = cc in none)

take_at : (t : Story) (o moment count : ℕ) (m : Master) (q : Option Outgoing) (order : Order) → m.up ≡ true
    → order_at q ≡ Some order → InOrderAt count q → Holds t o (Some m) q
    → Polled t o q (Some (request_ordered order m)) (master_after_order moment order m)
    (option_map outgoing_after_taking q)
take_at t o moment count m None order up e in_order k = absurd (let none : ⊥ = cc in none)
take_at t o moment count m (Some q) order up e in_order k =
    take t o moment count m q.waiting q.under_way order up e in_order k

pub polled : (t : Story) (o moment wall count : ℕ) (m : Master) (q : Option Outgoing) (due : Option Order)
    → order_for (Some m) q ≡ due → m.up ≡ true → InOrderAt count q → Holds t o (Some m) q
    → Polled t o q (request_polled due moment wall m) (master_after_poll moment wall due m) (outgoing_polled due q)
polled t o moment wall count m q (Some order) e up in_order k =
    take_at t o moment count m q order up (if_so (is_ready m) (order_at q) order e).1 in_order k
polled t o moment wall count m q None e up in_order k =
    let tasks : List Task = tasks_due moment wall m.poll m.due in
    let given : task_given moment wall m ≡ first_task m.exchange tasks =
    ap (λ (b : Bool). cond b (first_task m.exchange tasks) None) up in
    subst (λ (x : Option Task). Polled t o q (given_for x m) (master_after_given moment x m) q) (sym given)
    (next_polled t o moment count m q tasks up in_order (plain_due moment wall m.poll m.due) k m.exchange k.going)
