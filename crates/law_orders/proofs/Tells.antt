-- The outcome of an order is that of its execute.
use Rattle.std.proofs.Common.{◌≡◌, ℕ, ◌<◌, Bool, true, false, ◌&&◌, List, ◌∷◌, Option}
use Rattle.std.proofs.Common.{Some, None, option_map, refl, sym, ap, subst, ◌∙◌}
use Rattle.gw_model.specs.declared.control.Ended.{Ended}
use Rattle.gw_model.specs.declared.control.Order.{Order}
use Rattle.gw_picture.proofs.Lists.{some_is}
use Rattle.dnp_app.specs.declared.operation.Operation.{Operation}
use Rattle.dnp_app.specs.declared.operation.Operation.TheVariants.{Select, Operate, DirectOperate}
use Rattle.dnp_master.specs.declared.exchange.Exchange.{Exchange}
use Rattle.dnp_master.specs.declared.exchange.Exchange.TheVariants.{Idle, Waiting, Selected}
use Rattle.dnp_master.specs.declared.task.Task.{Task}
use Rattle.dnp_master.specs.declared.task.Task.TheVariants.{ClearRestart, WriteTime, RecordTime, Disable}
use Rattle.dnp_master.specs.declared.task.Task.TheVariants.{Integrity, Enable, EventPoll, Command}
use Rattle.dnp_master.specs.Master.{ended, order_of, order_taken}
use Rattle.gw_control.specs.declared.accepted.Accepted.{Accepted}
use Rattle.gw_control.specs.declared.accepted.UnderWay.{UnderWay}
use Rattle.gw_control.specs.Orders.{Outgoing, outcome_of}
use Rattle.law_orders.specs.Marks.{Mark, Asked, Answered}
use Rattle.law_orders.specs.ToldOnce.{TellsOf, is_operation, was_done}
use Rattle.law_orders.proofs.Held.{under_way_at}
use Rattle.law_orders.proofs.Story.{AskedBy, ForTask, GoesOn, IsOf, IsOrder, Sends, Story, Waits, WasSelected, asking, mark_here, with_mark}
use Rattle.law_orders.proofs.Asks.{reads_operation}

abbrev pub Tells : Story → Accepted → Bool → Type 0
Tells t x done = TellsOf t.executes (t.marks x.order.number) x.order.number (outcome_of done x)

-- where this order ends, the outcome of the one under way
abbrev pub TellsAt : Story → Option Ended → Option Outgoing → Type 0
TellsAt t None q = Unit {0}
TellsAt t (Some e) q =
    (way : UnderWay) → under_way_at q ≡ Some way → way.accepted.order.number ≡ e.number → Tells t way.accepted e.done

pub tells_of : (t : Story) (x : Accepted) (done : Bool) → IsOf t.executes x
    → done ≡ was_done (t.marks x.order.number) → Tells t x done
tells_of t x done k is =
    record { execute = k.execute; at = k.at; client = sym k.client; command = sym k.command; done = is }

pub sent_tells : (t : Story) (o : ℕ) (order : Order) (u : Option UnderWay) (done : Bool) → Sends t o order u
    → done ≡ was_done (t.marks order.number) → (way : UnderWay) → u ≡ Some way → Tells t way.accepted done
sent_tells t o order u done k is way at =
    let same : k.way ≡ way = some_is k.way way (sym k.is ∙ at) in
    subst (λ (x : UnderWay). Tells t x.accepted done) same
    (tells_of t k.way.accepted done k.of
    (is ∙ ap (λ (x : Order). was_done (t.marks x.number)) (sym k.same)))

-- ---- an order that fails

asked_fails : (o n : ℕ) (operation : Operation) (order : Order) (ms : List Mark) → AskedBy o operation order n ms
    → false ≡ was_done ms
asked_fails o n Select order ms k = sym (ap was_done k.1)
asked_fails o n DirectOperate order ms k = sym (ap was_done k.1)
asked_fails o n Operate order ms k = sym (ap was_done k.2)

-- SELECT operates nothing
selected_fails : (t : Story) (o : ℕ) (order : Order) (ms : List Mark) → IsOrder t.executes o order
    → WasSelected o order ms → false ≡ was_done ms
selected_fails t o order ms is k =
    sym (ap was_done k.is ∙ ap is_operation (reads_operation t.executes o order Select k.sequence is k.small))

task_fails : (t : Story) (o n : ℕ) (task : Task) (q : Option Outgoing) → ForTask t o n task (under_way_at q)
    → TellsAt t (option_map (ended false) (order_of task)) q
task_fails t o n (Command operation order) q k =
    λ way is same. sent_tells t o order (under_way_at q) false k.0
    (asked_fails o n operation order (t.marks order.number) k.1) way is
task_fails t o n ClearRestart q k = tt
task_fails t o n (WriteTime time) q k = tt
task_fails t o n (RecordTime wall) q k = tt
task_fails t o n Disable q k = tt
task_fails t o n Integrity q k = tt
task_fails t o n Enable q k = tt
task_fails t o n EventPoll q k = tt

pub failure_tells : (t : Story) (o : ℕ) (ex : Exchange) (q : Option Outgoing) → GoesOn t o ex (under_way_at q)
    → TellsAt t (option_map (ended false) (order_taken ex)) q
failure_tells t o Idle q k = tt
failure_tells t o (Waiting w) q k = task_fails t o k.sequence w.task q k.sent
failure_tells t o (Selected order) q k =
    λ way is same. sent_tells t o order (under_way_at q) false k.0
    (selected_fails t o order (t.marks order.number) k.0.order_is k.1) way is

-- one that waits
pub waiting_tells : (t : Story) (o : ℕ) (x : Accepted) → Waits t o x → Tells t x false
waiting_tells t o x k = tells_of t x false k.of (sym (ap was_done k.unmarked))

-- ---- an order that is answered

and_true : (b : Bool) → b ≡ b && true
and_true true = refl
and_true false = refl

-- OPERATE or DIRECT_OPERATE
pub operated_as : (t : Story) (o n : ℕ) (operation : Operation) (order : Order) (done : Bool) (before : List Mark)
    → IsOrder t.executes o order → n < 16 → is_operation (Some operation) ≡ true
    → t.marks order.number ≡ Asked o (asking operation order n) ∷ before
    → done ≡ was_done (with_mark order.number (Answered done) t.marks order.number)
operated_as t o n operation order done before is small operates asked =
    and_true done
    ∙ sym (ap was_done (mark_here order.number (Answered done) t.marks)
    ∙ (ap (λ (ms : List Mark). was_done (Answered done ∷ ms)) asked
    ∙ (ap (λ (x : Option Operation). done && is_operation x)
    (reads_operation t.executes o order operation n is small)
    ∙ ap (λ (b : Bool). done && b) operates)))

-- SELECT that failed
pub refused_as : (t : Story) (o n : ℕ) (order : Order) → AskedBy o Select order n (t.marks order.number)
    → false ≡ was_done (with_mark order.number (Answered false) t.marks order.number)
refused_as t o n order asked =
    sym (ap was_done (mark_here order.number (Answered false) t.marks)
    ∙ ap (λ (ms : List Mark). was_done (Answered false ∷ ms)) asked.1)
