-- What the marks of the order under way look like, by what its master does.
use Rattle.std.proofs.Common.{◌≡◌, ℕ, Bool, true, false, not, List, [], ◌∷◌}
use Rattle.std.proofs.Common.{Option, Some, None, refl, sym, ap, subst, ◌∙◌}
use Rattle.std.specs.List.{AllByRecursion}
use Rattle.gw_model.specs.declared.control.Order.{Order}
use Rattle.gw_map.specs.Settings.{Setup}
use Rattle.gw_picture.proofs.Lists.{some_is}
use Rattle.dnp_app.specs.declared.operation.Operation.{Operation}
use Rattle.dnp_app.specs.declared.operation.Operation.TheVariants.{Select, Operate, DirectOperate}
use Rattle.dnp_master.specs.declared.exchange.Exchange.{Exchange}
use Rattle.dnp_master.specs.declared.exchange.Exchange.TheVariants.{Idle, Waiting, Selected}
use Rattle.dnp_master.specs.declared.task.Task.{Task}
use Rattle.dnp_master.specs.declared.task.Task.TheVariants.{ClearRestart, WriteTime, RecordTime, Disable}
use Rattle.dnp_master.specs.declared.task.Task.TheVariants.{Integrity, Enable, EventPoll, Command}
use Rattle.dnp_master.specs.Master.{Master}
use Rattle.gw_control.specs.declared.accepted.Accepted.{Accepted}
use Rattle.gw_control.specs.declared.accepted.UnderWay.{UnderWay}
use Rattle.gw_control.specs.Orders.{Outgoing}
use Rattle.gw_steps.specs.Runs.{Entry}
use Rattle.law_orders.specs.Marks.{Mark, Asked}
use Rattle.law_orders.proofs.Asks.{reads_operation}
use Rattle.law_orders.proofs.Held.{under_way_at, waiting_at}
use Rattle.law_orders.proofs.Story.{AskedBy, ForTask, GoesOn, Holds, IsOrder, Sends, Story, Waits, WasSelected, asking, exchange_at, story}
use Rattle.law_orders.specs.Pending.{awaits, is_final, is_marked, is_select}
use Rattle.law_orders.proofs.Rows.{Marked}

-- something was asked, its answer is awaited or not, and it isn't over
pub record Shape (waits : Bool) (ms : List Mark) : Type 0 where
  pub marked : is_marked ms ≡ true
  pub awaits : awaits ms ≡ waits
  pub final : is_final ms ≡ false

abbrev pub is_waiting : Exchange → Bool
is_waiting Idle = false
is_waiting (Waiting w) = true
is_waiting (Selected order) = false

just_asked : (o : ℕ) (operation : Operation) (order : Order) (n : ℕ) (before ms : List Mark)
    → ms ≡ Asked o (asking operation order n) ∷ before → Shape true ms
just_asked o operation order n before ms is =
    subst (Shape true) (sym is) (record { marked = refl; awaits = refl; final = refl })

asked_shape : (o n : ℕ) (operation : Operation) (order : Order) (ms : List Mark) → AskedBy o operation order n ms
    → Shape true ms
asked_shape o n Select order ms k = just_asked o Select order n [] ms k.1
asked_shape o n DirectOperate order ms k = just_asked o DirectOperate order n [] ms k.1
asked_shape o n Operate order ms k = just_asked o Operate order n k.0 ms k.2

selected_shape : (t : Story) (o : ℕ) (order : Order) (ms : List Mark) → IsOrder t.executes o order
    → WasSelected o order ms → Shape false ms
selected_shape t o order ms is k =
    subst (Shape false) (sym k.is) (record {
      marked = refl;
      awaits = refl;
      final = ap (λ (x : Option Operation). not (is_select x))
          (reads_operation t.executes o order Select k.sequence is k.small);
    })

sent_shape : (t : Story) (o : ℕ) (order : Order) (found : Option UnderWay) (u : UnderWay) (waits : Bool)
    → Sends t o order found → found ≡ Some u → Shape waits (t.marks order.number)
    → Shape waits (t.marks u.accepted.order.number)
sent_shape t o order found u waits k at shape =
    let way : k.way ≡ u = some_is k.way u (sym k.is ∙ at) in
    let same : order ≡ u.accepted.order = sym k.same ∙ ap (λ (x : UnderWay). x.accepted.order) way in
    subst (λ (x : Order). Shape waits (t.marks x.number)) same shape

nothing_found : (waits : Bool) (found : Option UnderWay) (u : UnderWay) (ms : List Mark) → found ≡ None → found ≡ Some u
    → Shape waits ms
nothing_found waits found u ms none at = absurd (let both : None ≡ Some u = sym none ∙ at in let no : ⊥ = cc in no)

task_shape : (t : Story) (o n : ℕ) (task : Task) (found : Option UnderWay) (u : UnderWay) → ForTask t o n task found
    → found ≡ Some u → Shape true (t.marks u.accepted.order.number)
task_shape t o n (Command operation order) found u k at =
    sent_shape t o order found u true k.0 at (asked_shape o n operation order (t.marks order.number) k.1)
task_shape t o n ClearRestart found u k at = nothing_found true found u (t.marks u.accepted.order.number) k at
task_shape t o n (WriteTime time) found u k at = nothing_found true found u (t.marks u.accepted.order.number) k at
task_shape t o n (RecordTime wall) found u k at = nothing_found true found u (t.marks u.accepted.order.number) k at
task_shape t o n Disable found u k at = nothing_found true found u (t.marks u.accepted.order.number) k at
task_shape t o n Integrity found u k at = nothing_found true found u (t.marks u.accepted.order.number) k at
task_shape t o n Enable found u k at = nothing_found true found u (t.marks u.accepted.order.number) k at
task_shape t o n EventPoll found u k at = nothing_found true found u (t.marks u.accepted.order.number) k at

pub way_shape : (t : Story) (o : ℕ) (ex : Exchange) (found : Option UnderWay) (u : UnderWay) → GoesOn t o ex found
    → found ≡ Some u → Shape (is_waiting ex) (t.marks u.accepted.order.number)
way_shape t o Idle found u k at = nothing_found false found u (t.marks u.accepted.order.number) k at
way_shape t o (Waiting w) found u k at = task_shape t o k.sequence w.task found u k.sent at
way_shape t o (Selected order) found u k at =
    sent_shape t o order found u false k.0 at (selected_shape t o order (t.marks order.number) k.0.order_is k.1)

-- ---- one outstation

pub all_unmarked : (t : Story) (o : ℕ) (xs : List Accepted) → AllByRecursion (Waits t o) xs
    → AllByRecursion (λ x. t.marks x.order.number ≡ []) xs
all_unmarked t o [] all = tt
all_unmarked t o (x ∷ xs) all = (all.0.unmarked, all_unmarked t o xs all.1)

pub marked_of : (setup : Setup) (past : List Entry) (o : ℕ) (m : Option Master) (q : Option Outgoing)
    → Holds (story setup past) o m q → Marked past q
marked_of setup past o m q k = record {
  waiting = all_unmarked (story setup past) o (waiting_at q) k.waiting;
  under_way = λ u at. (way_shape (story setup past) o (exchange_at m) (under_way_at q) u k.going at).marked;
}
