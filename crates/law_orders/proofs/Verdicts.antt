-- A fragment comes: it ends an answer, or it marks nothing.
use Rattle.std.proofs.Common.{◌≡◌, ℕ, ◌<◌, Bool, true, false, cond, List, [], ◌∷◌}
use Rattle.std.proofs.Common.{◌++◌, Option, Some, None, refl, sym, ap, subst, ◌∙◌, arith}
use Rattle.std.specs.Prelude.{◌==◌}
use Rattle.std.specs.List.{AllByRecursion}
use Rattle.std.specs.Option.{option_to_list}
use Rattle.std.proofs.lemmas.Bool.{true≢false}
use Rattle.gw_model.specs.declared.control.Ended.{Ended}
use Rattle.gw_model.specs.declared.control.Order.{Order}
use Rattle.gw_picture.proofs.Lists.{some_is}
use Rattle.dnp_app.specs.declared.operation.Operation.{Operation}
use Rattle.dnp_app.specs.declared.operation.Operation.TheVariants.{Select, Operate, DirectOperate}
use Rattle.dnp_app.specs.declared.request.Request.{Request}
use Rattle.dnp_app.specs.Control.{confirm_of}
use Rattle.dnp_app.specs.Operating.{Operating, operating_of}
use Rattle.dnp_app.specs.Requests.{octets_of}
use Rattle.dnp_app.specs.Response.{Fragment, is_unsolicited}
use Rattle.dnp_master.specs.declared.exchange.Awaited.{Awaited}
use Rattle.dnp_master.specs.declared.exchange.Exchange.{Exchange}
use Rattle.dnp_master.specs.declared.exchange.Exchange.TheVariants.{Idle, Waiting, Selected}
use Rattle.dnp_master.specs.declared.task.Task.{Task}
use Rattle.dnp_master.specs.declared.task.Task.TheVariants.{ClearRestart, WriteTime, RecordTime, Disable}
use Rattle.dnp_master.specs.declared.task.Task.TheVariants.{Integrity, Enable, EventPoll, Command}
use Rattle.dnp_master.specs.declared.verdict.Verdict.{Verdict}
use Rattle.dnp_master.specs.declared.verdict.Verdict.TheVariants.{Accepted, Repeated, Ignored}
use Rattle.dnp_master.specs.declared.verdict.Ignored.TheVariants.{WrongSequence, WrongFirst}
use Rattle.dnp_master.specs.Master.{Master, ended, following, order_of, task_request}
use Rattle.dnp_master.specs.Fragments.{accepts, control_in, ended_answered, ended_with, exchange_once_answered}
use Rattle.dnp_master.specs.Fragments.{is_acceptance, is_begun_rightly, is_done, is_last, master_after_accepted}
use Rattle.dnp_master.specs.Fragments.{master_after_answer, master_after_fragment, master_after_unsolicited}
use Rattle.dnp_master.specs.Fragments.{verdict_of, verdict_of_answer, verdict_of_unsolicited}
use Rattle.gw_control.specs.declared.accepted.Accepted.{Accepted as AcceptedExecute}
use Rattle.gw_control.specs.declared.accepted.UnderWay.{UnderWay}
use Rattle.gw_control.specs.Orders.{Outgoing}
use Rattle.gw_steps.specs.declared.step.Reply.TheVariants as replies
use Rattle.gw_steps.specs.Controls.{ended_in}
use Rattle.law_orders.specs.Executes.{numbered}
use Rattle.law_orders.specs.Marks.{Mark, Answered, is_end, mark_answering, took}
use Rattle.law_orders.specs.Bonds.{MayAnswer}
use Rattle.law_orders.specs.ToldOnce.{was_done}
use Rattle.law_orders.proofs.Held.{held_way, under_way_at, waiting_at}
use Rattle.law_orders.proofs.Story.{AskedBy, Awaits, ForTask, GoesOn, Holds, OfOrder, Sends, Story}
use Rattle.law_orders.proofs.Story.{Waits, alike_self, asking, mark_here, with_mark, sends_kept}
use Rattle.law_orders.proofs.Asks.{Above, all_above, marked_apart, marked_bonded, marked_kept, reads_again, story_marked, waits_behind}
use Rattle.law_orders.proofs.Moves.{InOrderAt, Moves, waits_same}
use Rattle.law_orders.proofs.BondPolls.{nothing_named, plain_bond}
use Rattle.law_orders.proofs.Tells.{TellsAt, operated_as, refused_as, sent_tells}
use Rattle.law_orders.proofs.Ends.{ended_at, ended_waiting, sent_goes}

-- ---- the story

abbrev pub story_answered : ℕ → List ℕ → Story → Story
story_answered o octets t =
    record t { marks = λ n. option_to_list (mark_answering n octets (t.last o)) ++ t.marks n }

abbrev pub story_ended : Bool → ℕ → List ℕ → Story → Story
story_ended true o octets t = story_answered o octets t
story_ended false o octets t = t

-- ---- a master after its outstation's answer

following_small : (n : ℕ) → following n < 16
following_small n = omega arith

answered_holds : (t : Story) (o : ℕ) (new : Master) (q : Option Outgoing) (ex : Exchange) → new.exchange ≡ ex
    → new.sequence < 16 → new.up ≡ true → AllByRecursion (Waits t o) (waiting_at q) → GoesOn t o ex (under_way_at q)
    → Holds t o (Some new) q
answered_holds t o new q ex is small up waiting going = record {
  waiting = waiting;
  going = subst (λ (x : Exchange). GoesOn t o x (under_way_at q)) (sym is) going;
  small = small;
  down = λ not_up. absurd (true≢false (sym up ∙ not_up));
}

-- an answer leaves a master so, and ends this order
pub record Answers (t new : Story) (o : ℕ) (m : Master) (e : Option Ended) (q : Option Outgoing) : Type 0 where
  pub moves : Moves t new o q (Some m) (ended_at e q)
  pub tells : TellsAt new e q

-- ---- an answer that ends, to what is no part of an order

plain_ended : (t : Story) (o : ℕ) (octets : List ℕ) (new : Master) (q : Option Outgoing) (task : Task)
    → new.exchange ≡ Idle → new.sequence < 16 → new.up ≡ true → order_of task ≡ None
    → AllByRecursion (Waits t o) (waiting_at q) → (n : ℕ) → t.last o ≡ Some (task_request task n)
    → under_way_at q ≡ None → Answers t (story_answered o octets t) o new None q
plain_ended t o octets new q task idle small up plain waiting n last none =
    let r : Request = task_request task n in
    let after : Story = story_answered o octets t in
    let same : (k : ℕ) → after.marks k ≡ t.marks k =
    λ k. ap (λ (x : Option Request). option_to_list (mark_answering k octets x) ++ t.marks k) last
    ∙ nothing_named r.bond k (Answered (took (operating_of (octets_of r)) octets)) (t.marks k) (plain_bond task n plain)
    in
    record {
      moves = record {
        here = answered_holds after o new q Idle idle small up
            (waits_same t after o (waiting_at q) (λ k x e. e) same waiting) none;
        others = λ p ne. record { keeps = λ k x e. e; marks = λ k x e there. same k; last = refl };
        bonded = λ k so_far. subst (OfOrder (numbered k t.executes)) (sym (same k)) so_far;
        kept = λ k none_there. same k;
      };
      tells = tt;
    }

-- ---- an answer that ends, to a request of an order

may_answer : (o n : ℕ) (operation : Operation) (order : Order) (ms : List Mark) → AskedBy o operation order n ms
    → MayAnswer ms
may_answer o n Select order ms k = subst MayAnswer (sym k.1) tt
may_answer o n DirectOperate order ms k = subst MayAnswer (sym k.1) tt
may_answer o n Operate order ms k = subst MayAnswer (sym k.2) tt

-- those that wait have higher numbers than the order under way
above_way : (count : ℕ) (ws : List AcceptedExecute) (u : Option UnderWay) (way : UnderWay) → u ≡ Some way
    → InOrderAt count (Some (record { waiting = ws; under_way = u })) → Above way.accepted.order.number ws
above_way count ws None way is in_order = absurd (let none : ⊥ = cc in none)
above_way count ws (Some other) way is in_order =
    subst (λ (x : UnderWay). Above x.accepted.order.number ws) (some_is other way is)
    (all_above other.accepted.order.number count ws in_order.rise.1)

above_sent : (t : Story) (o count : ℕ) (order : Order) (q : Option Outgoing) → InOrderAt count q
    → Sends t o order (under_way_at q) → Above order.number (waiting_at q)
above_sent t o count order None in_order k = tt
above_sent t o count order (Some q) in_order k =
    subst (λ (x : Order). Above x.number q.waiting) k.same
    (above_way count q.waiting q.under_way k.way k.is in_order)

story_of_answer : (t : Story) (o n : ℕ) (octets : List ℕ) (operation : Operation) (order : Order) (done : Bool)
    → t.last o ≡ Some (asking operation order n)
    → took (operating_of (octets_of (asking operation order n))) octets ≡ done
    → story_marked order.number (Answered done) t ≡ story_answered o octets t
story_of_answer t o n octets operation order done last is =
    sym (ap (λ (x : Option Request). record t { marks = λ k. option_to_list (mark_answering k octets x) ++ t.marks k })
    last
    ∙ ap (λ (b : Bool). story_marked order.number (Answered b) t) is)

order_answered : (t : Story) (o count : ℕ) (new : Master) (q : Option Outgoing) (order : Order) (done : Bool)
    (ex : Exchange) (e : Option Ended) → new.exchange ≡ ex → new.sequence < 16 → new.up ≡ true → InOrderAt count q
    → AllByRecursion (Waits t o) (waiting_at q) → Sends t o order (under_way_at q) → MayAnswer (t.marks order.number)
    → GoesOn (story_marked order.number (Answered done) t) o ex (under_way_at (ended_at e q))
    → TellsAt (story_marked order.number (Answered done) t) e q
    → Answers t (story_marked order.number (Answered done) t) o new e q
order_answered t o count new q order done ex e is small up in_order waiting k may going tells =
    let mark : Mark = Answered done in
    let after : Story = story_marked order.number mark t in
    record {
      moves = record {
        here = answered_holds after o new (ended_at e q) ex is small up
            (subst (AllByRecursion (Waits after o)) (sym (ended_waiting e q))
            (waits_behind t after o order.number mark (waiting_at q) (λ n x f. f) (λ n. refl)
            (above_sent t o count order q in_order k) waiting))
            going;
        others = λ p ne. marked_apart t o p order mark k.order_is ne;
        bonded = marked_bonded t o order mark k.order_is may;
        kept = marked_kept order.number mark t.marks q
            (held_way order.number q k.way k.is (ap (λ (x : Order). x.number) k.same));
      };
      tells = tells;
    }

-- SELECT succeeded
selected_goes : (t : Story) (o n : ℕ) (order : Order) (u : Option UnderWay) → n < 16 → Sends t o order u
    → AskedBy o Select order n (t.marks order.number)
    → GoesOn (story_marked order.number (Answered true) t) o (Selected order) u
selected_goes t o n order u small k asked = (
  sends_kept t (story_marked order.number (Answered true) t) o order u (λ i x e. e) k,
  record {
    sbo = asked.0;
    sequence = n;
    small = small;
    is = mark_here order.number (Answered true) t.marks ∙ ap (λ (ms : List Mark). Answered true ∷ ms) asked.1;
  },
)

answer_tells : (t : Story) (o : ℕ) (order : Order) (q : Option Outgoing) (done : Bool)
    → Sends t o order (under_way_at q)
    → done ≡ was_done (with_mark order.number (Answered done) t.marks order.number)
    → TellsAt (story_marked order.number (Answered done) t) (Some (ended done order)) q
answer_tells t o order q done k is =
    let after : Story = story_marked order.number (Answered done) t in
    λ way at same. sent_tells after o order (under_way_at q) done
    (sends_kept t after o order (under_way_at q) (λ i x e. e) k) is way at

command_ended : (t : Story) (o count n : ℕ) (new : Master) (q : Option Outgoing) (operation : Operation) (order : Order)
    (done : Bool) → new.exchange ≡ exchange_once_answered (Command operation order) done
    → new.sequence < 16 → new.up ≡ true → InOrderAt count q → n < 16
    → AllByRecursion (Waits t o) (waiting_at q) → Sends t o order (under_way_at q)
    → AskedBy o operation order n (t.marks order.number)
    → Answers t (story_marked order.number (Answered done) t) o new (ended_answered (Command operation order) done) q
command_ended t o count n new q Select order true is small up in_order few waiting k asked =
    order_answered t o count new q order true (Selected order) None is small up in_order waiting k
    (may_answer o n Select order (t.marks order.number) asked) (selected_goes t o n order (under_way_at q) few k asked)
    tt
command_ended t o count n new q Select order false is small up in_order few waiting k asked =
    order_answered t o count new q order false Idle (Some (ended false order)) is small up in_order waiting k
    (may_answer o n Select order (t.marks order.number) asked) (sent_goes t o order (ended false order) q k refl)
    (answer_tells t o order q false k (refused_as t o n order asked))
command_ended t o count n new q Operate order done is small up in_order few waiting k asked =
    order_answered t o count new q order done Idle (Some (ended done order)) is small up in_order waiting k
    (may_answer o n Operate order (t.marks order.number) asked) (sent_goes t o order (ended done order) q k refl)
    (answer_tells t o order q done k (operated_as t o n Operate order done asked.0 k.order_is few refl asked.2))
command_ended t o count n new q DirectOperate order done is small up in_order few waiting k asked =
    order_answered t o count new q order done Idle (Some (ended done order)) is small up in_order waiting k
    (may_answer o n DirectOperate order (t.marks order.number) asked) (sent_goes t o order (ended done order) q k refl)
    (answer_tells t o order q done k (operated_as t o n DirectOperate order done [] k.order_is few refl asked.1))

-- ---- an answer that ends

took_is_done : (t : Story) (o n : ℕ) (f : Fragment) (operation : Operation) (order : Order) (u : Option UnderWay)
    → n < 16 → Sends t o order u
    → took (operating_of (octets_of (asking operation order n))) f.octets ≡ is_done (Command operation order) f
took_is_done t o n f operation order u small k =
    ap (λ (x : Option Operating). took x f.octets) (reads_again t.executes o order operation n k.order_is small)

task_ended : (t : Story) (o count n : ℕ) (f : Fragment) (new : Master) (q : Option Outgoing) (task : Task)
    → new.exchange ≡ exchange_once_answered task (is_done task f) → new.sequence < 16 → new.up ≡ true
    → InOrderAt count q → n < 16 → AllByRecursion (Waits t o) (waiting_at q) → t.last o ≡ Some (task_request task n)
    → ForTask t o n task (under_way_at q)
    → Answers t (story_answered o f.octets t) o new (ended_answered task (is_done task f)) q
task_ended t o count n f new q (Command operation order) is small up in_order few waiting last k =
    let done : Bool = is_done (Command operation order) f in
    subst (λ (x : Story). Answers t x o new (ended_answered (Command operation order) done) q)
    (story_of_answer t o n f.octets operation order done last
    (took_is_done t o n f operation order (under_way_at q) few k.0))
    (command_ended t o count n new q operation order done is small up in_order few waiting k.0 k.1)
task_ended t o count n f new q ClearRestart is small up in_order few waiting last k =
    plain_ended t o f.octets new q ClearRestart is small up refl waiting n last k
task_ended t o count n f new q (WriteTime time) is small up in_order few waiting last k =
    plain_ended t o f.octets new q (WriteTime time) is small up refl waiting n last k
task_ended t o count n f new q (RecordTime wall) is small up in_order few waiting last k =
    plain_ended t o f.octets new q (RecordTime wall) is small up refl waiting n last k
task_ended t o count n f new q Disable is small up in_order few waiting last k =
    plain_ended t o f.octets new q Disable is small up refl waiting n last k
task_ended t o count n f new q Integrity is small up in_order few waiting last k =
    plain_ended t o f.octets new q Integrity is small up refl waiting n last k
task_ended t o count n f new q Enable is small up in_order few waiting last k =
    plain_ended t o f.octets new q Enable is small up refl waiting n last k
task_ended t o count n f new q EventPoll is small up in_order few waiting last k =
    plain_ended t o f.octets new q EventPoll is small up refl waiting n last k

-- ---- a fragment of an answer

abbrev going_on : ℕ → Awaited → Exchange
going_on moment w = Waiting (record w { expected = following w.expected; begun = true; since = moment })

abbrev next_exchange : ℕ → Fragment → Awaited → Bool → Exchange
next_exchange moment f w fin =
    cond fin (exchange_once_answered w.task (is_done w.task f)) (going_on moment w)

answer_goes : (t : Story) (o moment count : ℕ) (f : Fragment) (new : Master) (q : Option Outgoing) (w : Awaited)
    (fin : Bool) → new.exchange ≡ next_exchange moment f w fin → new.sequence < 16 → new.up ≡ true
    → InOrderAt count q → AllByRecursion (Waits t o) (waiting_at q) → Awaits t o w.task (under_way_at q)
    → Answers t (story_ended fin o f.octets t) o new (cond fin (ended_answered w.task (is_done w.task f)) None) q
answer_goes t o moment count f new q w true is small up in_order waiting k =
    task_ended t o count k.sequence f new q w.task is small up in_order k.small waiting k.last k.sent
answer_goes t o moment count f new q w false is small up in_order waiting k = record {
  moves = record {
    here = answered_holds t o new q (going_on moment w) is small up waiting k;
    others = λ p ne. alike_self t p;
    bonded = λ n so_far. so_far;
    kept = λ n none. refl;
  };
  tells = tt;
}

-- what becomes of an outstation, by the verdict on its fragment
abbrev pub Judged : Story → ℕ → Fragment → Verdict → Master → Option Outgoing → Type 0
Judged t o f v new q =
    Answers t (story_ended (is_end (replies.Verdict v)) o f.octets t) o new (ended_in v) q

-- by whether it is the fragment that is awaited
abbrev pub answer_verdict : Fragment → Awaited → Bool → Bool → Verdict
answer_verdict f w in_sequence rightly =
    cond in_sequence
    (cond rightly (Accepted (confirm_of f.octets) (control_in f).fin (ended_with w.task f)) (Ignored WrongFirst))
    (Ignored WrongSequence)

answer_judged : (t : Story) (o moment count : ℕ) (f : Fragment) (m : Master) (q : Option Outgoing) (ex : Exchange)
    → m.up ≡ true → InOrderAt count q → AllByRecursion (Waits t o) (waiting_at q) → GoesOn t o ex (under_way_at q)
    → is_acceptance (verdict_of_answer ex f) ≡ true
    → Judged t o f (verdict_of_answer ex f) (master_after_answer moment f ex m) q
answer_judged t o moment count f m q Idle up in_order waiting going takes =
    absurd (let none : ⊥ = cc in none)
answer_judged t o moment count f m q (Selected order) up in_order waiting going takes =
    absurd (let none : ⊥ = cc in none)
answer_judged t o moment count f m q (Waiting w) up in_order waiting going takes =
    by ((control_in f).sequence == w.expected) (is_begun_rightly w.begun (control_in f).fir) takes
  where
    by : (in_sequence rightly : Bool) → is_acceptance (answer_verdict f w in_sequence rightly) ≡ true
        → Judged t o f (answer_verdict f w in_sequence rightly) (master_after_answer moment f (Waiting w) m) q
    by true true taken =
        answer_goes t o moment count f (master_after_answer moment f (Waiting w) m) q w (control_in f).fin refl
        (following_small w.expected) up in_order waiting going
    by true false taken = absurd (let none : ⊥ = cc in none)
    by false rightly taken = absurd (let none : ⊥ = cc in none)

-- ---- an unsolicited response

unsolicited_judged : (t : Story) (o : ℕ) (f : Fragment) (m : Master) (q : Option Outgoing) (repeated : Bool)
    → Holds t o (Some m) q
    → is_acceptance (cond repeated (Repeated (confirm_of f.octets)) (Accepted (confirm_of f.octets) false None)) ≡ true
    → Judged t o f (cond repeated (Repeated (confirm_of f.octets)) (Accepted (confirm_of f.octets) false None))
    (master_after_unsolicited f m) q
unsolicited_judged t o f m q true k takes = absurd (let none : ⊥ = cc in none)
unsolicited_judged t o f m q false k takes = record {
  moves = record {
    here = record { waiting = k.waiting; going = k.going; small = k.small; down = k.down };
    others = λ p ne. alike_self t p;
    bonded = λ n so_far. so_far;
    kept = λ n none. refl;
  };
  tells = tt;
}

-- ---- all fragments that are accepted

abbrev verdict_by : Fragment → Master → Bool → Verdict
verdict_by f m unsolicited =
    cond unsolicited (verdict_of_unsolicited m.last f.octets) (verdict_of_answer m.exchange f)

pub judged : (t : Story) (o moment count : ℕ) (f : Fragment) (m : Master) (q : Option Outgoing) → m.up ≡ true
    → InOrderAt count q → Holds t o (Some m) q → accepts m f ≡ true
    → Judged t o f (verdict_of m f) (master_after_fragment moment f m) q
judged t o moment count f m q up in_order k takes =
    subst (λ (x : Master). Judged t o f (verdict_of m f) x q)
    (sym (ap (λ (b : Bool). cond b (master_after_accepted moment f m) m) takes)) (by (is_unsolicited f) takes)
  where
    by : (unsolicited : Bool) → is_acceptance (verdict_by f m unsolicited) ≡ true
        → Judged t o f (verdict_by f m unsolicited)
        (cond unsolicited (master_after_unsolicited f m) (master_after_answer moment f m.exchange m)) q
    by true taken = unsolicited_judged t o f m q (is_last m.last f.octets) k taken
    by false taken = answer_judged t o moment count f m q m.exchange up in_order k.waiting k.going taken
