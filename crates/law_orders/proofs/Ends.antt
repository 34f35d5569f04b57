-- Orders end: sessions end, outstations are lost, answers are late.
use Rattle.std.proofs.Common.{◌≡◌, ℕ, zero, suc, ◌+◌, ◌<◌, Bool, true, false, cond, List, [], ◌∷◌, drop}
use Rattle.std.proofs.Common.{map, Option, Some, None, option_map, refl, sym, ap, subst, ◌∙◌, arith}
use Rattle.std.specs.Prelude.{option_and_then, slice_get}
use Rattle.std.specs.List.{AllByRecursion}
use Rattle.std.proofs.lemmas.Bool.{eq-eqb}
use Rattle.gw_model.specs.declared.control.Ended.{Ended}
use Rattle.gw_model.specs.declared.control.Order.{Order}
use Rattle.gw_picture.proofs.Lists.{change-here, map-get}
use Rattle.dnp_master.specs.declared.exchange.Exchange.{Exchange}
use Rattle.dnp_master.specs.declared.exchange.Exchange.TheVariants.{Idle, Waiting, Selected}
use Rattle.dnp_master.specs.declared.task.Task.{Task}
use Rattle.dnp_master.specs.declared.task.Task.TheVariants.{Command}
use Rattle.dnp_master.specs.Master.{Master, due_unanswered, ended, ended_by_loss, ended_by_tick, ended_late, is_late}
use Rattle.dnp_master.specs.Master.{master_after_tick, master_down, master_with_exchange_after, order_of, order_taken}
use Rattle.gw_control.specs.declared.accepted.Accepted.{Accepted}
use Rattle.gw_control.specs.declared.accepted.UnderWay.{UnderWay}
use Rattle.gw_control.specs.Controls.{Controls, controls_after_end, controls_after_lost}
use Rattle.gw_control.specs.Held.{controls_after_losses}
use Rattle.gw_control.specs.Orders.{Outgoing, is_of_others, left_by, outgoing_after_end}
use Rattle.gw_control.specs.Orders.{outgoing_after_ended, outgoing_after_lost, under_way_after}
use Rattle.gw_steps.specs.Controls.{controls_after_all_ended, controls_after_closes, controls_with_ended}
use Rattle.law_history.proofs.Told.{filter_all}
use Rattle.law_history.proofs.Ended.{all_ended_count, ended_count, ended_there, losses_count, losses_there}
use Rattle.law_orders.proofs.Held.{under_way_at, waiting_at}
use Rattle.law_orders.proofs.Story.{ForTask, GoesOn, Holds, Sends, Story, Tied, Waits, exchange_at}
use Rattle.law_orders.proofs.Moves.{AlikeBut}

-- ---- a session ends

none_left : (c : ℕ) (u : Option UnderWay) → u ≡ None → option_map (left_by c) u ≡ None
none_left c u none = ap (option_map (left_by c)) none

sends_left : (t : Story) (o c : ℕ) (order : Order) (u : Option UnderWay) → Sends t o order u
    → Sends t o order (option_map (left_by c) u)
sends_left t o c order u k = record {
  way = left_by c k.way;
  is = ap (option_map (left_by c)) k.is;
  same = k.same;
  order_is = k.order_is;
  of = k.of;
}

task_left : (t : Story) (o n c : ℕ) (task : Task) (u : Option UnderWay) → ForTask t o n task u
    → ForTask t o n task (option_map (left_by c) u)
task_left t o n c (Command operation order) u k = (sends_left t o c order u k.0, k.1)
task_left t o n c _ u k = none_left c u k

goes_left : (t : Story) (o c : ℕ) (ex : Exchange) (u : Option UnderWay) → GoesOn t o ex u
    → GoesOn t o ex (option_map (left_by c) u)
goes_left t o c Idle u k = none_left c u k
goes_left t o c (Waiting w) u k = record {
  sequence = k.sequence;
  small = k.small;
  last = k.last;
  sent = task_left t o k.sequence c w.task u k.sent;
}
goes_left t o c (Selected order) u k = (sends_left t o c order u k.0, k.1)

holds_left : (t : Story) (o c : ℕ) (m : Option Master) (q : Option Outgoing) → Holds t o m q
    → Holds t o m (option_map (outgoing_after_end c) q)
holds_left t o c m None k = k
holds_left t o c m (Some q) k = record {
  waiting = filter_all (Waits t o) (is_of_others c) q.waiting k.waiting;
  going = goes_left t o c (exchange_at m) q.under_way k.going;
  small = k.small;
  down = k.down;
}

pub tied_end : (t : Story) (masters : List Master) (v : Controls) (c : ℕ) → Tied t masters v
    → Tied t masters (controls_after_end c v)
tied_end t masters v c tied = record {
  count = tied.count;
  places = λ o. rw (map-get (outgoing_after_end c) v.outgoing o)
      (holds_left t o c (slice_get masters o) (slice_get v.outgoing o) (tied.places o));
  bonded = tied.bonded;
}

pub tied_closes : (t : Story) (masters : List Master) (c : ℕ) (closed : List Bool) (v : Controls) → Tied t masters v
    → Tied t masters (controls_after_closes c closed v)
tied_closes t masters c [] v tied = tied
tied_closes t masters c (true ∷ more) v tied =
    tied_closes t masters (suc c) more (controls_after_end c v) (tied_end t masters v c tied)
tied_closes t masters c (false ∷ more) v tied = tied_closes t masters (suc c) more v tied

-- ---- an order ends

abbrev pub ended_at : Option Ended → Option Outgoing → Option Outgoing
ended_at None q = q
ended_at (Some e) q = option_map (outgoing_after_ended e) q

pub ended_here : (o : ℕ) (e : Option Ended) (v : Controls)
    → slice_get (controls_with_ended o e v).outgoing o ≡ ended_at e (slice_get v.outgoing o)
ended_here o None v = refl
ended_here o (Some e) v = change-here o (outgoing_after_ended e) v.outgoing

-- those that wait go on waiting
pub ended_waiting : (e : Option Ended) (q : Option Outgoing) → waiting_at (ended_at e q) ≡ waiting_at q
ended_waiting None q = refl
ended_waiting (Some e) None = refl
ended_waiting (Some e) (Some q) = refl

-- the one under way goes, where it is named
pub named_goes : (e : Ended) (q : Option Outgoing) (way : UnderWay) → under_way_at q ≡ Some way
    → way.accepted.order.number ≡ e.number → under_way_at (ended_at (Some e) q) ≡ None
named_goes e None way is same = absurd (let none : ⊥ = cc in none)
named_goes e (Some q) way is same =
    ap (under_way_after e) is
    ∙ ap (λ (b : Bool). cond b None (Some way)) (eq-eqb way.accepted.order.number e.number same)

pub sent_goes : (t : Story) (o : ℕ) (order : Order) (e : Ended) (q : Option Outgoing) → Sends t o order (under_way_at q)
    → order.number ≡ e.number → under_way_at (ended_at (Some e) q) ≡ None
sent_goes t o order e q k same =
    named_goes e q k.way k.is (ap (λ (x : Order). x.number) k.same ∙ same)

task_fails : (t : Story) (o n : ℕ) (task : Task) (q : Option Outgoing) → ForTask t o n task (under_way_at q)
    → under_way_at (ended_at (option_map (ended false) (order_of task)) q) ≡ None
task_fails t o n (Command operation order) q k = sent_goes t o order (ended false order) q k.0 refl
task_fails t o n _ q k = k

-- an order that fails isn't under way any more
pub order_fails : (t : Story) (o : ℕ) (ex : Exchange) (q : Option Outgoing) → GoesOn t o ex (under_way_at q)
    → under_way_at (ended_at (option_map (ended false) (order_taken ex)) q) ≡ None
order_fails t o Idle q k = k
order_fails t o (Waiting w) q k = task_fails t o k.sequence w.task q k.sent
order_fails t o (Selected order) q k = sent_goes t o order (ended false order) q k.0 refl

-- ---- answers are late

pub idle_holds : (t : Story) (o : ℕ) (m new : Master) (q after : Option Outgoing) → new.exchange ≡ Idle
    → new.sequence < 16 → AllByRecursion (Waits t o) (waiting_at after) → under_way_at after ≡ None
    → Holds t o (Some new) after
idle_holds t o m new q after idle small waiting none = record {
  waiting = waiting;
  going = subst (λ (ex : Exchange). GoesOn t o ex (under_way_at after)) (sym idle) none;
  small = small;
  down = λ not_up. idle;
}

pub late_holds : (t : Story) (o moment : ℕ) (m : Option Master) (q : Option Outgoing) → Holds t o m q
    → Holds t o (option_map (master_after_tick moment) m) (ended_at (option_and_then (ended_by_tick moment) m) q)
late_holds t o moment None q k = k
late_holds t o moment (Some m) q k = by m.exchange refl
  where
    late : (w : _) → m.exchange ≡ Waiting w → (b : Bool)
        → Holds t o (Some (cond b (record m { exchange = Idle; due = due_unanswered w.task m.due }) m))
        (ended_at (cond b (option_map (ended false) (order_of w.task)) None) q)
    late w is true =
        idle_holds t o m (record m { exchange = Idle; due = due_unanswered w.task m.due }) q
        (ended_at (option_map (ended false) (order_of w.task)) q) refl k.small
        (subst (AllByRecursion (Waits t o)) (sym (ended_waiting (option_map (ended false) (order_of w.task)) q))
        k.waiting)
        (order_fails t o (Waiting w) q (subst (λ (ex : Exchange). GoesOn t o ex (under_way_at q)) is k.going))
    late w is false = k

    by : (ex : Exchange) → m.exchange ≡ ex
        → Holds t o (Some (master_with_exchange_after moment ex m)) (ended_at (ended_late moment m.poll ex) q)
    by Idle is = k
    by (Waiting w) is = late w is (is_late moment m.poll w.since)
    by (Selected order) is = k

-- what ended at each outstation
abbrev pub flat : Option (Option Ended) → Option Ended
flat None = None
flat (Some e) = e

ended_before : (d : ℕ) (es : List (Option Ended)) (v : Controls) (p : ℕ) → p < d
    → slice_get (controls_after_all_ended d es v).outgoing p ≡ slice_get v.outgoing p
ended_before d [] v p lt = refl
ended_before d (e ∷ more) v p lt =
    ended_before (suc d) more (controls_with_ended d e v) p (omega (arith, lt))
    ∙ ended_there d e v p (λ is. omega (arith, lt, is))

ended_from : (d : ℕ) (es : List (Option Ended)) (v : Controls) (i p : ℕ) → p ≡ i + d
    → slice_get (controls_after_all_ended d es v).outgoing p ≡ ended_at (flat (slice_get es i)) (slice_get v.outgoing p)
ended_from d [] v i p at = refl
ended_from d (e ∷ more) v zero p at =
    let is : d ≡ p = omega (arith, at) in
    ended_before (suc d) more (controls_with_ended d e v) p (omega (arith, at))
    ∙ subst (λ (x : ℕ). slice_get (controls_with_ended d e v).outgoing x ≡ ended_at e (slice_get v.outgoing x)) is
    (ended_here d e v)
ended_from d (e ∷ more) v (suc i) p at =
    ended_from (suc d) more (controls_with_ended d e v) i p (omega (arith, at))
    ∙ ap (ended_at (flat (slice_get more i))) (ended_there d e v p (λ is. omega (arith, at, is)))

flat_map : (f : Master → Option Ended) (m : Option Master) → flat (option_map f m) ≡ option_and_then f m
flat_map f None = refl
flat_map f (Some m) = refl

pub flat_at : (masters : List Master) (moment i : ℕ)
    → flat (slice_get (map (ended_by_tick moment) masters) i)
    ≡ option_and_then (ended_by_tick moment) (slice_get masters i)
flat_at masters moment i =
    ap flat (map-get (ended_by_tick moment) masters i) ∙ flat_map (ended_by_tick moment) (slice_get masters i)

pub late_at : (masters : List Master) (moment : ℕ) (v : Controls) (o : ℕ)
    → slice_get (controls_after_all_ended 0 (map (ended_by_tick moment) masters) v).outgoing o
    ≡ ended_at (option_and_then (ended_by_tick moment) (slice_get masters o)) (slice_get v.outgoing o)
late_at masters moment v o =
    ended_from 0 (map (ended_by_tick moment) masters) v o o (omega arith)
    ∙ ap (λ (e : Option Ended). ended_at e (slice_get v.outgoing o)) (flat_at masters moment o)

pub tied_late : (t : Story) (masters : List Master) (moment : ℕ) (v : Controls) → Tied t masters v
    → Tied t (map (master_after_tick moment) masters)
    (controls_after_all_ended 0 (map (ended_by_tick moment) masters) v)
tied_late t masters moment v tied = record {
  count = all_ended_count 0 (map (ended_by_tick moment) masters) v ∙ tied.count;
  places = λ o. rw (map-get (master_after_tick moment) masters o, late_at masters moment v o)
      (late_holds t o moment (slice_get masters o) (slice_get v.outgoing o) (tied.places o));
  bonded = tied.bonded;
}

-- ---- an outstation is lost

pub lost_waiting : (t : Story) (o : ℕ) (q : Option Outgoing) → AllByRecursion (Waits t o) (waiting_at q)
    → AllByRecursion (Waits t o) (waiting_at (option_map outgoing_after_lost q))
lost_waiting t o None all = tt
lost_waiting t o (Some q) all = rest q.waiting all
  where
    rest : (xs : List Accepted) → AllByRecursion (Waits t o) xs → AllByRecursion (Waits t o) (drop 1 xs)
    rest [] all = tt
    rest (x ∷ xs) all = all.1

lost_under_way : (q : Option Outgoing) → under_way_at (option_map outgoing_after_lost q) ≡ under_way_at q
lost_under_way None = refl
lost_under_way (Some q) = refl

losses_waiting : (t : Story) (n o : ℕ) (v : Controls) → AllByRecursion (Waits t o) (waiting_at (slice_get v.outgoing o))
    → AllByRecursion (Waits t o) (waiting_at (slice_get (controls_after_losses n o v).outgoing o))
losses_waiting t zero o v all = all
losses_waiting t (suc n) o v all =
    losses_waiting t n o (controls_after_lost o v)
    (subst (λ (q : Option Outgoing). AllByRecursion (Waits t o) (waiting_at q))
    (sym (change-here o outgoing_after_lost v.outgoing)) (lost_waiting t o (slice_get v.outgoing o) all))

losses_under_way : (n o : ℕ) (v : Controls)
    → under_way_at (slice_get (controls_after_losses n o v).outgoing o) ≡ under_way_at (slice_get v.outgoing o)
losses_under_way zero o v = refl
losses_under_way (suc n) o v =
    losses_under_way n o (controls_after_lost o v)
    ∙ (ap under_way_at (change-here o outgoing_after_lost v.outgoing) ∙ lost_under_way (slice_get v.outgoing o))

-- the order under way failed, and then so many that wait
abbrev pub controls_lost : ℕ → ℕ → Option Ended → Controls → Controls
controls_lost n o e v = controls_after_losses n o (controls_with_ended o e v)

pub lost_there : (n o : ℕ) (e : Option Ended) (v : Controls) → AlikeBut o v.outgoing (controls_lost n o e v).outgoing
lost_there n o e v p ne = losses_there n o (controls_with_ended o e v) p ne ∙ ended_there o e v p ne

pub lost_count : (n o : ℕ) (e : Option Ended) (v : Controls) → (controls_lost n o e v).ordered ≡ v.ordered
lost_count n o e v = losses_count n o (controls_with_ended o e v) ∙ ended_count o e v

pub lost_holds : (t : Story) (n o : ℕ) (m : Master) (v : Controls) → Holds t o (Some m) (slice_get v.outgoing o)
    → Holds t o (Some (master_down m.poll)) (slice_get (controls_lost n o (ended_by_loss m) v).outgoing o)
lost_holds t n o m v k =
    let e : Option Ended = ended_by_loss m in
    let q : Option Outgoing = slice_get v.outgoing o in
    idle_holds t o m (master_down m.poll) q (slice_get (controls_lost n o e v).outgoing o) refl (omega arith)
    (losses_waiting t n o (controls_with_ended o e v)
    (subst (AllByRecursion (Waits t o)) (sym (ap waiting_at (ended_here o e v) ∙ ended_waiting e q)) k.waiting))
    (losses_under_way n o (controls_with_ended o e v)
    ∙ (ap under_way_at (ended_here o e v) ∙ order_fails t o m.exchange q k.going))
