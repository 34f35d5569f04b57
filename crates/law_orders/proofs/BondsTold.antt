-- What was told is of executes whose orders are over.
use Rattle.std.proofs.Common.{◌≡◌, ℕ, zero, suc, ◌+◌, ◌≤◌, ◌<◌, Bool, true, false, cond, not, ◌&&◌, List, []}
use Rattle.std.proofs.Common.{◌∷◌, ◌++◌, length, map, Option, Some, None, option_map, refl, sym, ap, subst, ◌∙◌, arith}
use Rattle.std.specs.Prelude.{◌==◌, option_and_then, slice_get}
use Rattle.std.specs.List.{AllByRecursion}
use Rattle.std.specs.Option.{option_to_list}
use Rattle.std.proofs.lemmas.Bool.{eqb-true, eq-eqb, ne_eqb}
use Rattle.gw_model.specs.First.{when}
use Rattle.gw_model.specs.Places.{change}
use Rattle.gw_model.specs.declared.control.Ended.{Ended}
use Rattle.gw_picture.proofs.Lists.{change-here}
use Rattle.dnp_master.specs.declared.exchange.Exchange.{Exchange}
use Rattle.dnp_master.specs.declared.exchange.Exchange.TheVariants.{Idle, Waiting, Selected}
use Rattle.dnp_master.specs.declared.task.Task.{Task}
use Rattle.dnp_master.specs.declared.task.Task.TheVariants.{Command}
use Rattle.dnp_master.specs.Master.{Master, ended, ended_by_tick, ended_late, is_late, order_of}
use Rattle.gw_control.specs.declared.accepted.Accepted.{Accepted}
use Rattle.gw_control.specs.declared.accepted.UnderWay.{UnderWay}
use Rattle.gw_control.specs.declared.answer.Outcome.{Outcome}
use Rattle.gw_control.specs.Controls.{Controls, controls_after_end, controls_after_lost, outcome_ended_at, outcome_lost_at}
use Rattle.gw_control.specs.Held.{controls_after_losses}
use Rattle.gw_control.specs.Moves.{one_if}
use Rattle.gw_control.specs.Orders.{Outgoing, is_named, outcome_of, outgoing_after_end, outgoing_after_ended, outgoing_after_lost}
use Rattle.gw_steps.specs.Controls.{controls_after_all_ended, controls_after_closes}
use Rattle.gw_steps.specs.Controls.{controls_with_ended, outcome_ended, outcomes_ended, outcomes_lost}
use Rattle.law_history.proofs.Ended.{ended_there}
use Rattle.law_orders.specs.Executes.{Execute}
use Rattle.law_orders.specs.Marks.{Mark}
use Rattle.law_orders.specs.ToldOnce.{AllTell, TellsOf, counted, was_done}
use Rattle.law_orders.proofs.Held.{held, held_at, held_changed, held_leaving, held_mapped, held_nowhere}
use Rattle.law_orders.proofs.Held.{held_under_way, held_waiting, under_way_at, waiting_at}
use Rattle.law_orders.proofs.Story.{ForTask, GoesOn, Holds, Keeps, Sends, Story, Tied, Waits, exchange_at, numbered_below}
use Rattle.law_orders.proofs.Ends.{flat, flat_at, lost_waiting}
use Rattle.law_orders.proofs.Tells.{Tells, TellsAt, failure_tells, waiting_tells}

-- no order that was told of is there any more
pub record ToldTied (t : Story) (qs : List Outgoing) (xs : List Outcome) : Type 0 where
  pub numbers : List ℕ
  pub tell : AllTell t.executes t.marks numbers xs
  pub once : (n : ℕ) → counted n numbers + held n qs ≤ 1

-- what is tied stays so, and this is told
pub record Leads (t new : Story) (masters : List Master) (v after : Controls) (outcomes : List Outcome) : Type 0 where
  pub tied : Tied new masters after
  pub told : (xs : List Outcome) → ToldTied t v.outgoing xs → ToldTied new after.outgoing (outcomes ++ xs)

-- nothing is told
abbrev pub Goes : Story → Story → List Master → Controls → Controls → Type 0
Goes t new masters v after = Leads t new masters v after []

-- ---- the story goes on

tells_more : (accepted more : List Execute) (became after : List Mark) (n : ℕ) (x : Outcome) → Keeps accepted more
    → after ≡ became → TellsOf accepted became n x → TellsOf more after n x
tells_more accepted more became after n x keeps same k = record {
  execute = k.execute;
  at = keeps n k.execute k.at;
  client = k.client;
  command = k.command;
  done = k.done ∙ sym (ap was_done same);
}

pub all_more : (t new : Story) (ns : List ℕ) (xs : List Outcome) → Keeps t.executes new.executes
    → ((n : ℕ) → 1 ≤ counted n ns → new.marks n ≡ t.marks n) → AllTell t.executes t.marks ns xs
    → AllTell new.executes new.marks ns xs
all_more t new [] [] keeps same k = tt
all_more t new [] (x ∷ xs) keeps same k = absurd k
all_more t new (n ∷ ns) [] keeps same k = absurd k
all_more t new (n ∷ ns) (x ∷ xs) keeps same k = (
  tells_more t.executes new.executes (t.marks n) (new.marks n) n x keeps (same n (first n ns)) k.0,
  all_more t new ns xs keeps (λ m there. same m (omega (arith, there))) k.1,
)
  where
    first : (n : ℕ) (ns : List ℕ) → 1 ≤ counted n (n ∷ ns)
    first n ns = let one : one_if (n == n) ≡ 1 = ap one_if (eq-eqb n n refl) in omega (arith, one)

pub told_kept : (t new : Story) (qs : List Outgoing) (xs : List Outcome) → Keeps t.executes new.executes
    → ((n : ℕ) → held n qs ≡ 0 → new.marks n ≡ t.marks n) → ToldTied t qs xs → ToldTied new qs xs
told_kept t new qs xs keeps same k = record {
  numbers = k.numbers;
  tell = all_more t new k.numbers xs keeps (λ n there. same n (omega (arith, k.once n, there))) k.tell;
  once = k.once;
}

pub told_fewer : (t : Story) (qs after : List Outgoing) (xs : List Outcome)
    → ((n : ℕ) → held n after ≤ held n qs) → ToldTied t qs xs → ToldTied t after xs
told_fewer t qs after xs fewer k = record {
  numbers = k.numbers;
  tell = k.tell;
  once = λ n. omega (arith, k.once n, fewer n);
}

-- ---- orders end

-- they end with these outcomes
pub record Ending (t : Story) (qs after : List Outgoing) (xs : List Outcome) : Type 0 where
  pub numbers : List ℕ
  pub tell : AllTell t.executes t.marks numbers xs
  pub within : (n : ℕ) → counted n numbers + held n after ≤ held n qs

counted_both : (n : ℕ) (ns ms : List ℕ) → counted n (ns ++ ms) ≡ counted n ns + counted n ms
counted_both n [] ms = omega arith
counted_both n (m ∷ ns) ms = omega (arith, counted_both n ns ms)

all_both : (accepted : List Execute) (became : ℕ → List Mark) (ns ms : List ℕ) (xs ys : List Outcome)
    → AllTell accepted became ns xs → AllTell accepted became ms ys → AllTell accepted became (ns ++ ms) (xs ++ ys)
all_both accepted became [] ms [] ys k j = j
all_both accepted became [] ms (x ∷ xs) ys k j = absurd k
all_both accepted became (n ∷ ns) ms [] ys k j = absurd k
all_both accepted became (n ∷ ns) ms (x ∷ xs) ys k j = (k.0, all_both accepted became ns ms xs ys k.1 j)

pub ending_both : (t : Story) (qs middle after : List Outgoing) (xs ys : List Outcome) → Ending t qs middle xs
    → Ending t middle after ys → Ending t qs after (xs ++ ys)
ending_both t qs middle after xs ys k j = record {
  numbers = k.numbers ++ j.numbers;
  tell = all_both t.executes t.marks k.numbers j.numbers xs ys k.tell j.tell;
  within = λ n. omega (arith, counted_both n k.numbers j.numbers, k.within n, j.within n);
}

pub told_ending : (t : Story) (qs after : List Outgoing) (xs ys : List Outcome) → Ending t qs after xs
    → ToldTied t qs ys → ToldTied t after (xs ++ ys)
told_ending t qs after xs ys k j = record {
  numbers = k.numbers ++ j.numbers;
  tell = all_both t.executes t.marks k.numbers j.numbers xs ys k.tell j.tell;
  once = λ n. omega (arith, counted_both n k.numbers j.numbers, k.within n, j.once n);
}

nothing_ends : (t : Story) (qs : List Outgoing) → Ending t qs qs []
nothing_ends t qs = record { numbers = []; tell = tt; within = λ n. omega arith }

-- towards one outstation
record EndingAt (t : Story) (q after : Option Outgoing) (x : Option Outcome) : Type 0 where
  numbers : List ℕ
  tell : AllTell t.executes t.marks numbers (option_to_list x)
  within : (n : ℕ) → counted n numbers + held_at n after ≤ held_at n q

none_ends : (t : Story) (q after : Option Outgoing) → ((n : ℕ) → held_at n after ≤ held_at n q)
    → EndingAt t q after None
none_ends t q after fewer = record { numbers = []; tell = tt; within = λ n. omega (arith, fewer n) }

ending_at : (t : Story) (o : ℕ) (f : Outgoing → Outgoing) (qs : List Outgoing) (x : Option Outcome)
    → EndingAt t (slice_get qs o) (option_map f (slice_get qs o)) x → Ending t qs (change o f qs) (option_to_list x)
ending_at t o f qs x k = record {
  numbers = k.numbers;
  tell = k.tell;
  within = λ n.
      let all = held_changed n o (counted n k.numbers) 0 f qs (omega (arith, k.within n)) in omega (arith, all);
}

-- ---- one order ends

way_ends : (t : Story) (e : Ended) (ws : List Accepted) (way : UnderWay) → (named left : Bool)
    → (named ≡ true → Tells t way.accepted e.done)
    → EndingAt t (Some (record { waiting = ws; under_way = Some way }))
    (Some (record { waiting = ws; under_way = cond named None (Some way) }))
    (when (named && not left) (outcome_of e.done way.accepted))
way_ends t e ws way true false tells =
    record { numbers = way.accepted.order.number ∷ []; tell = (tells refl, tt); within = λ n. omega arith }
way_ends t e ws way true true tells = none_ends t _ _ (λ n. omega arith)
way_ends t e ws way false left tells = none_ends t _ _ (λ n. omega arith)

under_way_ends : (t : Story) (e : Ended) (ws : List Accepted) (u : Option UnderWay)
    → TellsAt t (Some e) (Some (record { waiting = ws; under_way = u }))
    → EndingAt t (Some (record { waiting = ws; under_way = u }))
    (Some (outgoing_after_ended e (record { waiting = ws; under_way = u })))
    (outcome_ended_at e (Some (record { waiting = ws; under_way = u })))
under_way_ends t e ws None tells = none_ends t _ _ (λ n. omega arith)
under_way_ends t e ws (Some way) tells =
    way_ends t e ws way (is_named e way) way.left
    (λ named. tells way refl (eqb-true way.accepted.order.number e.number named))

one_ends : (t : Story) (e : Ended) (q : Option Outgoing) → TellsAt t (Some e) q
    → EndingAt t q (option_map (outgoing_after_ended e) q) (outcome_ended_at e q)
one_ends t e None tells = none_ends t None None (λ n. omega arith)
one_ends t e (Some q) tells = under_way_ends t e q.waiting q.under_way tells

pub order_ends : (t : Story) (o : ℕ) (e : Option Ended) (v : Controls) → TellsAt t e (slice_get v.outgoing o)
    → Ending t v.outgoing (controls_with_ended o e v).outgoing (option_to_list (outcome_ended o e v))
order_ends t o None v tells = nothing_ends t v.outgoing
order_ends t o (Some e) v tells =
    ending_at t o (outgoing_after_ended e) v.outgoing (outcome_ended_at e (slice_get v.outgoing o))
    (one_ends t e (slice_get v.outgoing o) tells)

-- ---- those that wait fail

oldest_fails : (t : Story) (o : ℕ) (ws : List Accepted) (u : Option UnderWay) → AllByRecursion (Waits t o) ws
    → EndingAt t (Some (record { waiting = ws; under_way = u }))
    (Some (outgoing_after_lost (record { waiting = ws; under_way = u })))
    (outcome_lost_at (Some (record { waiting = ws; under_way = u })))
oldest_fails t o [] u all = none_ends t _ _ (λ n. omega arith)
oldest_fails t o (x ∷ xs) u all = record {
  numbers = x.order.number ∷ [];
  tell = (waiting_tells t o x all.0, tt);
  within = λ n. omega arith;
}

one_fails : (t : Story) (o : ℕ) (q : Option Outgoing) → AllByRecursion (Waits t o) (waiting_at q)
    → EndingAt t q (option_map outgoing_after_lost q) (outcome_lost_at q)
one_fails t o None all = none_ends t None None (λ n. omega arith)
one_fails t o (Some q) all = oldest_fails t o q.waiting q.under_way all

pub waiting_fail : (t : Story) (n o : ℕ) (v : Controls)
    → AllByRecursion (Waits t o) (waiting_at (slice_get v.outgoing o))
    → Ending t v.outgoing (controls_after_losses n o v).outgoing (outcomes_lost n o v)
waiting_fail t zero o v all = nothing_ends t v.outgoing
waiting_fail t (suc n) o v all =
    ending_both t v.outgoing (controls_after_lost o v).outgoing
    (controls_after_losses n o (controls_after_lost o v)).outgoing
    (option_to_list (outcome_lost_at (slice_get v.outgoing o))) (outcomes_lost n o (controls_after_lost o v))
    (ending_at t o outgoing_after_lost v.outgoing (outcome_lost_at (slice_get v.outgoing o))
    (one_fails t o (slice_get v.outgoing o) all))
    (waiting_fail t n o (controls_after_lost o v)
    (subst (λ (q : Option Outgoing). AllByRecursion (Waits t o) (waiting_at q))
    (sym (change-here o outgoing_after_lost v.outgoing)) (lost_waiting t o (slice_get v.outgoing o) all)))

-- ---- answers are late

pub all_end : (t : Story) (d : ℕ) (es : List (Option Ended)) (v : Controls)
    → ((i p : ℕ) → p ≡ i + d → TellsAt t (flat (slice_get es i)) (slice_get v.outgoing p))
    → Ending t v.outgoing (controls_after_all_ended d es v).outgoing (outcomes_ended d es v)
all_end t d [] v tells = nothing_ends t v.outgoing
all_end t d (e ∷ more) v tells =
    ending_both t v.outgoing (controls_with_ended d e v).outgoing
    (controls_after_all_ended (suc d) more (controls_with_ended d e v)).outgoing
    (option_to_list (outcome_ended d e v)) (outcomes_ended (suc d) more (controls_with_ended d e v))
    (order_ends t d e v (tells zero d (omega arith)))
    (all_end t (suc d) more (controls_with_ended d e v)
    (λ i p at. subst (TellsAt t (flat (slice_get more i)))
    (sym (ended_there d e v p (λ is. omega (arith, at, is)))) (tells (suc i) p (omega (arith, at)))))

late_tells : (t : Story) (o moment : ℕ) (m : Option Master) (q : Option Outgoing) → Holds t o m q
    → TellsAt t (option_and_then (ended_by_tick moment) m) q
late_tells t o moment None q k = tt
late_tells t o moment (Some m) q k = by m.exchange k.going
  where
    late : (w : _) → GoesOn t o (Waiting w) (under_way_at q) → (b : Bool)
        → TellsAt t (cond b (option_map (ended false) (order_of w.task)) None) q
    late w going true = failure_tells t o (Waiting w) q going
    late w going false = tt

    by : (ex : Exchange) → GoesOn t o ex (under_way_at q) → TellsAt t (ended_late moment m.poll ex) q
    by Idle going = tt
    by (Waiting w) going = late w going (is_late moment m.poll w.since)
    by (Selected order) going = tt

pub late_end : (t : Story) (masters : List Master) (moment : ℕ) (v : Controls) → Tied t masters v
    → Ending t v.outgoing (controls_after_all_ended 0 (map (ended_by_tick moment) masters) v).outgoing
    (outcomes_ended 0 (map (ended_by_tick moment) masters) v)
late_end t masters moment v tied =
    all_end t 0 (map (ended_by_tick moment) masters) v
    (λ i p at. let is : i ≡ p = omega (arith, at) in
    subst (λ (o : ℕ). TellsAt t (flat (slice_get (map (ended_by_tick moment) masters) i)) (slice_get v.outgoing o)) is
    (subst (λ (e : Option Ended). TellsAt t e (slice_get v.outgoing i)) (sym (flat_at masters moment i))
    (late_tells t i moment (slice_get masters i) (slice_get v.outgoing i) (tied.places i))))

-- ---- sessions end

pub end_fewer : (n c : ℕ) (v : Controls) → held n (controls_after_end c v).outgoing ≤ held n v.outgoing
end_fewer n c v = held_mapped n (outgoing_after_end c) v.outgoing (held_leaving n c)

pub closes_fewer : (n c : ℕ) (closed : List Bool) (v : Controls)
    → held n (controls_after_closes c closed v).outgoing ≤ held n v.outgoing
closes_fewer n c [] v = omega arith
closes_fewer n c (true ∷ more) v =
    omega (arith, closes_fewer n (suc c) more (controls_after_end c v), end_fewer n c v)
closes_fewer n c (false ∷ more) v = closes_fewer n (suc c) more v

-- ---- a new number

low_waiting : (t : Story) (o n : ℕ) (xs : List Accepted) → length t.executes < n → AllByRecursion (Waits t o) xs
    → held_waiting n xs ≡ 0
low_waiting t o n [] lt all = refl
low_waiting t o n (x ∷ xs) lt all =
    let low : x.order.number ≤ length t.executes =
    numbered_below x.order.number t.executes all.0.of.execute all.0.of.at in
    let other : one_if (x.order.number == n) ≡ 0 =
    ap one_if (ne_eqb x.order.number n (λ is. omega (arith, low, lt, is))) in
    let rest : held_waiting n xs ≡ 0 = low_waiting t o n xs lt all.1 in omega (arith, other, rest)

low_sent : (t : Story) (o n : ℕ) (order : _) (u : Option UnderWay) → length t.executes < n → Sends t o order u
    → held_under_way n u ≡ 0
low_sent t o n order u lt k =
    let low : k.way.accepted.order.number ≤ length t.executes =
    numbered_below k.way.accepted.order.number t.executes k.of.execute k.of.at in
    ap (held_under_way n) k.is
    ∙ ap one_if (ne_eqb k.way.accepted.order.number n (λ is. omega (arith, low, lt, is)))

low_task : (t : Story) (o n i : ℕ) (task : Task) (u : Option UnderWay) → length t.executes < n → ForTask t o i task u
    → held_under_way n u ≡ 0
low_task t o n i (Command operation order) u lt k = low_sent t o n order u lt k.0
low_task t o n i _ u lt k = ap (held_under_way n) k

low_going : (t : Story) (o n : ℕ) (ex : Exchange) (u : Option UnderWay) → length t.executes < n → GoesOn t o ex u
    → held_under_way n u ≡ 0
low_going t o n Idle u lt k = ap (held_under_way n) k
low_going t o n (Waiting w) u lt k = low_task t o n k.sequence w.task u lt k.sent
low_going t o n (Selected order) u lt k = low_sent t o n order u lt k.0

-- no order has it
pub none_held : (t : Story) (masters : List Master) (v : Controls) (n : ℕ) → length t.executes < n → Tied t masters v
    → held n v.outgoing ≡ 0
none_held t masters v n lt tied =
    held_nowhere n v.outgoing
    (λ o. let waiting : held_waiting n (waiting_at (slice_get v.outgoing o)) ≡ 0 =
    low_waiting t o n (waiting_at (slice_get v.outgoing o)) lt (tied.places o).waiting in
    let under_way : held_under_way n (under_way_at (slice_get v.outgoing o)) ≡ 0 =
    low_going t o n (exchange_at (slice_get masters o)) (under_way_at (slice_get v.outgoing o)) lt (tied.places o).going
    in omega (arith, waiting, under_way))

-- none was told of
pub none_counted : (accepted : List Execute) (became : ℕ → List Mark) (n : ℕ) (ns : List ℕ) (xs : List Outcome)
    → length accepted < n → AllTell accepted became ns xs → counted n ns ≡ 0
none_counted accepted became n [] [] lt k = refl
none_counted accepted became n [] (x ∷ xs) lt k = absurd k
none_counted accepted became n (m ∷ ns) [] lt k = absurd k
none_counted accepted became n (m ∷ ns) (x ∷ xs) lt k =
    let low : m ≤ length accepted = numbered_below m accepted k.0.execute k.0.at in
    let other : one_if (m == n) ≡ 0 = ap one_if (ne_eqb m n (λ is. omega (arith, low, lt, is))) in
    let rest : counted n ns ≡ 0 = none_counted accepted became n ns xs lt k.1 in omega (arith, other, rest)
