-- A tick ends sessions, and then orders whose answers are late.
use Rattle.std.proofs.Common.{◌≡◌, ℕ, Bool, true, false, cond, ◌&&◌, List, [], ◌∷◌, length, map}
use Rattle.std.proofs.Common.{Option, Some, None, Ok, option_map, refl, sym, ap, subst, ◌∙◌}
use Rattle.std.proofs.Math.Bool.{and-false}
use Rattle.std.specs.Prelude.{option_and_then, slice_get}
use Rattle.std.specs.List.{AllByRecursion}
use Rattle.std.proofs.lemmas.List.{length-map}
use Rattle.std.proofs.lemmas.Bool.{and_parts}
use Rattle.gw_model.specs.declared.control.Ended.{Ended}
use Rattle.gw_model.specs.declared.control.Order.{Order}
use Rattle.gw_map.specs.Settings.{Setup}
use Rattle.gw_picture.proofs.Lists.{some_is}
use Rattle.dnp_master.specs.declared.exchange.Exchange.{Exchange}
use Rattle.dnp_master.specs.declared.exchange.Exchange.TheVariants.{Idle, Waiting, Selected}
use Rattle.dnp_master.specs.Master.{Master, ended, ended_by_tick, ended_late as late_of, is_late, order_of}
use Rattle.gw_control.specs.declared.accepted.Accepted.{Accepted}
use Rattle.gw_control.specs.declared.accepted.UnderWay.{UnderWay}
use Rattle.gw_control.specs.Controls.{Controls}
use Rattle.gw_control.specs.Orders.{Outgoing}
use Rattle.gw_station.specs.Client.{is_timed_out}
use Rattle.gw_steps.specs.declared.step.Step.{Step}
use Rattle.gw_steps.specs.declared.step.Step.TheVariants as steps
use Rattle.gw_steps.specs.declared.step.Reply.{Reply}
use Rattle.gw_steps.specs.declared.step.Reply.TheVariants as replies
use Rattle.gw_steps.specs.State.{State, later}
use Rattle.gw_steps.specs.Steps.{after, bits_of, can_be_counted, controls_closed, fault_of, latest, needs, outcome, reply_to}
use Rattle.gw_steps.specs.Runs.{Entry}
use Rattle.gw_steps.proofs.Inversion.{answered}
use Rattle.gw_steps.proofs.Running.{entry}
use Rattle.law_history.specs.Accepted.{moment_after}
use Rattle.law_history.proofs.Masters.{MasterTied}
use Rattle.law_history.proofs.Tied.{told_moment}
use Rattle.law_orders.specs.Marks.{Mark, Asked, Answered, marks}
use Rattle.law_orders.specs.ToldOnce.{was_done}
use Rattle.law_orders.proofs.Ends.{flat_at, late_at, tied_closes}
use Rattle.law_orders.proofs.Held.{under_way_at, waiting_at}
use Rattle.law_orders.proofs.Story.{Holds, Tied, story}
use Rattle.law_orders.specs.Pending.{awaits, is_late_at, is_over}
use Rattle.law_orders.specs.Outcomes.{due_from}
use Rattle.law_orders.proofs.PendingCloses.{rows_tick}
use Rattle.law_orders.proofs.Finals.{tick_ends}
use Rattle.law_orders.proofs.Overs.{EndsWay, SaysDone, names_way}
use Rattle.law_orders.proofs.PendingPlaces.{At, at_over, ended_due}
use Rattle.law_orders.proofs.Shapes.{all_unmarked}
use Rattle.law_orders.proofs.Kept.{StepFollows, Before, due_here, TellingAt}

not_awaiting : (past : List Entry) (late : Bool) (xs : List Accepted)
    → AllByRecursion (λ x. marks x.order.number past ≡ []) xs
    → AllByRecursion (λ x. late && awaits (marks x.order.number past) ≡ false) xs
not_awaiting past late [] all = tt
not_awaiting past late (x ∷ xs) all =
    (ap (λ (ms : List Mark). late && awaits ms) all.0 ∙ and-false late, not_awaiting past late xs all.1)

-- an order whose request awaits an answer isn't done
undone : (ms : List Mark) → awaits ms ≡ true → was_done ms ≡ false
undone [] e = absurd (let no : ⊥ = cc in no)
undone (Asked o r ∷ before) e = refl
undone (Answered done ∷ before) e = absurd (let no : ⊥ = cc in no)

late_fails : (moment : ℕ) (m : Master) (x : Ended) → ended_by_tick moment m ≡ Some x → x.done ≡ false
late_fails moment m x e = by m.exchange e
  where
    task : (order : Option Order) → option_map (ended false) order ≡ Some x → x.done ≡ false
    task None is = absurd (let no : ⊥ = cc in no)
    task (Some order) is = sym (ap (λ (y : Ended). y.done) (some_is (ended false order) x is))

    late : (b : Bool) (order : Option Order) → cond b (option_map (ended false) order) None ≡ Some x
        → x.done ≡ false
    late true order is = task order is
    late false order is = absurd (let no : ⊥ = cc in no)

    by : (ex : Exchange) → late_of moment m.poll ex ≡ Some x → x.done ≡ false
    by Idle is = absurd (let no : ⊥ = cc in no)
    by (Waiting w) is = late (is_late moment m.poll w.since) (order_of w.task) is
    by (Selected order) is = absurd (let no : ⊥ = cc in no)

says_late : (past : List Entry) (e : Option Ended) (q : Option Outgoing) → ((x : Ended) → e ≡ Some x → x.done ≡ false)
    → ((u : UnderWay) → under_way_at q ≡ Some u → names_way e u ≡ true
    → was_done (marks u.accepted.order.number past) ≡ false)
    → SaysDone past e q
says_late past None q fails undone = tt
says_late past (Some x) q fails undone = λ u at named. fails x refl ∙ sym (undone u at named)

-- the order under way to an outstation, at a tick
tick_way : (setup : Setup) (past : List Entry) (p moment : ℕ) (m : Option Master) (q : Option Outgoing) (u : UnderWay)
    → Holds (story setup past) p m q → MasterTied setup p past m → under_way_at q ≡ Some u
    → is_late_at setup p past moment && awaits (marks u.accepted.order.number past)
    ≡ names_way (option_and_then (ended_by_tick moment) m) u
tick_way setup past p moment None q u k tied at =
    absurd (let both : None ≡ Some u = sym k.going ∙ at in let no : ⊥ = cc in no)
tick_way setup past p moment (Some m) q u k tied at =
    tick_ends setup past p moment m (under_way_at q) u k.going at tied.poll tied.awaits

tick_fails : (moment : ℕ) (m : Option Master) (x : Ended) → option_and_then (ended_by_tick moment) m ≡ Some x
    → x.done ≡ false
tick_fails moment None x e = absurd (let no : ⊥ = cc in no)
tick_fails moment (Some m) x e = late_fails moment m x e

tick_at : (setup : Setup) (past : List Entry) (m : ℕ) (s : State) (p : ℕ) → Before setup past s
    → At setup past (entry (steps.Tick m) (Ok (replies.Ticked (bits_of (map (is_timed_out (latest s m)) s.clients)))))
    (replies.Ticked (bits_of (map (is_timed_out (latest s m)) s.clients))) p (slice_get s.controls.outgoing p)
    (slice_get (after setup s (steps.Tick m)).controls.outgoing p)
    (TellingAt (option_and_then (ended_by_tick (latest s m)) (slice_get s.outstations p))
    (slice_get (controls_closed s (latest s m)).outgoing p))
tick_at setup past m s p k =
    let moment : ℕ = latest s m in
    let bs : List Bool = map (is_timed_out moment) s.clients in
    let r : Reply = replies.Ticked (bits_of bs) in
    let en : Entry = entry (steps.Tick m) (Ok r) in
    let v : Controls = controls_closed s moment in
    let q : Option Outgoing = slice_get v.outgoing p in
    let e : Option Ended = option_and_then (ended_by_tick moment) (slice_get s.outstations p) in
    let closed : Tied (story setup past) s.outstations v =
    tied_closes (story setup past) s.outstations 0 bs s.controls k.orders in
    let same : moment ≡ later (moment_after past) m = told_moment setup past s m k.history in
    let ends : (u : UnderWay) → under_way_at q ≡ Some u
    → is_late_at setup p past (later (moment_after past) m) && awaits (marks u.accepted.order.number past)
    ≡ names_way e u =
    λ u at. subst (λ (i : ℕ). is_late_at setup p past i && awaits (marks u.accepted.order.number past) ≡ names_way e u)
    same
    (tick_way setup past p moment (slice_get s.outstations p) q u (closed.places p) (k.history.outstations p) at) in
    let over : EndsWay (is_over setup p past en en.step) e q =
    record {
      waiting = not_awaiting past (is_late_at setup p past (later (moment_after past) m)) (waiting_at q)
          (all_unmarked (story setup past) p (waiting_at q) (closed.places p).waiting);
      under_way = ends;
    } in
    subst (λ (y : Option Outgoing). At setup past en r p (slice_get s.controls.outgoing p) y (TellingAt e q))
    (sym (late_at s.outstations moment v p))
    (at_over setup past en r p (slice_get s.controls.outgoing p) q e
    (rows_tick setup past s.outstations bs s.controls p k.orders) refl over
    (says_late (en ∷ past) e q (tick_fails moment (slice_get s.outstations p))
    (λ u at named. undone (marks u.accepted.order.number past)
    (and_parts (is_late_at setup p past (later (moment_after past) m)) (awaits (marks u.accepted.order.number past))
    (ends u at ∙ named)).1)))

pub tick : (setup : Setup) (past : List Entry) (m : ℕ) (r : Reply) (s : State)
    → outcome setup s (steps.Tick m) ≡ Ok r → Before setup past s
    → StepFollows setup past (steps.Tick m) r s (after setup s (steps.Tick m))
tick setup past m r s e k =
    let step : Step = steps.Tick m in
    let moment : ℕ = latest s m in
    let told = answered (fault_of s step) (can_be_counted s (needs setup s step)) (reply_to setup s step) r e in
    let ticked : Reply = replies.Ticked (bits_of (map (is_timed_out moment) s.clients)) in
    let en : Entry = entry step (Ok ticked) in
    let v : Controls = controls_closed s moment in
    let es : List (Option Ended) = map (ended_by_tick moment) s.outstations in
    let many : length es ≡ length setup.outstations =
    length-map s.outstations (ended_by_tick moment) ∙ k.sound.masters in
    subst (λ (x : Reply). StepFollows setup past step x s (after setup s step)) told.2 (record {
      pending = λ p. (tick_at setup past m s p k).pending;
      told = λ follows.
          ended_due setup past en es v
          (λ p. due_here setup past step ticked s p (slice_get (after setup s step).controls.outgoing p)
          (TellingAt (option_and_then (ended_by_tick moment) (slice_get s.outstations p)) (slice_get v.outgoing p))
          follows
          (tick_at setup past m s p k)
          ∙ ap (λ (x : Option Ended). TellingAt x (slice_get v.outgoing p)) (sym (flat_at s.outstations moment p)))
          ∙ ap (due_from setup past en 0) many;
    })
