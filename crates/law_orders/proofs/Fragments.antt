-- A fragment ends the order under way, or none.
use Rattle.std.proofs.Common.{◌≡◌, ℕ, Bool, true, false, List, [], ◌∷◌, map, Option}
use Rattle.std.proofs.Common.{Some, None, Ok, refl, sym, ap, subst, ◌∙◌, inl, inr}
use Rattle.std.specs.Prelude.{slice_get}
use Rattle.std.specs.List.{AllByRecursion}
use Rattle.std.specs.Option.{option_to_list}
use Rattle.std.proofs.lemmas.Bool.{cases_Bool, eqb-true}
use Rattle.gw_model.specs.declared.control.Ended.{Ended}
use Rattle.gw_map.specs.Settings.{Setup}
use Rattle.dnp_app.specs.Response.{Fragment}
use Rattle.dnp_master.specs.declared.exchange.Exchange.{Exchange}
use Rattle.dnp_master.specs.declared.verdict.Verdict.{Verdict}
use Rattle.dnp_master.specs.Master.{Master}
use Rattle.dnp_master.specs.Fragments.{accepts, verdict_of}
use Rattle.gw_control.specs.declared.accepted.Accepted.{Accepted}
use Rattle.gw_control.specs.declared.accepted.UnderWay.{UnderWay}
use Rattle.gw_control.specs.declared.answer.Outcome.{Outcome}
use Rattle.gw_control.specs.Controls.{Controls}
use Rattle.gw_control.specs.Orders.{Outgoing, is_named}
use Rattle.gw_steps.specs.declared.step.Step.{Step}
use Rattle.gw_steps.specs.declared.step.Step.TheVariants as steps
use Rattle.gw_steps.specs.declared.step.Reply.{Reply}
use Rattle.gw_steps.specs.declared.step.Reply.TheVariants as replies
use Rattle.gw_steps.specs.declared.step.StepFault.TheVariants.{NoOutstation}
use Rattle.gw_steps.specs.Controls.{controls_with_ended, ended_by_fragment, ended_in}
use Rattle.gw_steps.specs.State.{State}
use Rattle.gw_steps.specs.Steps.{after, can_be_counted, fault_of, is_accepting, latest, needs}
use Rattle.gw_steps.specs.Steps.{order_ended, outcome, outcomes_of, outstation_reply, reply_to}
use Rattle.gw_steps.specs.Runs.{Entry}
use Rattle.gw_steps.proofs.Inversion.{answered, who_is_up}
use Rattle.gw_steps.proofs.Running.{entry}
use Rattle.law_history.proofs.Ended.{ended_there}
use Rattle.law_orders.specs.Marks.{is_end, marks}
use Rattle.law_orders.specs.ToldOnce.{was_done}
use Rattle.law_orders.proofs.Ends.{ended_at, ended_here, ended_waiting}
use Rattle.law_orders.proofs.Held.{under_way_at, waiting_at}
use Rattle.law_orders.proofs.Moves.{in_order_at}
use Rattle.law_orders.proofs.BondSteps.{story_of_end}
use Rattle.law_orders.proofs.Story.{GoesOn, Holds, Story, exchange_at, story}
use Rattle.law_orders.proofs.Tells.{TellsAt}
use Rattle.law_orders.proofs.Verdicts.{judged, story_ended}
use Rattle.law_orders.specs.Pending.{is_final}
use Rattle.law_orders.specs.Outcomes.{telling_of}
use Rattle.law_orders.proofs.Finals.{fragment_final}
use Rattle.law_orders.proofs.Overs.{EndsWay, SaysDone, names_way, outcome_in, outcome_there}
use Rattle.law_orders.proofs.PendingPlaces.{At, at_over}
use Rattle.law_orders.proofs.Rows.{none_leaves, rows}
use Rattle.law_orders.proofs.Shapes.{all_unmarked, way_shape}
use Rattle.law_orders.proofs.Kept.{StepFollows, Before, calm, one_tells, within, After, TellingAt}

not_final : (past : List Entry) (xs : List Accepted) → AllByRecursion (λ x. marks x.order.number past ≡ []) xs
    → AllByRecursion (λ x. is_final (marks x.order.number past) ≡ false) xs
not_final past [] all = tt
not_final past (x ∷ xs) all = (ap is_final all.0, not_final past xs all.1)

-- an order under way that isn't named stays
stays_way : (e : Ended) (q : Option Outgoing) (u : UnderWay) → under_way_at q ≡ Some u → is_named e u ≡ false
    → under_way_at (ended_at (Some e) q) ≡ Some u
stays_way e None u at other = absurd (let no : ⊥ = cc in no)
stays_way e (Some q) u at other = rw (at, other) refl

-- the order under way ends with a fragment where the marks say so, by what holds after it
under_way_ends : (t : Story) (p : ℕ) (ex : Exchange) (e : Option Ended) (q : Option Outgoing) (u : UnderWay)
    → GoesOn t p ex (under_way_at (ended_at e q)) → under_way_at q ≡ Some u
    → ((x : Ended) → e ≡ Some x → is_named x u ≡ true → is_final (t.marks u.accepted.order.number) ≡ true)
    → is_final (t.marks u.accepted.order.number) ≡ names_way e u
under_way_ends t p ex None q u going at final = (way_shape t p ex (under_way_at q) u going at).final
under_way_ends t p ex (Some x) q u going at final = named (is_named x u) refl
  where
    named : (b : Bool) → is_named x u ≡ b → is_final (t.marks u.accepted.order.number) ≡ is_named x u
    named true is = final x refl is ∙ sym is
    named false is =
        (way_shape t p ex (under_way_at (ended_at (Some x) q)) u going (stays_way x q u at is)).final ∙ sym is

way_ends : (setup : Setup) (after : List Entry) (p : ℕ) (m : Option Master) (e : Option Ended) (q : Option Outgoing)
    → Holds (story setup after) p m (ended_at e q)
    → ((x : Ended) (u : UnderWay) → e ≡ Some x → under_way_at q ≡ Some u → is_named x u ≡ true
    → is_final (marks u.accepted.order.number after) ≡ true)
    → EndsWay (λ x. is_final (marks x.number after)) e q
way_ends setup after p m e q k final = record {
  waiting = not_final after (waiting_at q)
      (subst (AllByRecursion (λ x. marks x.order.number after ≡ [])) (ended_waiting e q)
      (all_unmarked (story setup after) p (waiting_at (ended_at e q)) k.waiting));
  under_way = λ u at. under_way_ends (story setup after) p (exchange_at m) e q u k.going at
      (λ x is named. final x u is at named);
}

no_final : (after : List Entry) (q : Option Outgoing) (x : Ended) (u : UnderWay) → None ≡ Some x
    → under_way_at q ≡ Some u → is_named x u ≡ true → is_final (marks u.accepted.order.number after) ≡ true
no_final after q x u none at named = absurd (let no : ⊥ = cc in no)

-- a fragment ends an order, or none, at an outstation
fragment_at : (setup : Setup) (past : List Entry) (f : Fragment) (m : ℕ) (r : Reply) (p : ℕ) (x : Option Master)
    (e : Option Ended) (q : Option Outgoing)
    → Holds (story setup (entry (steps.Fragment f m) (Ok r) ∷ past)) p x (ended_at e q)
    → ((y : Ended) (u : UnderWay) → e ≡ Some y → under_way_at q ≡ Some u → is_named y u ≡ true
    → is_final (marks u.accepted.order.number (entry (steps.Fragment f m) (Ok r) ∷ past)) ≡ true)
    → SaysDone (entry (steps.Fragment f m) (Ok r) ∷ past) e q
    → At setup past (entry (steps.Fragment f m) (Ok r)) r p q (ended_at e q) (TellingAt e q)
fragment_at setup past f m r p x e q k final says =
    let en : Entry = entry (steps.Fragment f m) (Ok r) in
    at_over setup past en r p q q e (sym (none_leaves past (rows q))) refl
    (way_ends setup (en ∷ past) p x e q k final) says

says_by : (t : Story) (after : List Entry) (e : Option Ended) (q : Option Outgoing)
    → ((n : ℕ) → t.marks n ≡ marks n after) → TellsAt t e q → SaysDone after e q
says_by t after None q same k = tt
says_by t after (Some e) q same k =
    λ u at named. (k u at (eqb-true u.accepted.order.number e.number named)).done
    ∙ ap was_done (same u.accepted.order.number)

fragment_left : (setup : Setup) (past : List Entry) (f : Fragment) (m : ℕ) (s : State) (x : Master)
    → slice_get s.outstations f.outstation ≡ Some x → accepts x f ≡ false
    → After setup (entry (steps.Fragment f m) (Ok (replies.Verdict (verdict_of x f))) ∷ past)
    (after setup s (steps.Fragment f m))
    → StepFollows setup past (steps.Fragment f m) (replies.Verdict (verdict_of x f)) s
    (after setup s (steps.Fragment f m))
fragment_left setup past f m s x at left known =
    let step : Step = steps.Fragment f m in
    let r : Reply = replies.Verdict (verdict_of x f) in
    let new : State = after setup s step in
    let accepting : is_accepting s f ≡ false = rw at left in
    let same : new.controls ≡ s.controls = rw accepting refl in
    let none : outcomes_of s step ≡ [] = rw accepting refl in
    calm setup past step r s new none
    (λ p. let here : slice_get new.controls.outgoing p ≡ slice_get s.controls.outgoing p =
    ap (λ (v : Controls). slice_get v.outgoing p) same in
    subst (λ (y : Option Outgoing). At setup past (entry step (Ok r)) r p (slice_get s.controls.outgoing p) y [])
    (sym here)
    (fragment_at setup past f m r p (slice_get new.outstations p) None (slice_get s.controls.outgoing p)
    (subst (λ (y : Option Outgoing).
    Holds (story setup (entry step (Ok r) ∷ past)) p (slice_get new.outstations p) y) here (known.places p))
    (no_final (entry step (Ok r) ∷ past) (slice_get s.controls.outgoing p)) tt))

fragment_taken : (setup : Setup) (past : List Entry) (f : Fragment) (m : ℕ) (s : State) (x : Master)
    → Before setup past s → slice_get s.outstations f.outstation ≡ Some x → x.up ≡ true → accepts x f ≡ true
    → After setup (entry (steps.Fragment f m) (Ok (replies.Verdict (verdict_of x f))) ∷ past)
    (after setup s (steps.Fragment f m))
    → StepFollows setup past (steps.Fragment f m) (replies.Verdict (verdict_of x f)) s
    (after setup s (steps.Fragment f m))
fragment_taken setup past f m s x k at up takes known =
    let step : Step = steps.Fragment f m in
    let v : Verdict = verdict_of x f in
    let r : Reply = replies.Verdict v in
    let new : State = after setup s step in
    let en : Entry = entry step (Ok r) in
    let o : ℕ = f.outstation in
    let q : Option Outgoing = slice_get s.controls.outgoing o in
    let e : Option Ended = ended_in v in
    let accepting : is_accepting s f ≡ true = rw at takes in
    let ending : order_ended s f ≡ e = ap (ended_by_fragment f) at in
    let same : new.controls ≡ controls_with_ended o e s.controls = rw (accepting, ending) refl in
    let here : slice_get new.controls.outgoing o ≡ ended_at e q =
    ap (λ (w : Controls). slice_get w.outgoing o) same ∙ ended_here o e s.controls in
    let held : Holds (story setup past) o (Some x) q =
    subst (λ (y : Option Master). Holds (story setup past) o y q) at (k.orders.places o) in
    let tells = (judged (story setup past) o (latest s m) s.controls.ordered f x q up
    (in_order_at s.controls.ordered s.controls.outgoing o k.sound.controls.orders) held takes).tells in
    let says : SaysDone (en ∷ past) e q =
    says_by (story_ended (is_end r) o f.octets (story setup past)) (en ∷ past) e q
    (λ n. ap (λ (t : Story). t.marks n) (story_of_end (is_end r) setup past f)) tells in
    let told : outcomes_of s step ≡ option_to_list (outcome_in e q) =
    rw (accepting, ending) (ap (λ (y : Option Outcome). option_to_list y) (outcome_there o e s.controls)) in
    one_tells setup past step r s new o (within setup s o x k.sound at)
    (subst (λ (y : Option Outgoing). At setup past en r o q y (map telling_of (outcomes_of s step))) (sym here)
    (subst (λ (ys : List Outcome). At setup past en r o q (ended_at e q) (map telling_of ys)) (sym told)
    (fragment_at setup past f m r o (slice_get new.outstations o) e q
    (subst (λ (y : Option Outgoing). Holds (story setup (en ∷ past)) o (slice_get new.outstations o) y) here
    (known.places o))
    (λ y u is there named. fragment_final setup past f x (under_way_at q) y u.accepted.order.number held.going
    (eqb-true u.accepted.order.number y.number named) is) says)))
    (λ p ne. let there : slice_get new.controls.outgoing p ≡ slice_get s.controls.outgoing p =
    ap (λ (w : Controls). slice_get w.outgoing p) same ∙ ended_there o e s.controls p ne in
    subst (λ (y : Option Outgoing). At setup past en r p (slice_get s.controls.outgoing p) y []) (sym there)
    (fragment_at setup past f m r p (slice_get new.outstations p) None (slice_get s.controls.outgoing p)
    (subst (λ (y : Option Outgoing). Holds (story setup (en ∷ past)) p (slice_get new.outstations p) y) there
    (known.places p))
    (no_final (en ∷ past) (slice_get s.controls.outgoing p)) tt))

pub fragment : (setup : Setup) (past : List Entry) (f : Fragment) (m : ℕ) (r : Reply) (s : State)
    → outcome setup s (steps.Fragment f m) ≡ Ok r → Before setup past s
    → After setup (entry (steps.Fragment f m) (Ok r) ∷ past) (after setup s (steps.Fragment f m))
    → StepFollows setup past (steps.Fragment f m) r s (after setup s (steps.Fragment f m))
fragment setup past f m r s e k known =
    let step : Step = steps.Fragment f m in
    let told = answered (fault_of s step) (can_be_counted s (needs setup s step)) (reply_to setup s step) r e in
    let up = who_is_up (λ (x : Master). x.up) NoOutstation (slice_get s.outstations f.outstation) told.0 in
    let reply : replies.Verdict (verdict_of up.0 f) ≡ r =
    sym (ap (outstation_reply (λ (x : Master). replies.Verdict (verdict_of x f))) up.1) ∙ told.2 in
    subst (λ (x : Reply). After setup (entry step (Ok x) ∷ past) (after setup s step)
    → StepFollows setup past step x s (after setup s step)) reply
    (λ after_it. elim (cases_Bool (accepts up.0 f)) [
      | inl takes ↦ fragment_taken setup past f m s up.0 k up.1 up.2 takes after_it
      | inr left ↦ fragment_left setup past f m s up.0 up.1 left after_it
    ]) known
