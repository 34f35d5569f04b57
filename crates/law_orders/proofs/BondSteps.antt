-- Each step keeps what ties the state to the history, and the request that it gives is bound.
use Rattle.std.proofs.Common.{◌≡◌, ℕ, ◌≤◌, Bool, true, false, List, [], ◌∷◌, ◌++◌, length, map, Option}
use Rattle.std.proofs.Common.{Some, None, Ok, option_map, refl, sym, ap, subst, ◌∙◌, arith, inl, inr}
use Rattle.std.specs.Prelude.{slice_get}
use Rattle.std.specs.List.{AllByRecursion}
use Rattle.std.specs.Option.{option_to_list}
use Rattle.std.proofs.lemmas.Bool.{cases_Bool}
use Rattle.gw_model.specs.First.{when}
use Rattle.gw_model.specs.Places.{change}
use Rattle.gw_model.specs.declared.control.Ended.{Ended}
use Rattle.gw_model.specs.declared.control.Order.{Order}
use Rattle.gw_map.specs.Settings.{Setup}
use Rattle.gw_picture.proofs.Lists.{change-here, change-there}
use Rattle.dnp_app.specs.declared.request.Request.{Request}
use Rattle.dnp_app.specs.Response.{Fragment}
use Rattle.dnp_master.specs.declared.exchange.Exchange.{Exchange}
use Rattle.dnp_master.specs.declared.verdict.Verdict.{Verdict}
use Rattle.dnp_master.specs.declared.verdict.Verdict.TheVariants.{Accepted, Repeated, Ignored}
use Rattle.dnp_master.specs.Master.{Master, ended_by_loss, master_after_next, master_after_order, master_after_up, master_down}
use Rattle.dnp_master.specs.Fragments.{accepts, is_acceptance, master_after_fragment, verdict_of}
use Rattle.gw_control.specs.Controls.{Controls, controls_after_end, controls_after_taking}
use Rattle.gw_control.specs.declared.answer.Outcome.{Outcome}
use Rattle.gw_control.specs.Moves.{IsSoundControls}
use Rattle.gw_control.specs.Orders.{Outgoing, outgoing_after_taking, places}
use Rattle.gw_station.specs.Client.{is_timed_out}
use Rattle.gw_steps.specs.declared.step.Step.{Step}
use Rattle.gw_steps.specs.declared.step.Step.TheVariants as steps
use Rattle.gw_steps.specs.declared.step.Reply.{Reply}
use Rattle.gw_steps.specs.declared.step.Reply.TheVariants as replies
use Rattle.gw_steps.specs.declared.step.StepFault.TheVariants.{NoOutstation}
use Rattle.gw_steps.specs.Controls.{outcome_ended, outcomes_lost, controls_with_ended}
use Rattle.gw_steps.specs.Controls.{ended_by_fragment, ended_in, ended_lost, order_due, order_for}
use Rattle.gw_steps.specs.State.{State}
use Rattle.gw_steps.specs.Steps.{outcomes_of, outcomes_of_loss, outcomes_of_tick, outcome, needs, can_be_counted}
use Rattle.gw_steps.specs.Steps.{controls_closed, reply_to, fault_of, is_accepting, order_ended}
use Rattle.gw_steps.specs.Steps.{outstation_reply, parts_after_poll, reply_asking, request_polled, latest, after}
use Rattle.gw_steps.specs.Runs.{Entry, state_after}
use Rattle.gw_steps.proofs.Inversion.{answered, who_is_up, who_is_down}
use Rattle.gw_steps.proofs.Running.{entry}
use Rattle.law_history.proofs.Ended.{ended_count, ended_there}
use Rattle.law_history.proofs.Outstations.{master_after_poll}
use Rattle.law_orders.specs.Executes.{numbered}
use Rattle.law_orders.specs.Marks.{is_end, given_by, mark_answered, marks}
use Rattle.law_orders.specs.Bonds.{HasShortIndex, IsBound}
use Rattle.law_orders.proofs.Held.{held, held_at, held_changed, held_taking, held_within, waiting_at, under_way_at}
use Rattle.law_orders.proofs.Story.{Holds, Waits, Story, Tied, alike_self, story, GoesOn}
use Rattle.law_orders.proofs.Moves.{AlikeBut, Moves, in_order_at, moved}
use Rattle.law_orders.proofs.BondPolls.{Polled, outgoing_polled, polled, story_polled, with_outstation}
use Rattle.law_orders.proofs.Ends.{ended_here, ended_waiting, controls_lost, idle_holds, lost_count}
use Rattle.law_orders.proofs.Ends.{lost_holds, lost_there, tied_closes, tied_end, tied_late}
use Rattle.law_orders.proofs.Tells.{TellsAt, failure_tells}
use Rattle.law_orders.proofs.BondsTold.{Ending, Leads, ToldTied, closes_fewer, end_fewer, ending_both}
use Rattle.law_orders.proofs.BondsTold.{late_end, order_ends, told_ending, told_fewer, told_kept, waiting_fail}
use Rattle.law_orders.proofs.Verdicts.{Answers, judged, story_ended}
use Rattle.law_orders.proofs.Orders.{frame_tied}

-- after a step with a reply
pub record StepTied (setup : Setup) (past : List Entry) (step : Step) (r : Reply) (s new : State) : Type 0 where
  pub tied : Tied (story setup (entry step (Ok r) ∷ past)) new.outstations new.controls
  pub bound : IsBound (story setup past).executes (given_by step r)
  pub told : (xs : List Outcome) → ToldTied (story setup past) s.controls.outgoing xs
      → ToldTied (story setup (entry step (Ok r) ∷ past)) new.controls.outgoing (outcomes_of s step ++ xs)

abbrev Before : Setup → List Entry → State → Type 0
Before setup past s = Tied (story setup past) s.outstations s.controls

one_changed : {A : Type 0} (o : ℕ) (f : A → A) (xs : List A) → AlikeBut o xs (change o f xs)
one_changed o f xs p ne = change-there o p f xs ne

same_all : {A : Type 0} (o : ℕ) (xs : List A) → AlikeBut o xs xs
same_all o xs p ne = refl

-- what was told goes on to be told, where one outstation changes
told_moved : (t new : Story) (qs : List Outgoing) (o : ℕ) (xs : List Outcome) → new.executes ≡ t.executes
    → ((n : ℕ) → held_at n (slice_get qs o) ≡ 0 → new.marks n ≡ t.marks n) → ToldTied t qs xs → ToldTied new qs xs
told_moved t new qs o xs same kept k =
    told_kept t new qs xs (λ n x e. ap (numbered n) same ∙ e)
    (λ n none. kept n (omega (arith, held_within n o qs, none))) k

-- ---- OutstationUp

up_moves : (t : Story) (o moment : ℕ) (m : Master) (q : Option Outgoing) → m.up ≡ false → Holds t o (Some m) q
    → Moves t t o q (Some (master_after_up moment m)) q
up_moves t o moment m q down k = record {
  here = idle_holds t o m (master_after_up moment m) q q refl (omega arith) k.waiting
      (subst (λ (ex : Exchange). GoesOn t o ex (under_way_at q)) (k.down down) k.going);
  others = λ p ne. alike_self t p;
  bonded = λ n so_far. so_far;
  kept = λ n none. refl;
}

outstation_up : (setup : Setup) (past : List Entry) (o m : ℕ) (r : Reply) (s : State)
    → outcome setup s (steps.OutstationUp o m) ≡ Ok r → Before setup past s
    → StepTied setup past (steps.OutstationUp o m) r s (after setup s (steps.OutstationUp o m))
outstation_up setup past o m r s e tied =
    let step : Step = steps.OutstationUp o m in
    let t : Story = story setup past in
    let told = answered (fault_of s step) (can_be_counted s (needs setup s step)) (reply_to setup s step) r e in
    let down = who_is_down (λ (x : Master). x.up) NoOutstation (slice_get s.outstations o) told.0 in
    let q : Option Outgoing = slice_get s.controls.outgoing o in
    let here : slice_get (change o (master_after_up (latest s m)) s.outstations) o
    ≡ Some (master_after_up (latest s m) down.0) =
    change-here o (master_after_up (latest s m)) s.outstations
    ∙ ap (option_map (master_after_up (latest s m))) down.1 in
    record {
      tied = moved t t s.outstations (change o (master_after_up (latest s m)) s.outstations) s.controls s.controls o
          tied.count (one_changed o (master_after_up (latest s m)) s.outstations) (same_all o s.controls.outgoing)
          (rw here (up_moves t o (latest s m) down.0 q down.2
          (subst (λ (x : Option Master). Holds t o x q) down.1 (tied.places o))))
          tied;
      bound = tt;
      told = λ xs k. k;
    }

-- ---- OutstationDown

loss : (setup : Setup) (past : List Entry) (o m : ℕ) (r : Reply) (s : State) (x : Master)
    → slice_get s.outstations o ≡ Some x → Before setup past s
    → StepTied setup past (steps.OutstationDown o m) r s (after setup s (steps.OutstationDown o m))
loss setup past o m r s x at tied =
    let t : Story = story setup past in
    let down : Master → Master = λ y. master_down y.poll in
    let e : Option Ended = ended_lost (slice_get s.outstations o) in
    let failed : e ≡ ended_by_loss x = ap ended_lost at in
    let here : slice_get (change o down s.outstations) o ≡ Some (master_down x.poll) =
    change-here o down s.outstations ∙ ap (option_map down) at in
    let held : Holds t o (Some x) (slice_get s.controls.outgoing o) =
    subst (λ (y : Option Master). Holds t o y (slice_get s.controls.outgoing o)) at (tied.places o) in
    let k : Holds t o (slice_get (change o down s.outstations) o)
    (slice_get (controls_lost places o e s.controls).outgoing o) =
    rw (here, failed) (lost_holds t places o x s.controls held) in
    let ended : Controls = controls_with_ended o e s.controls in
    let waits : AllByRecursion (Waits t o) (waiting_at (slice_get ended.outgoing o)) =
    subst (AllByRecursion (Waits t o))
    (sym (ap waiting_at (ended_here o e s.controls) ∙ ended_waiting e (slice_get s.controls.outgoing o)))
    held.waiting in
    let tells : TellsAt t e (slice_get s.controls.outgoing o) =
    subst (λ (y : Option Ended). TellsAt t y (slice_get s.controls.outgoing o)) (sym failed)
    (failure_tells t o x.exchange (slice_get s.controls.outgoing o) held.going) in
    let ending : Ending t s.controls.outgoing (controls_lost places o e s.controls).outgoing (outcomes_of_loss s o) =
    ending_both t s.controls.outgoing ended.outgoing (controls_lost places o e s.controls).outgoing
    (option_to_list (outcome_ended o e s.controls)) (outcomes_lost places o ended)
    (order_ends t o e s.controls tells) (waiting_fail t places o ended waits) in
    record {
      tied = moved t t s.outstations (change o down s.outstations) s.controls
          (controls_lost places o e s.controls) o (lost_count places o e s.controls ∙ tied.count)
          (one_changed o down s.outstations) (lost_there places o e s.controls)
          (record {
            here = k;
            others = λ p ne. alike_self t p;
            bonded = λ n so_far. so_far;
            kept = λ n none. refl;
          })
          tied;
      bound = tt;
      told = λ xs j. told_ending t s.controls.outgoing (controls_lost places o e s.controls).outgoing
          (outcomes_of_loss s o) xs ending j;
    }

outstation_down : (setup : Setup) (past : List Entry) (o m : ℕ) (r : Reply) (s : State)
    → outcome setup s (steps.OutstationDown o m) ≡ Ok r → Before setup past s
    → StepTied setup past (steps.OutstationDown o m) r s (after setup s (steps.OutstationDown o m))
outstation_down setup past o m r s e tied =
    let step : Step = steps.OutstationDown o m in
    let told = answered (fault_of s step) (can_be_counted s (needs setup s step)) (reply_to setup s step) r e in
    let up = who_is_up (λ (x : Master). x.up) NoOutstation (slice_get s.outstations o) told.0 in
    loss setup past o m r s up.0 up.1 tied

-- ---- Poll

story_of_poll : (setup : Setup) (past : List Entry) (o m wall : ℕ) (given : Option Request)
    → story_polled o given (story setup past)
    ≡ story setup (entry (steps.Poll o m wall) (Ok (reply_asking given)) ∷ past)
story_of_poll setup past o m wall None = refl
story_of_poll setup past o m wall (Some request) = refl

given_of_poll : (o m wall : ℕ) (given : Option Request)
    → with_outstation o given ≡ given_by (steps.Poll o m wall) (reply_asking given)
given_of_poll o m wall None = refl
given_of_poll o m wall (Some request) = refl

polled_moves : (t new : Story) (s : State) (moment o wall : ℕ) (m : Master) (due : Option Order)
    → slice_get s.outstations o ≡ Some m → new.executes ≡ t.executes
    → Moves t new o (slice_get s.controls.outgoing o) (Some (master_after_poll moment wall due m))
    (outgoing_polled due (slice_get s.controls.outgoing o))
    → Tied t s.outstations s.controls
    → Tied new (parts_after_poll s moment o wall due).outstations (parts_after_poll s moment o wall due).controls
polled_moves t new s moment o wall m None at same k tied =
    moved t new s.outstations (change o (master_after_next moment wall) s.outstations) s.controls s.controls o
    (tied.count ∙ sym (ap (λ (xs : List _). length xs) same))
    (one_changed o (master_after_next moment wall) s.outstations) (same_all o s.controls.outgoing)
    (rw (change-here o (master_after_next moment wall) s.outstations, at) k) tied
polled_moves t new s moment o wall m (Some order) at same k tied =
    moved t new s.outstations (change o (master_after_order moment order) s.outstations) s.controls
    (controls_after_taking o s.controls) o (tied.count ∙ sym (ap (λ (xs : List _). length xs) same))
    (one_changed o (master_after_order moment order) s.outstations)
    (one_changed o outgoing_after_taking s.controls.outgoing)
    (rw (
      change-here o (master_after_order moment order) s.outstations,
      at,
      change-here o outgoing_after_taking s.controls.outgoing,
    ) k) tied

poll_fewer : (n : ℕ) (s : State) (moment o wall : ℕ) (due : Option Order)
    → held n (parts_after_poll s moment o wall due).controls.outgoing ≤ held n s.controls.outgoing
poll_fewer n s moment o wall None = omega arith
poll_fewer n s moment o wall (Some order) =
    let all = held_changed n o 0 0 outgoing_after_taking s.controls.outgoing
    (omega (arith, held_taking n (slice_get s.controls.outgoing o))) in omega (arith, all)

polled_executes : (t : Story) (o : ℕ) (given : Option Request) → (story_polled o given t).executes ≡ t.executes
polled_executes t o None = refl
polled_executes t o (Some r) = refl

poll_taken : (setup : Setup) (past : List Entry) (o m wall : ℕ) (s : State) (x : Master)
    → IsSoundControls setup s.controls → slice_get s.outstations o ≡ Some x → x.up ≡ true → Before setup past s
    → StepTied setup past (steps.Poll o m wall)
    (reply_asking (request_polled (order_due s o) (latest s m) wall x)) s (after setup s (steps.Poll o m wall))
poll_taken setup past o m wall s x sound at up tied =
    let step : Step = steps.Poll o m wall in
    let t : Story = story setup past in
    let moment : ℕ = latest s m in
    let q : Option Outgoing = slice_get s.controls.outgoing o in
    let due : Option Order = order_due s o in
    let given : Option Request = request_polled due moment wall x in
    let held : Holds t o (Some x) q = subst (λ (y : Option Master). Holds t o y q) at (tied.places o) in
    let next : order_for (Some x) q ≡ due = ap (λ (y : Option Master). order_for y q) (sym at) in
    let k : Polled t o q given (master_after_poll moment wall due x) (outgoing_polled due q) =
    polled t o moment wall s.controls.ordered x q due next up
    (in_order_at s.controls.ordered s.controls.outgoing o sound.orders) held in
    record {
      tied = subst (λ (y : Story). Tied y (after setup s step).outstations (after setup s step).controls)
          (story_of_poll setup past o m wall given)
          (polled_moves t (story_polled o given t) s moment o wall x due at (polled_executes t o given) k.moves tied);
      bound = subst (IsBound t.executes) (given_of_poll o m wall given) k.bound;
      told = λ xs j. subst (λ (y : Story). ToldTied y (after setup s step).controls.outgoing xs)
          (story_of_poll setup past o m wall given)
          (told_fewer (story_polled o given t) s.controls.outgoing (after setup s step).controls.outgoing xs
          (λ n. poll_fewer n s moment o wall due)
          (told_moved t (story_polled o given t) s.controls.outgoing o xs (polled_executes t o given) k.moves.kept j));
    }

poll : (setup : Setup) (past : List Entry) (o m wall : ℕ) (r : Reply) (s : State)
    → IsSoundControls setup s.controls → outcome setup s (steps.Poll o m wall) ≡ Ok r → Before setup past s
    → StepTied setup past (steps.Poll o m wall) r s (after setup s (steps.Poll o m wall))
poll setup past o m wall r s sound e tied =
    let step : Step = steps.Poll o m wall in
    let told = answered (fault_of s step) (can_be_counted s (needs setup s step)) (reply_to setup s step) r e in
    let up = who_is_up (λ (x : Master). x.up) NoOutstation (slice_get s.outstations o) told.0 in
    let asks : Master → Reply = λ x. reply_asking (request_polled (order_due s o) (latest s m) wall x) in
    let reply : asks up.0 ≡ r = sym (ap (outstation_reply asks) up.1) ∙ told.2 in
    subst (λ (x : Reply). StepTied setup past step x s (after setup s step)) reply
    (poll_taken setup past o m wall s up.0 sound up.1 up.2 tied)

-- ---- Fragment

abbrev pub story_with : Bool → Setup → List Entry → Fragment → Story
story_with end setup past f = record (story setup past) {
  marks = λ n. option_to_list (mark_answered n past (when end (f.outstation, f.octets))) ++ marks n past;
}

pub story_of_end : (end : Bool) (setup : Setup) (past : List Entry) (f : Fragment)
    → story_ended end f.outstation f.octets (story setup past) ≡ story_with end setup past f
story_of_end true setup past f = refl
story_of_end false setup past f = refl

ended_executes : (end : Bool) (o : ℕ) (octets : List ℕ) (t : Story) → (story_ended end o octets t).executes ≡ t.executes
ended_executes true o octets t = refl
ended_executes false o octets t = refl

-- the story, the orders and what was told after a fragment that an outstation accepts
taken_goes : (t : Story) (s : State) (f : Fragment) (moment : ℕ) (x : Master)
    → slice_get s.outstations f.outstation ≡ Some x
    → Answers t (story_ended (is_end (replies.Verdict (verdict_of x f))) f.outstation f.octets t) f.outstation
    (master_after_fragment moment f x) (ended_in (verdict_of x f)) (slice_get s.controls.outgoing f.outstation)
    → Tied t s.outstations s.controls
    → Leads t (story_ended (is_end (replies.Verdict (verdict_of x f))) f.outstation f.octets t)
    (change f.outstation (master_after_fragment moment f) s.outstations) s.controls
    (controls_with_ended f.outstation (ended_in (verdict_of x f)) s.controls)
    (option_to_list (outcome_ended f.outstation (ended_in (verdict_of x f)) s.controls))
taken_goes t s f moment x at k tied =
    let o : ℕ = f.outstation in
    let end : Bool = is_end (replies.Verdict (verdict_of x f)) in
    let e : Option Ended = ended_in (verdict_of x f) in
    let new : Story = story_ended end o f.octets t in
    let v : Controls = controls_with_ended o e s.controls in
    let told : List Outcome = option_to_list (outcome_ended o e s.controls) in
    record {
      tied = moved t new s.outstations (change o (master_after_fragment moment f) s.outstations) s.controls v o
          (ended_count o e s.controls
          ∙ (tied.count ∙ sym (ap (λ (xs : List _). length xs) (ended_executes end o f.octets t))))
          (one_changed o (master_after_fragment moment f) s.outstations) (ended_there o e s.controls)
          (rw (change-here o (master_after_fragment moment f) s.outstations, at, ended_here o e s.controls) k.moves)
          tied;
      told = λ xs j. told_ending new s.controls.outgoing v.outgoing told xs (order_ends new o e s.controls k.tells)
          (told_moved t new s.controls.outgoing o xs (ended_executes end o f.octets t) k.moves.kept j);
    }

fragment_taken : (setup : Setup) (past : List Entry) (f : Fragment) (m : ℕ) (s : State) (x : Master)
    → IsSoundControls setup s.controls → slice_get s.outstations f.outstation ≡ Some x → x.up ≡ true
    → accepts x f ≡ true → Before setup past s
    → StepTied setup past (steps.Fragment f m) (replies.Verdict (verdict_of x f)) s
    (after setup s (steps.Fragment f m))
fragment_taken setup past f m s x sound at up takes tied =
    let o : ℕ = f.outstation in
    let t : Story = story setup past in
    let end : Bool = is_end (replies.Verdict (verdict_of x f)) in
    let q : Option Outgoing = slice_get s.controls.outgoing o in
    let accepting : is_accepting s f ≡ true = rw at takes in
    let ending : order_ended s f ≡ ended_in (verdict_of x f) = ap (ended_by_fragment f) at in
    let outcomes : outcomes_of s (steps.Fragment f m)
    ≡ option_to_list (outcome_ended o (ended_in (verdict_of x f)) s.controls) = rw (accepting, ending) refl in
    let k = taken_goes t s f (latest s m) x at
    (judged t o (latest s m) s.controls.ordered f x q up
    (in_order_at s.controls.ordered s.controls.outgoing o sound.orders)
    (subst (λ (y : Option Master). Holds t o y q) at (tied.places o)) takes) tied in
    rw (accepting, ending) (record {
      tied = rw (sym (story_of_end end setup past f)) k.tied;
      bound = tt;
      told = rw (sym (story_of_end end setup past f), outcomes) k.told;
    })

pub no_end : (v : Verdict) → is_acceptance v ≡ false → is_end (replies.Verdict v) ≡ false
no_end (Accepted confirm end control) left = absurd (let none : ⊥ = cc in none)
no_end (Repeated confirm) left = refl
no_end (Ignored why) left = refl

fragment_left : (setup : Setup) (past : List Entry) (f : Fragment) (m : ℕ) (s : State) (x : Master)
    → slice_get s.outstations f.outstation ≡ Some x → accepts x f ≡ false → Before setup past s
    → StepTied setup past (steps.Fragment f m) (replies.Verdict (verdict_of x f)) s
    (after setup s (steps.Fragment f m))
fragment_left setup past f m s x at left tied =
    let accepting : is_accepting s f ≡ false = rw at left in
    let outcomes : outcomes_of s (steps.Fragment f m) ≡ [] = rw accepting refl in
    rw accepting (record {
      tied = rw (no_end (verdict_of x f) left) tied;
      bound = tt;
      told = rw (no_end (verdict_of x f) left, outcomes) (λ xs k. k);
    })

fragment : (setup : Setup) (past : List Entry) (f : Fragment) (m : ℕ) (r : Reply) (s : State)
    → IsSoundControls setup s.controls → outcome setup s (steps.Fragment f m) ≡ Ok r → Before setup past s
    → StepTied setup past (steps.Fragment f m) r s (after setup s (steps.Fragment f m))
fragment setup past f m r s sound e tied =
    let step : Step = steps.Fragment f m in
    let told = answered (fault_of s step) (can_be_counted s (needs setup s step)) (reply_to setup s step) r e in
    let up = who_is_up (λ (x : Master). x.up) NoOutstation (slice_get s.outstations f.outstation) told.0 in
    let reply : replies.Verdict (verdict_of up.0 f) ≡ r =
    sym (ap (outstation_reply (λ (x : Master). replies.Verdict (verdict_of x f))) up.1) ∙ told.2 in
    subst (λ (x : Reply). StepTied setup past step x s (after setup s step)) reply
    (elim (cases_Bool (accepts up.0 f)) [
      | inl takes ↦ fragment_taken setup past f m s up.0 sound up.1 up.2 takes tied
      | inr left ↦ fragment_left setup past f m s up.0 up.1 left tied
    ])

-- ---- Tick

tick : (setup : Setup) (past : List Entry) (m : ℕ) (r : Reply) (s : State) → Before setup past s
    → StepTied setup past (steps.Tick m) r s (after setup s (steps.Tick m))
tick setup past m r s tied =
    let t : Story = story setup past in
    let moment : ℕ = latest s m in
    let timed_out : List Bool = map (is_timed_out moment) s.clients in
    let closed : Tied t s.outstations (controls_closed s moment) =
    tied_closes t s.outstations 0 timed_out s.controls tied in
    record {
      tied = tied_late t s.outstations moment (controls_closed s moment) closed;
      bound = tt;
      told = λ xs k. told_ending t (controls_closed s moment).outgoing
          (after setup s (steps.Tick m)).controls.outgoing (outcomes_of_tick s moment) xs
          (late_end t s.outstations moment (controls_closed s moment) closed)
          (told_fewer t s.controls.outgoing (controls_closed s moment).outgoing xs
          (λ n. closes_fewer n 0 timed_out s.controls) k);
    }

-- ---- all steps

pub step_tied : (setup : Setup) (past : List Entry) (step : Step) (r : Reply)
    → AllByRecursion HasShortIndex setup.controls → IsSoundControls setup (state_after setup past).controls
    → outcome setup (state_after setup past) step ≡ Ok r → Before setup past (state_after setup past)
    → StepTied setup past step r (state_after setup past) (after setup (state_after setup past) step)
step_tied setup past (steps.OutstationUp o m) r short sound e tied =
    outstation_up setup past o m r (state_after setup past) e tied
step_tied setup past (steps.OutstationDown o m) r short sound e tied =
    outstation_down setup past o m r (state_after setup past) e tied
step_tied setup past (steps.Fragment f m) r short sound e tied =
    fragment setup past f m r (state_after setup past) sound e tied
step_tied setup past (steps.Poll o m wall) r short sound e tied =
    poll setup past o m wall r (state_after setup past) sound e tied
step_tied setup past (steps.ClientUp c m) r short sound e tied = record { tied = tied; bound = tt; told = λ xs k. k }
step_tied setup past (steps.ClientDown c m) r short sound e tied =
    let t : Story = story setup past in
    let v : Controls = (state_after setup past).controls in
    record {
      tied = tied_end t (state_after setup past).outstations v c tied;
      bound = tt;
      told = λ xs k. told_fewer t v.outgoing (controls_after_end c v).outgoing xs (λ n. end_fewer n c v) k;
    }
step_tied setup past (steps.Frame c apdu m) r short sound e tied =
    let s : State = state_after setup past in
    let k = frame_tied setup (story setup past) s (latest s m) c apdu (slice_get s.clients c) short tied in
    record { tied = k.tied; bound = tt; told = k.told }
step_tied setup past (steps.Pump c m) r short sound e tied = record { tied = tied; bound = tt; told = λ xs k. k }
step_tied setup past (steps.Tick m) r short sound e tied = tick setup past m r (state_after setup past) tied
