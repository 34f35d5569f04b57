-- At each point of a run: what the last reply says of an order that ended with a fragment is the fate that was told.
use Rattle.std.proofs.Common.{◌≡◌, ℕ, Bool, true, false, cond, List, [], ◌∷◌, map}
use Rattle.std.proofs.Common.{Option, Some, None, Result, Ok, Err, refl, sym, ap, ◌∙◌}
use Rattle.std.specs.Prelude.{◌==◌, option_and_then, slice_get}
use Rattle.std.specs.List.{AllByRecursion}
use Rattle.std.specs.Option.{option_to_list}
use Rattle.std.proofs.lemmas.Bool.{eq-eqb, eqb-true}
use Rattle.gw_model.specs.First.{when}
use Rattle.gw_model.specs.declared.control.Ended.{Ended}
use Rattle.gw_model.specs.declared.control.Order.{Order}
use Rattle.gw_map.specs.Settings.{Setup}
use Rattle.dnp_app.specs.Control.{confirm_of}
use Rattle.dnp_app.specs.Response.{Fragment, is_unsolicited}
use Rattle.dnp_app.specs.declared.operation.Operation.TheVariants.{Select, Operate, DirectOperate}
use Rattle.dnp_master.specs.declared.exchange.Exchange.{Exchange}
use Rattle.dnp_master.specs.declared.exchange.Exchange.TheVariants.{Idle, Waiting, Selected}
use Rattle.dnp_master.specs.declared.task.Task.{Task}
use Rattle.dnp_master.specs.declared.task.Task.TheVariants.{Command}
use Rattle.dnp_master.specs.declared.verdict.Verdict.{Verdict}
use Rattle.dnp_master.specs.declared.verdict.Verdict.TheVariants.{Accepted, Repeated, Ignored}
use Rattle.dnp_master.specs.declared.verdict.Ignored.TheVariants.{WrongFirst, WrongSequence}
use Rattle.dnp_master.specs.Fragments.{control_in, ended_answered, is_acceptance, is_begun_rightly}
use Rattle.dnp_master.specs.Fragments.{is_done as is_task_done, is_last, verdict_of, verdict_of_answer}
use Rattle.dnp_master.specs.Master.{Master, ended}
use Rattle.gw_control.specs.declared.accepted.UnderWay.{UnderWay}
use Rattle.gw_control.specs.Orders.{Outgoing, is_named}
use Rattle.dnp_master.specs.declared.fate.Fate.{Fate}
use Rattle.gw_steps.specs.declared.step.Step.{Step}
use Rattle.gw_steps.specs.declared.step.Step.TheVariants as steps
use Rattle.gw_steps.specs.declared.step.Reply.{Reply}
use Rattle.gw_steps.specs.declared.step.Reply.TheVariants as replies
use Rattle.gw_steps.specs.declared.step.StepFault.{StepFault}
use Rattle.gw_steps.specs.Controls.{ended_by_fragment, ended_in}
use Rattle.gw_steps.specs.Effects.{answered, effects_of, end_at, end_of, fate_by, no_effects, order_end, reported}
use Rattle.gw_steps.specs.State.{State}
use Rattle.gw_steps.specs.Steps.{Allowed, accepted_by, can_be_counted, fault_of, is_accepting, needs, outstation_reply, reply_to}
use Rattle.gw_steps.specs.Runs.{AtEach, Entry, IsRun, state_after}
use Rattle.gw_steps.proofs.Inversion.{answered as was_answered}
use Rattle.gw_steps.proofs.Running.{entry, last_place}
use Rattle.gw_steps.specs.Premises.{IsSoundRun}
use Rattle.law_orders.specs.Bonds.{HasShortIndex}
use Rattle.law_orders.proofs.Bonded.{Place, places}
use Rattle.law_orders.proofs.Held.{under_way_at}
use Rattle.law_orders.proofs.Story.{ForTask, GoesOn, Sends, Story, exchange_at, story}
use Rattle.law_fates.specs.Told.{is_done}
use Rattle.law_fates.proofs.Says.{Says, fragment_says}
use Rattle.law_effects.specs.Replies.{RepliesFate, SaysFate, SaysFateOf, ended_by_fate, ended_by_reply}

-- ---- the order that ends is the one under way

record IsWay (e : Ended) (under_way : Option UnderWay) : Type 0 where
  way : UnderWay
  is : under_way ≡ Some way
  named : is_named e way ≡ true

abbrev EndsWay : Option Ended → Option UnderWay → Type 0
EndsWay None u = Unit {0}
EndsWay (Some e) u = IsWay e u

sent_way : (t : Story) (o : ℕ) (order : Order) (u : Option UnderWay) (done : Bool) → Sends t o order u
    → IsWay (ended done order) u
sent_way t o order u done k = record {
  way = k.way;
  is = k.is;
  named = eq-eqb k.way.accepted.order.number order.number (ap (λ (x : Order). x.number) k.same);
}

task_way : (t : Story) (o n : ℕ) (task : Task) (u : Option UnderWay) (done : Bool) → ForTask t o n task u
    → EndsWay (ended_answered task done) u
task_way t o n (Command Select order) u true k = tt
task_way t o n (Command Select order) u false k = sent_way t o order u false k.0
task_way t o n (Command Operate order) u done k = sent_way t o order u done k.0
task_way t o n (Command DirectOperate order) u done k = sent_way t o order u done k.0
task_way t o n _ u done k = tt

answer_way : (t : Story) (o : ℕ) (f : Fragment) (ex : Exchange) (u : Option UnderWay) → GoesOn t o ex u
    → EndsWay (ended_in (verdict_of_answer ex f)) u
answer_way t o f Idle u k = tt
answer_way t o f (Waiting w) u k =
    by ((control_in f).sequence == w.expected) (is_begun_rightly w.begun (control_in f).fir) (control_in f).fin
  where
    by : (next begun fin : Bool)
        → EndsWay (ended_in (cond next (cond begun (Accepted (confirm_of f.octets) (control_in f).fin
        (cond fin (ended_answered w.task (is_task_done w.task f)) None)) (Ignored WrongFirst)) (Ignored WrongSequence))) u
    by true true true = task_way t o k.sequence w.task u (is_task_done w.task f) k.sent
    by true true false = tt
    by true false fin = tt
    by false begun fin = tt
answer_way t o f (Selected order) u k = tt

fragment_way : (t : Story) (f : Fragment) (m : Option Master) (q : Option Outgoing)
    → GoesOn t f.outstation (exchange_at m) (under_way_at q) → EndsWay (ended_by_fragment f m) (under_way_at q)
fragment_way t f None q k = tt
fragment_way t f (Some m) q k = by (is_unsolicited f) (is_last m.last f.octets)
  where
    by : (unsolicited last : Bool)
        → EndsWay (ended_in (cond unsolicited
        (cond last (Repeated (confirm_of f.octets)) (Accepted (confirm_of f.octets) false None))
        (verdict_of_answer m.exchange f))) (under_way_at q)
    by true true = tt
    by true false = tt
    by false last = answer_way t f.outstation f m.exchange (under_way_at q) k

-- ---- what is told of it

same_ended : (a b : Ended) → a.number ≡ b.number → a.done ≡ b.done → a ≡ b
same_ended a b number done =
    ap (λ (n : ℕ). record { number = n; done = a.done }) number
    ∙ ap (λ (d : Bool). record { number = b.number; done = d }) done

way_told : (o : ℕ) (fate : Fate) (e : Ended) (q : Option Outgoing) → is_done fate ≡ e.done → IsWay e (under_way_at q)
    → map ended_by_fate (end_at o (Some fate) (Some e) q) ≡ e ∷ []
way_told o fate e None done k = absurd (let none : None ≡ Some k.way = k.is in let no : ⊥ = cc in no)
way_told o fate e (Some q) done k =
    ap (λ (u : Option UnderWay). map ended_by_fate (option_to_list (end_of o fate e u))) k.is
    ∙ (ap (λ (named : Bool). map ended_by_fate (option_to_list (when named (order_end o fate k.way.accepted)))) k.named
    ∙ ap (λ (x : Ended). x ∷ [])
    (same_ended (ended_by_fate (order_end o fate k.way.accepted)) e
    (eqb-true k.way.accepted.order.number e.number k.named) done))

end_told : (o : ℕ) (fate : Option Fate) (e : Option Ended) (q : Option Outgoing) → Says fate e
    → EndsWay e (under_way_at q) → map ended_by_fate (end_at o fate e q) ≡ option_to_list e
end_told o None None q says k = refl
end_told o None (Some e) q says k = absurd says
end_told o (Some fate) None q says k = refl
end_told o (Some fate) (Some e) q says k = way_told o fate e q says.1 k

-- ---- what the reply says

reply_says : (f : Fragment) (m : Option Master)
    → ended_by_reply (outstation_reply (λ (x : Master). replies.Verdict (verdict_of x f)) m) ≡ ended_by_fragment f m
reply_says f None = refl
reply_says f (Some m) = refl

-- with a fragment that isn't accepted no order ends
none_refused : (v : Verdict) → is_acceptance v ≡ false → ended_in v ≡ None
none_refused (Accepted confirm end control) is = absurd (let no : ⊥ = cc in no)
none_refused (Repeated confirm) is = refl
none_refused (Ignored why) is = refl

none_ends : (f : Fragment) (m : Option Master) → accepted_by f m ≡ false → ended_by_fragment f m ≡ None
none_ends f None is = refl
none_ends f (Some m) is = none_refused (verdict_of m f) is

-- ---- each step

fragment_told : (setup : Setup) (past : List Entry) (f : Fragment) (m : ℕ) → Place setup past
    → map ended_by_fate (effects_of setup (state_after setup past) (steps.Fragment f m)).ended
    ≡ option_to_list (ended_by_fragment f (slice_get (state_after setup past).outstations f.outstation))
fragment_told setup past f m k = by (is_accepting s f) refl
  where
    s : State
    s = state_after setup past

    x : Option Master
    x = slice_get s.outstations f.outstation

    q : Option Outgoing
    q = slice_get s.controls.outgoing f.outstation

    by : (taken : Bool) → is_accepting s f ≡ taken
        → map ended_by_fate
        (cond taken (record no_effects { reported = Some (reported s f); ended = answered s f }) no_effects).ended
        ≡ option_to_list (ended_by_fragment f x)
    by true is =
        end_told f.outstation (option_and_then (fate_by f) x) (ended_by_fragment f x) q (fragment_says f x)
        (fragment_way (story setup past) f x q (k.tied.places f.outstation).going)
    by false is = sym (ap (λ (e : Option Ended). option_to_list e) (none_ends f x is))

entry_says : (setup : Setup) (past : List Entry) (f : Fragment) (m : ℕ) (reply : Result Reply StepFault)
    → Allowed setup (state_after setup past) (steps.Fragment f m) reply
    (state_after setup (entry (steps.Fragment f m) reply ∷ past))
    → Place setup past → SaysFate setup past (entry (steps.Fragment f m) reply)
entry_says setup past f m (Ok r) allowed k =
    let s : State = state_after setup past in
    let step : Step = steps.Fragment f m in
    let told = was_answered (fault_of s step) (can_be_counted s (needs setup s step)) (reply_to setup s step) r allowed.0 in
    fragment_told setup past f m k
    ∙ ap (λ (e : Option Ended). option_to_list e)
    (sym (reply_says f (slice_get s.outstations f.outstation)) ∙ ap ended_by_reply told.2)
entry_says setup past f m (Err fault) allowed k = refl

step_says : (setup : Setup) (past : List Entry) (step : Step) (reply : Result Reply StepFault)
    → Allowed setup (state_after setup past) step reply (state_after setup (entry step reply ∷ past))
    → Place setup past → SaysFateOf setup past (entry step reply) step
step_says setup past (steps.Fragment f m) reply allowed k = entry_says setup past f m reply allowed k
step_says setup past _ reply allowed k = tt

-- ---- each run

each : (setup : Setup) (past : List Entry) → IsRun setup past → AtEach (Place setup) past
    → AtEach (RepliesFate setup) past
each setup [] run at = tt
each setup (e ∷ past) run at = (
  step_says setup past e.step e.reply run.0 (last_place (Place setup) past at.1),
  each setup past run.1 at.1,
)

pub fates_replied : (setup : Setup) (past : List Entry) → IsSoundRun setup past
    → AllByRecursion HasShortIndex setup.controls → AtEach (RepliesFate setup) past
fates_replied setup past run short =
    each setup past run.run (places setup past (record { run = run.run; sound = run.sound; indices = short }))
