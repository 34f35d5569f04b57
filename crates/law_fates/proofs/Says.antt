-- The fate of an order says whether it was done as the end does that the controls are told of.
use Rattle.std.proofs.Common.{◌≡◌, ℕ, Bool, true, false, cond, ◌&&◌, Option, Some, None, option_map, refl}
use Rattle.std.specs.Prelude.{◌==◌, option_and_then}
use Rattle.std.specs.Str.{bytes_eq}
use Rattle.gw_model.specs.declared.control.Act.{Act}
use Rattle.gw_model.specs.declared.control.Ended.{Ended}
use Rattle.gw_model.specs.declared.control.Order.{Order}
use Rattle.dnp_app.specs.declared.echoed.Echo.{Echo}
use Rattle.dnp_app.specs.declared.operation.Operation.{Operation}
use Rattle.dnp_app.specs.declared.operation.Operation.TheVariants.{Select, Operate, DirectOperate}
use Rattle.dnp_app.specs.Control.{confirm_of}
use Rattle.dnp_app.specs.Echo.{echo_of, echo_taken, is_taken}
use Rattle.dnp_app.specs.Response.{Fragment, is_unsolicited}
use Rattle.dnp_master.specs.declared.answered.CommandAnswer.{CommandAnswer}
use Rattle.dnp_master.specs.declared.answered.Taken.{Taken}
use Rattle.dnp_master.specs.declared.answered.Taken.TheVariants as takens
use Rattle.dnp_master.specs.declared.exchange.Exchange.{Exchange}
use Rattle.dnp_master.specs.declared.exchange.Exchange.TheVariants.{Idle, Waiting, Selected}
use Rattle.dnp_master.specs.declared.task.Task.{Task}
use Rattle.dnp_master.specs.declared.task.Task.TheVariants.{Command}
use Rattle.dnp_master.specs.declared.verdict.Verdict.{Verdict}
use Rattle.dnp_master.specs.declared.verdict.Verdict.TheVariants.{Accepted, Repeated, Ignored}
use Rattle.dnp_master.specs.declared.verdict.Ignored.TheVariants.{WrongFirst, WrongSequence}
use Rattle.dnp_master.specs.Answers.{command_answer, operation_awaited, task_answer, task_operation, taken_by}
use Rattle.dnp_master.specs.Fragments.{control_in, ended_answered, ended_with, is_begun_rightly}
use Rattle.dnp_master.specs.Fragments.{is_done as is_task_done, is_last, verdict_of_answer, verdict_of_unsolicited}
use Rattle.dnp_master.specs.Master.{Master, ended, ended_by_tick, ended_late as late_of, is_late, order_of, order_taken}
use Rattle.dnp_master.specs.declared.fate.Fate.{Fate}
use Rattle.dnp_master.specs.declared.fate.Fate.TheVariants as fates
use Rattle.gw_steps.specs.Controls.{ended_by_fragment, ended_in, ended_lost}
use Rattle.gw_steps.specs.Effects.{fate_by, fate_taken}
use Rattle.law_fates.specs.Told.{is_done, is_let_go}

-- where an order ended, it has a fate, which says of it what the controls are told of its end
abbrev pub Says : Option Fate → Option Ended → Type 0
Says fate None = Unit {0}
Says None (Some e) = ⊥
Says (Some fate) (Some e) = (is_let_go fate ≡ false) × (is_done fate ≡ e.done)

-- ---- answers

stays : (operation : Operation) (taken : Taken) → is_let_go (fate_taken operation taken) ≡ false
stays operation takens.Done = refl
stays operation (takens.Refused status) = refl
stays operation takens.Otherwise = refl

-- done where the echo says that it was taken
done_so : (operation : Operation) (index : ℕ) (act : Act) (echo : Option Echo)
    → is_done (fate_taken operation (taken_by index act echo)) ≡ is_taken index act echo
done_so operation index act None = refl
done_so operation index act (Some e) =
    by (e.index == sent.index) (e.group == sent.group) (e.status == 0) (bytes_eq e.body sent.body)
  where
    sent : Echo
    sent = echo_taken index act

    by : (same grouped zero alike : Bool)
        → is_done (fate_taken operation
        (cond (same && grouped && true && alike) (cond zero takens.Done (takens.Refused e.status)) takens.Otherwise))
        ≡ (same && grouped && zero && alike)
    by true true true true = refl
    by true true true false = refl
    by true true false true = refl
    by true true false false = refl
    by true false zero alike = refl
    by false grouped zero alike = refl

answer_says : (operation : Operation) (taken : Taken) (order : Order) (done : Bool)
    → is_done (fate_taken operation taken) ≡ done
    → Says (Some (fate_taken operation taken)) (ended_answered (Command operation order) done)
answer_says Select taken order true is = tt
answer_says Select taken order false is = (stays Select taken, is)
answer_says Operate taken order done is = (stays Operate taken, is)
answer_says DirectOperate taken order done is = (stays DirectOperate taken, is)

-- ---- a fragment

task_says : (f : Fragment) (t : Task) (fin : Bool)
    → Says (option_map (λ (a : CommandAnswer). fate_taken a.operation a.taken) (task_answer t f))
    (cond fin (ended_answered t (is_task_done t f)) None)
task_says f (Command operation order) true =
    answer_says operation (taken_by order.intent.index order.intent.act (echo_of f.octets)) order
    (is_taken order.intent.index order.intent.act (echo_of f.octets))
    (done_so operation order.intent.index order.intent.act (echo_of f.octets))
task_says f t false = tt
task_says f _ true = tt

-- what a fragment says of the order whose answer is awaited
abbrev FragmentSays : Fragment → Exchange → Verdict → Type 0
FragmentSays f ex v =
    Says (option_map (λ (a : CommandAnswer). fate_taken a.operation a.taken) (command_answer ex f)) (ended_in v)

unsolicited_says : (f : Fragment) (m : Master) (last : Bool)
    → FragmentSays f m.exchange (cond last (Repeated (confirm_of f.octets)) (Accepted (confirm_of f.octets) false None))
unsolicited_says f m true = tt
unsolicited_says f m false = tt

answered_says : (f : Fragment) (ex : Exchange) → FragmentSays f ex (verdict_of_answer ex f)
answered_says f Idle = tt
answered_says f (Waiting w) =
    by ((control_in f).sequence == w.expected) (is_begun_rightly w.begun (control_in f).fir)
  where
    by : (next begun : Bool)
        → FragmentSays f (Waiting w) (cond next
        (cond begun (Accepted (confirm_of f.octets) (control_in f).fin (ended_with w.task f)) (Ignored WrongFirst))
        (Ignored WrongSequence))
    by true true = task_says f w.task (control_in f).fin
    by true false = tt
    by false begun = tt
answered_says f (Selected order) = tt

master_says : (f : Fragment) (m : Master) (unsolicited : Bool)
    → FragmentSays f m.exchange
    (cond unsolicited (verdict_of_unsolicited m.last f.octets) (verdict_of_answer m.exchange f))
master_says f m true = unsolicited_says f m (is_last m.last f.octets)
master_says f m false = answered_says f m.exchange

pub fragment_says : (f : Fragment) (m : Option Master) → Says (option_and_then (fate_by f) m) (ended_by_fragment f m)
fragment_says f None = tt
fragment_says f (Some m) = master_says f m (is_unsolicited f)

-- ---- a loss

order_lost : (order : Option Order) → Says (Some fates.Lost) (option_map (ended false) order)
order_lost None = tt
order_lost (Some order) = (refl, refl)

pub loss_says : (m : Option Master) → Says (Some fates.Lost) (ended_lost m)
loss_says None = tt
loss_says (Some m) = order_lost (order_taken m.exchange)

-- ---- a tick

pub tick_says : (moment : ℕ) (m : Master)
    → Says (option_map fates.Unanswered (operation_awaited m.exchange)) (ended_by_tick moment m)
tick_says moment m = by m.exchange
  where
    task : (late : Bool) (t : Task)
        → Says (option_map fates.Unanswered (task_operation t)) (cond late (option_map (ended false) (order_of t)) None)
    task true (Command operation order) = (refl, refl)
    task false t = tt
    task true _ = tt

    by : (ex : Exchange) → Says (option_map fates.Unanswered (operation_awaited ex)) (late_of moment m.poll ex)
    by Idle = tt
    by (Waiting w) = task (is_late moment m.poll w.since) w.task
    by (Selected order) = tt
