-- Which order a fragment or a tick ends, by the marks that it leaves.
use Rattle.std.proofs.Common.{◌≡◌, ℕ, ◌<◌, Bool, true, false, cond, not, ◌&&◌, List, [], ◌∷◌}
use Rattle.std.proofs.Common.{◌++◌, Option, Some, None, option_map, refl, sym, ap, subst, ◌∙◌}
use Rattle.std.specs.Prelude.{◌==◌, is_none}
use Rattle.std.specs.Option.{option_to_list}
use Rattle.std.proofs.lemmas.Bool.{eq-eqb}
use Rattle.gw_model.specs.First.{when}
use Rattle.gw_model.specs.declared.control.Ended.{Ended}
use Rattle.gw_model.specs.declared.control.Order.{Order}
use Rattle.gw_model.specs.declared.poll.Poll.{Poll}
use Rattle.gw_map.specs.Settings.{Setup}
use Rattle.gw_picture.proofs.Lists.{some_is}
use Rattle.dnp_app.specs.declared.operation.Operation.{Operation}
use Rattle.dnp_app.specs.declared.operation.Operation.TheVariants.{Select, Operate, DirectOperate}
use Rattle.dnp_app.specs.Control.{confirm_of}
use Rattle.dnp_app.specs.Operating.{Operating, operating_of}
use Rattle.dnp_app.specs.Requests.{octets_of}
use Rattle.dnp_app.specs.Response.{Fragment, is_unsolicited}
use Rattle.dnp_master.specs.declared.exchange.Awaited.{Awaited}
use Rattle.dnp_master.specs.declared.exchange.Exchange.{Exchange}
use Rattle.dnp_master.specs.declared.exchange.Exchange.TheVariants.{Idle, Waiting, Selected}
use Rattle.dnp_master.specs.declared.task.Task.{Task}
use Rattle.dnp_master.specs.declared.task.Task.TheVariants.{ClearRestart, WriteTime, RecordTime, Disable}
use Rattle.dnp_master.specs.declared.task.Task.TheVariants.{Integrity, Enable, EventPoll, Command}
use Rattle.dnp_master.specs.declared.verdict.Verdict.{Verdict}
use Rattle.dnp_master.specs.declared.verdict.Verdict.TheVariants.{Accepted, Repeated, Ignored}
use Rattle.dnp_master.specs.declared.verdict.Ignored.TheVariants.{WrongSequence, WrongFirst}
use Rattle.dnp_master.specs.Master.{Master, ended, ended_by_tick, ended_late, is_late, order_of, task_request}
use Rattle.dnp_master.specs.Fragments.{control_in, ended_answered, is_begun_rightly, is_done, is_last}
use Rattle.dnp_master.specs.Fragments.{verdict_of, verdict_of_answer, verdict_of_unsolicited}
use Rattle.gw_control.specs.declared.accepted.UnderWay.{UnderWay}
use Rattle.gw_steps.specs.declared.step.Reply.TheVariants as replies
use Rattle.gw_steps.specs.Controls.{ended_in}
use Rattle.gw_steps.specs.Runs.{Entry}
use Rattle.law_history.specs.Accepted.{AskedRequest, asked_of, poll_at}
use Rattle.law_history.proofs.Masters.{AwaitsAs}
use Rattle.law_orders.specs.Marks.{Mark, Asked, Answered, is_end, last_request, mark_answered, marks, took}
use Rattle.law_orders.specs.Executes.{Execute}
use Rattle.law_orders.proofs.Asks.{reads_again, reads_operation}
use Rattle.law_orders.proofs.Story.{AskedBy, Awaits, ForTask, GoesOn, IsOrder, Story, asking, story}
use Rattle.law_orders.specs.Pending.{awaits, is_final, is_late_at, is_select}
use Rattle.law_orders.proofs.Overs.{names_way}
use Rattle.law_orders.proofs.Shapes.{is_waiting, way_shape}

-- ---- an answer

-- the marks of an order after a fragment with this verdict
abbrev pub marks_judged : ℕ → List Entry → Fragment → Verdict → List Mark
marks_judged n past f v =
    option_to_list (mark_answered n past (when (is_end (replies.Verdict v)) (f.outstation, f.octets))) ++ marks n past

newest : (o n : ℕ) (operation : Operation) (order : Order) (ms : List Mark) → AskedBy o operation order n ms
    → (before : List Mark) × (ms ≡ Asked o (asking operation order n) ∷ before)
newest o n Select order ms k = ([], k.1)
newest o n DirectOperate order ms k = ([], k.1)
newest o n Operate order ms k = (k.0, k.2)

not_done : (done : Bool) → not (done && false) ≡ true
not_done true = refl
not_done false = refl

-- an order that ended isn't a SELECT that was taken
ended_final : (operation : Operation) (order : Order) (done : Bool) (e : Ended)
    → ended_answered (Command operation order) done ≡ Some e → not (done && is_select (Some operation)) ≡ true
ended_final Select order true e is = absurd (let no : ⊥ = cc in no)
ended_final Select order false e is = refl
ended_final Operate order done e is = not_done done
ended_final DirectOperate order done e is = not_done done

command_final : (xs : List Execute) (o n : ℕ) (f : Fragment) (operation : Operation) (order : Order) (e : Ended)
    (ms : List Mark) → IsOrder xs o order → n < 16 → AskedBy o operation order n ms
    → ended_answered (Command operation order) (is_done (Command operation order) f) ≡ Some e
    → is_final (Answered (took (operating_of (octets_of (asking operation order n))) f.octets) ∷ ms) ≡ true
command_final xs o n f operation order e ms is small asked ends =
    let last = newest o n operation order ms asked in
    let done : took (operating_of (octets_of (asking operation order n))) f.octets
    ≡ is_done (Command operation order) f =
    ap (λ (x : Option Operating). took x f.octets) (reads_again xs o order operation n is small) in
    rw (last.1, done, reads_operation xs o order operation n is small)
    (ended_final operation order (is_done (Command operation order) f) e ends)

answered_marks : (past : List Entry) (o n : ℕ) (octets : List ℕ) (operation : Operation) (order : Order)
    → last_request o past ≡ Some (asking operation order n)
    → option_to_list (mark_answered order.number past (Some (o, octets))) ++ marks order.number past
    ≡ Answered (took (operating_of (octets_of (asking operation order n))) octets) ∷ marks order.number past
answered_marks past o n octets operation order last = rw (last, eq-eqb order.number order.number refl) refl

-- which order it is
number_of : (operation : Operation) (order : Order) (done : Bool) (e : Ended)
    → ended_answered (Command operation order) done ≡ Some e → order.number ≡ e.number
number_of Select order true e is = absurd (let no : ⊥ = cc in no)
number_of Select order false e is = ap (λ (x : Ended). x.number) (some_is (ended false order) e is)
number_of Operate order done e is = ap (λ (x : Ended). x.number) (some_is (ended done order) e is)
number_of DirectOperate order done e is = ap (λ (x : Ended). x.number) (some_is (ended done order) e is)

task_final : (setup : Setup) (past : List Entry) (o n : ℕ) (f : Fragment) (task : Task) (found : Option UnderWay)
    (e : Ended) (number : ℕ) → n < 16 → last_request o past ≡ Some (task_request task n)
    → ForTask (story setup past) o n task found → ended_answered task (is_done task f) ≡ Some e → number ≡ e.number
    → is_final (option_to_list (mark_answered number past (Some (o, f.octets))) ++ marks number past) ≡ true
task_final setup past o n f (Command operation order) found e number small last k ends same =
    let there : order.number ≡ number =
    number_of operation order (is_done (Command operation order) f) e ends ∙ sym same in
    subst (λ (i : ℕ). is_final (option_to_list (mark_answered i past (Some (o, f.octets))) ++ marks i past) ≡ true)
    there
    (ap is_final (answered_marks past o n f.octets operation order last)
    ∙ command_final (story setup past).executes o n f operation order e (marks order.number past) k.0.order_is small k.1
    ends)
task_final setup past o n f ClearRestart found e number small last k ends same = absurd (let no : ⊥ = cc in no)
task_final setup past o n f (WriteTime time) found e number small last k ends same = absurd (let no : ⊥ = cc in no)
task_final setup past o n f (RecordTime wall) found e number small last k ends same = absurd (let no : ⊥ = cc in no)
task_final setup past o n f Disable found e number small last k ends same = absurd (let no : ⊥ = cc in no)
task_final setup past o n f Integrity found e number small last k ends same = absurd (let no : ⊥ = cc in no)
task_final setup past o n f Enable found e number small last k ends same = absurd (let no : ⊥ = cc in no)
task_final setup past o n f EventPoll found e number small last k ends same = absurd (let no : ⊥ = cc in no)

abbrev verdict_by : Fragment → Awaited → Bool → Bool → Bool → Verdict
verdict_by f w in_sequence rightly fin =
    cond in_sequence
    (cond rightly (Accepted (confirm_of f.octets) fin (cond fin (ended_answered w.task (is_done w.task f)) None))
    (Ignored WrongFirst)) (Ignored WrongSequence)

waiting_final : (setup : Setup) (past : List Entry) (f : Fragment) (w : Awaited) (found : Option UnderWay) (e : Ended)
    (number : ℕ) → Awaits (story setup past) f.outstation w.task found → number ≡ e.number
    → (in_sequence rightly fin : Bool) → ended_in (verdict_by f w in_sequence rightly fin) ≡ Some e
    → is_final (marks_judged number past f (verdict_by f w in_sequence rightly fin)) ≡ true
waiting_final setup past f w found e number k same true true true ends =
    task_final setup past f.outstation k.sequence f w.task found e number k.small k.last k.sent ends same
waiting_final setup past f w found e number k same true true false ends = absurd (let no : ⊥ = cc in no)
waiting_final setup past f w found e number k same true false fin ends = absurd (let no : ⊥ = cc in no)
waiting_final setup past f w found e number k same false rightly fin ends = absurd (let no : ⊥ = cc in no)

answer_final : (setup : Setup) (past : List Entry) (f : Fragment) (ex : Exchange) (found : Option UnderWay) (e : Ended)
    (number : ℕ) → GoesOn (story setup past) f.outstation ex found → number ≡ e.number
    → ended_in (verdict_of_answer ex f) ≡ Some e
    → is_final (marks_judged number past f (verdict_of_answer ex f)) ≡ true
answer_final setup past f Idle found e number k same ends = absurd (let no : ⊥ = cc in no)
answer_final setup past f (Selected order) found e number k same ends = absurd (let no : ⊥ = cc in no)
answer_final setup past f (Waiting w) found e number k same ends =
    waiting_final setup past f w found e number k same ((control_in f).sequence == w.expected)
    (is_begun_rightly w.begun (control_in f).fir) (control_in f).fin ends

unsolicited_ends_none : (f : Fragment) (e : Ended) (repeated : Bool)
    → ended_in (cond repeated (Repeated (confirm_of f.octets)) (Accepted (confirm_of f.octets) false None)) ≡ Some e → ⊥
unsolicited_ends_none f e true ends = let no : ⊥ = cc in no
unsolicited_ends_none f e false ends = let no : ⊥ = cc in no

-- an order that ends with a fragment is over by its marks
pub fragment_final : (setup : Setup) (past : List Entry) (f : Fragment) (m : Master) (found : Option UnderWay)
    (e : Ended) (number : ℕ) → GoesOn (story setup past) f.outstation m.exchange found → number ≡ e.number
    → ended_in (verdict_of m f) ≡ Some e → is_final (marks_judged number past f (verdict_of m f)) ≡ true
fragment_final setup past f m found e number k same ends = by (is_unsolicited f) ends
  where
    by : (unsolicited : Bool)
        → ended_in (cond unsolicited (verdict_of_unsolicited m.last f.octets) (verdict_of_answer m.exchange f)) ≡ Some e
        → is_final (marks_judged number past f
        (cond unsolicited (verdict_of_unsolicited m.last f.octets) (verdict_of_answer m.exchange f))) ≡ true
    by true judged = absurd (unsolicited_ends_none f e (is_last m.last f.octets) judged)
    by false judged = answer_final setup past f m.exchange found e number k same judged

-- ---- a tick

late_task : (t : Story) (o n : ℕ) (task : Task) (found : Option UnderWay) (u : UnderWay) → ForTask t o n task found
    → found ≡ Some u → names_way (option_map (ended false) (order_of task)) u ≡ true
late_task t o n (Command operation order) found u k at =
    let way : k.0.way ≡ u = some_is k.0.way u (sym k.0.is ∙ at) in
    eq-eqb u.accepted.order.number order.number
    (ap (λ (x : UnderWay). x.accepted.order.number) (sym way) ∙ ap (λ (x : Order). x.number) k.0.same)
late_task t o n ClearRestart found u k at = absurd (let both : None ≡ Some u = sym k ∙ at in let no : ⊥ = cc in no)
late_task t o n (WriteTime time) found u k at = absurd (let both : None ≡ Some u = sym k ∙ at in let no : ⊥ = cc in no)
late_task t o n (RecordTime wall) found u k at =
    absurd (let both : None ≡ Some u = sym k ∙ at in let no : ⊥ = cc in no)
late_task t o n Disable found u k at = absurd (let both : None ≡ Some u = sym k ∙ at in let no : ⊥ = cc in no)
late_task t o n Integrity found u k at = absurd (let both : None ≡ Some u = sym k ∙ at in let no : ⊥ = cc in no)
late_task t o n Enable found u k at = absurd (let both : None ≡ Some u = sym k ∙ at in let no : ⊥ = cc in no)
late_task t o n EventPoll found u k at = absurd (let both : None ≡ Some u = sym k ∙ at in let no : ⊥ = cc in no)

-- whether a request is late, as the history tells it
late_by : (setup : Setup) (o moment : ℕ) (past : List Entry) (poll : Poll) (w : Awaited) (asked : Option AskedRequest)
    → poll_at setup o ≡ Some poll → AwaitsAs (Waiting w) asked → asked_of setup o past ≡ asked
    → is_late_at setup o past moment ≡ is_late moment poll w.since
late_by setup o moment past poll w None polled k is = absurd k
late_by setup o moment past poll w (Some a) polled k is =
    rw (is, polled) (by (is_late moment poll a.since) ∙ ap (is_late moment poll) (sym k.since))
  where
    by : (late : Bool) → is_none (cond late None (Some a)) ≡ late
    by true = refl
    by false = refl

late_way : (setup : Setup) (past : List Entry) (o moment : ℕ) (w : Awaited) (poll : Poll) (found : Option UnderWay)
    (u : UnderWay) (ms : List Mark) → Awaits (story setup past) o w.task found → found ≡ Some u → awaits ms ≡ true
    → is_late_at setup o past moment ≡ is_late moment poll w.since
    → is_late_at setup o past moment && awaits ms ≡ names_way (ended_late moment poll (Waiting w)) u
late_way setup past o moment w poll found u ms k at waits same = rw (same, waits) (by (is_late moment poll w.since))
  where
    by : (late : Bool) → late && true ≡ names_way (cond late (option_map (ended false) (order_of w.task)) None) u
    by true = sym (late_task (story setup past) o k.sequence w.task found u k.sent at)
    by false = refl

not_both : (b : Bool) → b && false ≡ false
not_both true = refl
not_both false = refl

-- the order under way ends at a tick where its request awaits an answer, and that is late
pub tick_ends : (setup : Setup) (past : List Entry) (o moment : ℕ) (m : Master) (found : Option UnderWay) (u : UnderWay)
    → GoesOn (story setup past) o m.exchange found → found ≡ Some u → poll_at setup o ≡ Some m.poll
    → AwaitsAs m.exchange (asked_of setup o past)
    → is_late_at setup o past moment && awaits (marks u.accepted.order.number past)
    ≡ names_way (ended_by_tick moment m) u
tick_ends setup past o moment m found u going at polled told =
    by m.exchange going told (way_shape (story setup past) o m.exchange found u going at).awaits
  where
    by : (ex : Exchange) → GoesOn (story setup past) o ex found → AwaitsAs ex (asked_of setup o past)
        → awaits (marks u.accepted.order.number past) ≡ is_waiting ex
        → is_late_at setup o past moment && awaits (marks u.accepted.order.number past)
        ≡ names_way (ended_late moment m.poll ex) u
    by Idle k is waits = rw waits (not_both (is_late_at setup o past moment))
    by (Waiting w) k is waits =
        late_way setup past o moment w m.poll found u (marks u.accepted.order.number past) k at waits
        (late_by setup o moment past m.poll w (asked_of setup o past) polled is refl)
    by (Selected order) k is waits = rw waits (not_both (is_late_at setup o past moment))
