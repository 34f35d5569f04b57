-- What a poll gives is what is due by the history, and no other step gives a request.
use Rattle.std.proofs.Common.{◌≡◌, ℕ, ◌<◌, Bool, true, false, cond, not, ◌&&◌, List, [], ◌∷◌, map, Option}
use Rattle.std.proofs.Common.{Some, None, option_map, is_some, Result, Ok, Err, refl, sym, ap, subst, ◌∙◌}
use Rattle.std.specs.Prelude.{option_and_then, slice_get}
use Rattle.std.specs.List.{AllByRecursion, filter}
use Rattle.gw_model.specs.First.{first_of}
use Rattle.gw_model.specs.declared.control.Order.{Order}
use Rattle.gw_map.specs.Settings.{Setup, station_clocks}
use Rattle.gw_picture.proofs.Lists.{some_is}
use Rattle.dnp_app.specs.declared.operation.Operation.{Operation}
use Rattle.dnp_app.specs.declared.operation.Operation.TheVariants.{Select, Operate}
use Rattle.dnp_app.specs.declared.request.Request.{Request}
use Rattle.dnp_app.specs.Response.{Fragment}
use Rattle.dnp_master.specs.declared.exchange.Exchange.{Exchange}
use Rattle.dnp_master.specs.declared.exchange.Exchange.TheVariants.{Idle, Waiting, Selected}
use Rattle.dnp_master.specs.declared.task.Task.{Task}
use Rattle.dnp_master.specs.declared.task.Task.TheVariants.{Command}
use Rattle.dnp_master.specs.Fragments.{verdict_of}
use Rattle.dnp_master.specs.Master.{Master, first_task, is_idle, order_task, request_ordered, task_request, tasks_due}
use Rattle.gw_control.specs.declared.accepted.Accepted.{Accepted}
use Rattle.gw_control.specs.declared.accepted.UnderWay.{UnderWay}
use Rattle.gw_control.specs.Controls.{order_at}
use Rattle.gw_control.specs.Orders.{Outgoing}
use Rattle.gw_station.specs.declared.event.Event.{Event}
use Rattle.gw_station.specs.declared.event.Event.TheVariants as events
use Rattle.gw_station.specs.Client.{Client}
use Rattle.gw_station.specs.Frames.{event_of}
use Rattle.gw_station.specs.Pump.{given}
use Rattle.iec_apci.specs.Apdu.{ApduContent}
use Rattle.gw_steps.specs.declared.step.Step.{Step}
use Rattle.gw_steps.specs.declared.step.Step.TheVariants as steps
use Rattle.gw_steps.specs.declared.step.Reply.{Reply}
use Rattle.gw_steps.specs.declared.step.Reply.TheVariants as replies
use Rattle.gw_steps.specs.declared.step.StepFault.{StepFault}
use Rattle.gw_steps.specs.declared.step.StepFault.TheVariants.{NoOutstation}
use Rattle.gw_steps.specs.Controls.{order_due, order_for}
use Rattle.gw_steps.specs.State.{State}
use Rattle.gw_steps.specs.Steps.{Allowed, can_be_counted, client_reply, fault_of, latest, needs, outcome}
use Rattle.gw_steps.specs.Steps.{outstation_reply, reply_asking, reply_giving, reply_of_event, reply_to, request_polled}
use Rattle.gw_steps.specs.Runs.{Entry, state_after}
use Rattle.gw_steps.proofs.Inversion.{answered, who_is_up}
use Rattle.gw_steps.proofs.Running.{entry}
use Rattle.law_history.specs.Accepted.{AskedRequest, asked_of, poll_at}
use Rattle.law_history.proofs.Masters.{AwaitsAs, MasterIs, MasterTied, first_octet}
use Rattle.law_history.proofs.Tied.{Tied, told_moment}
use Rattle.law_orders.specs.Marks.{marks, request_of}
use Rattle.law_orders.proofs.Asks.{reads_operation}
use Rattle.law_orders.proofs.Held.{under_way_at, waiting_at}
use Rattle.law_orders.proofs.Story.{GoesOn, Holds, Sends, WasSelected, story}
use Rattle.law_orders.specs.Pending.{Pending, is_marked, is_select, pending}
use Rattle.law_orders.proofs.Rows.{row_under_way, row_waiting, rows, rows_in}
use Rattle.law_orders.proofs.Shapes.{all_unmarked}
use Rattle.law_orders.specs.Talk.{Turn, next_number, talk}
use Rattle.law_orders.specs.Requests.{Due, EntryGives, GivesDue, IsDue, OfOrder, StepGives}
use Rattle.law_orders.specs.Requests.{due_at, first_due, in_rank, is_selected, of_oldest}
use Rattle.law_orders.proofs.RequestTurns.{IsTold}
use Rattle.law_orders.proofs.RequestRanked.{Fits, first_fits}
use Rattle.law_orders.proofs.RequestSteps.{Told, ToldAt}

-- ---- orders that wait

abbrev is_unasked : List Entry → Pending → Bool
is_unasked past p = not (is_marked (marks p.number past))

abbrev was_selected : List Entry → Pending → Bool
was_selected past p = is_selected (marks p.number past)

-- of those for which nothing was asked, none is selected and all wait
none_selected : (past : List Entry) (xs : List Accepted) → AllByRecursion (λ x. marks x.order.number past ≡ []) xs
    → filter (was_selected past) (map row_waiting xs) ≡ []
none_selected past [] all = refl
none_selected past (x ∷ xs) all = rw all.0 (none_selected past xs all.1)

all_unasked : (past : List Entry) (xs : List Accepted) → AllByRecursion (λ x. marks x.order.number past ≡ []) xs
    → filter (is_unasked past) (map row_waiting xs) ≡ map row_waiting xs
all_unasked past [] all = refl
all_unasked past (x ∷ xs) all =
    rw all.0 (ap (λ (ps : List Pending). row_waiting x ∷ ps) (all_unasked past xs all.1))

-- ---- what is due, by what is known of orders

abbrev ranked_behind : List Pending → List Pending → List (Option Due) → Option Due
ranked_behind chosen waits others = first_of (of_oldest chosen ∷ of_oldest waits ∷ others)

-- nothing awaits its answer, and these orders are pending
due_idle : (setup : Setup) (o : ℕ) (past : List Entry) (moment : ℕ) (x : Master) (ps : List Pending)
    → asked_of setup o past ≡ None → poll_at setup o ≡ Some x.poll → ps ≡ pending setup o past
    → due_at setup o past moment
    ≡ ranked_behind (filter (was_selected past) ps) (filter (is_unasked past) ps)
    (in_rank x.poll moment (talk setup o past))
due_idle setup o past moment x ps none poll same =
    ap (λ (a : Option AskedRequest). cond (is_some a) None
    (option_and_then (first_due setup o past moment) (poll_at setup o))) none
    ∙ (ap (option_and_then (first_due setup o past moment)) poll
    ∙ ap (λ (qs : List Pending). ranked_behind (filter (was_selected past) qs) (filter (is_unasked past) qs)
    (in_rank x.poll moment (talk setup o past))) (sym same))

due_awaiting : (setup : Setup) (o : ℕ) (past : List Entry) (moment : ℕ) (a : AskedRequest)
    → asked_of setup o past ≡ Some a → due_at setup o past moment ≡ None
due_awaiting setup o past moment a is =
    ap (λ (x : Option AskedRequest). cond (is_some x) None
    (option_and_then (first_due setup o past moment) (poll_at setup o))) is

nothing_asked : (ex : Exchange) (asked : Option AskedRequest) → AwaitsAs ex asked → is_idle ex ≡ true → asked ≡ None
nothing_asked Idle None alike idle = refl
nothing_asked Idle (Some a) alike idle = absurd alike
nothing_asked (Waiting w) asked alike idle = absurd (let no : ⊥ = cc in no)
nothing_asked (Selected order) asked alike idle = absurd (let no : ⊥ = cc in no)

-- ---- what is given

given_as : (number so : ℕ) (due same : Option Due) (reply is : Reply) → number ≡ so → due ≡ same → reply ≡ is
    → GivesDue so same is → GivesDue number due reply
given_as number so due same reply is en ed er gives =
    subst (λ (n : ℕ). GivesDue n due reply) (sym en)
    (subst (λ (d : Option Due). GivesDue so d reply) (sym ed)
    (subst (λ (r : Reply). GivesDue so same r) (sym er) gives))

-- the request of an order
operation_request : (operation : Operation) (order : Order) (n number : ℕ) → order.number ≡ number
    → IsDue n (OfOrder number) (task_request (Command operation order) n)
operation_request operation order n number is = (ap Some is, first_octet (Command operation order) n)

order_request : (order : Order) (n : ℕ) → IsDue n (OfOrder order.number) (task_request (order_task order) n)
order_request order n = (refl, first_octet (order_task order) n)

-- that of what is due first
task_is : (wall n : ℕ) (task : Option Task) (due : Option Due) → n < 16 → Fits wall task due
    → GivesDue n due (reply_asking (option_map (λ (x : Task). task_request x n) task))
task_is wall n None None small fits = refl
task_is wall n (Some task) (Some due) small fits = fits.is n small
task_is wall n None (Some due) small fits = absurd fits
task_is wall n (Some task) None small fits = absurd fits

-- ---- a poll

module _ (setup : Setup) (past : List Entry) (o moment wall : ℕ) (x : Master) (q : Option Outgoing) where
  abbrev ts : List Turn
  ts = talk setup o past

  abbrev first : Exchange → Option Task
  first ex = first_task ex (tasks_due moment wall x.poll x.due)

  abbrev given_for : Option Task → Option Request
  given_for task = option_map (λ (t : Task). task_request t x.sequence) task

  abbrev Gives : Type 0
  Gives = GivesDue (next_number ts) (due_at setup o past moment)
      (reply_asking (request_polled (order_for (Some x) q) moment wall x))

  -- the order that is due by the state
  order_is : (ex : Exchange) → x.up ≡ true → x.exchange ≡ ex
      → order_for (Some x) q ≡ cond (is_idle ex) (order_at q) None
  order_is ex up is =
      ap (λ (b : Bool). cond (b && is_idle x.exchange) (order_at q) None) up
      ∙ ap (λ (e : Exchange). cond (is_idle e) (order_at q) None) is

  -- without one a task is given
  task_polled : (ex : Exchange) → x.up ≡ true → x.exchange ≡ ex → order_for (Some x) q ≡ None
      → reply_asking (request_polled (order_for (Some x) q) moment wall x) ≡ reply_asking (given_for (first ex))
  task_polled ex up is none =
      ap (λ (y : Option Order). reply_asking (request_polled y moment wall x)) none
      ∙ (ap (λ (b : Bool). reply_asking (given_for (cond b (first x.exchange) None))) up
      ∙ ap (λ (e : Exchange). reply_asking (given_for (first e))) is)

  order_polled : (order : Order) → order_for (Some x) q ≡ Some order
      → reply_asking (request_polled (order_for (Some x) q) moment wall x) ≡ replies.Request (request_ordered order x)
  order_polled order is = ap (λ (y : Option Order). reply_asking (request_polled y moment wall x)) is

  abbrev rank : List (Option Due)
  rank = in_rank x.poll moment ts

  due_is : (ps : List Pending) → asked_of setup o past ≡ None → poll_at setup o ≡ Some x.poll
      → pending setup o past ≡ ps
      → due_at setup o past moment
      ≡ ranked_behind (filter (was_selected past) ps) (filter (is_unasked past) ps) rank
  due_is ps none poll same = due_idle setup o past moment x ps none poll (sym same)

  -- nothing awaits, and these orders wait
  idle : (u : Option UnderWay) (ws : List Accepted) → u ≡ None → x.up ≡ true → x.exchange ≡ Idle → x.sequence < 16
      → order_at q ≡ option_map (λ (y : Accepted). y.order) (cond (is_some u) None (slice_get ws 0))
      → asked_of setup o past ≡ None → poll_at setup o ≡ Some x.poll → IsTold x ts
      → AllByRecursion (λ (y : Accepted). marks y.order.number past ≡ []) ws → pending setup o past ≡ rows_in u ws
      → Gives
  idle (Some u) ws busy up is small next none poll k unmarked same = absurd (let no : ⊥ = cc in no)
  idle None [] free up is small next none poll k unmarked same =
      given_as (next_number ts) x.sequence (due_at setup o past moment) (first_of rank)
      (reply_asking (request_polled (order_for (Some x) q) moment wall x)) (reply_asking (given_for (first Idle)))
      (sym k.number) (due_is [] none poll same) (task_polled Idle up is (order_is Idle up is ∙ next))
      (task_is wall x.sequence (first Idle) (first_of rank) small (first_fits moment wall x ts k))
  idle None (y ∷ ys) free up is small next none poll k unmarked same =
      let rest : List Pending = map row_waiting (y ∷ ys) in
      let due : due_at setup o past moment ≡ Some (OfOrder y.order.number) =
      due_is rest none poll same
      ∙ (ap (λ (ps : List Pending). ranked_behind ps (filter (is_unasked past) rest) rank)
      (none_selected past (y ∷ ys) unmarked)
      ∙ ap (λ (ps : List Pending). ranked_behind [] ps rank) (all_unasked past (y ∷ ys) unmarked)) in
      given_as (next_number ts) x.sequence (due_at setup o past moment) (Some (OfOrder y.order.number))
      (reply_asking (request_polled (order_for (Some x) q) moment wall x)) (replies.Request (request_ordered y.order x))
      (sym k.number) due (order_polled y.order (order_is Idle up is ∙ next))
      (order_request y.order x.sequence)

  idle_at : (from : Option Outgoing) → from ≡ q → under_way_at from ≡ None → x.up ≡ true → x.exchange ≡ Idle
      → x.sequence < 16 → asked_of setup o past ≡ None → poll_at setup o ≡ Some x.poll → IsTold x ts
      → AllByRecursion (λ (y : Accepted). marks y.order.number past ≡ []) (waiting_at from)
      → pending setup o past ≡ rows from → Gives
  idle_at None here free up is small none poll k unmarked same =
      idle None [] refl up is small (ap order_at (sym here)) none poll k tt same
  idle_at (Some from) here free up is small none poll k unmarked same =
      idle from.under_way from.waiting free up is small (ap order_at (sym here)) none poll k unmarked same

  -- a request awaits its answer
  awaiting : (ex : Exchange) (asked : AskedRequest) → x.up ≡ true → x.exchange ≡ ex → is_idle ex ≡ false
      → first ex ≡ None → asked_of setup o past ≡ Some asked → Gives
  awaiting ex asked up is busy nothing awaits =
      given_as (next_number ts) (next_number ts) (due_at setup o past moment) None
      (reply_asking (request_polled (order_for (Some x) q) moment wall x)) replies.Nothing refl
      (due_awaiting setup o past moment asked awaits)
      (task_polled ex up is (order_is ex up is ∙ ap (λ (b : Bool). cond b (order_at q) None) busy)
      ∙ ap (λ (t : Option Task). reply_asking (given_for t)) nothing)
      refl

  -- OPERATE is due
  operate : (order : Order) (u : Option UnderWay) (ws : List Accepted) → x.up ≡ true → x.exchange ≡ Selected order
      → asked_of setup o past ≡ None → poll_at setup o ≡ Some x.poll → IsTold x ts
      → Sends (story setup past) o order u → WasSelected o order (marks order.number past)
      → pending setup o past ≡ rows_in u ws → Gives
  operate order None ws up is none poll k sends was same =
      absurd (let nowhere : None ≡ Some sends.way = sends.is in let no : ⊥ = cc in no)
  operate order (Some u) ws up is none poll k sends was same =
      let way : sends.way ≡ u = sym (some_is u sends.way sends.is) in
      let it : u.accepted.order ≡ order = subst (λ (y : UnderWay). y.accepted.order ≡ order) way sends.same in
      let number : u.accepted.order.number ≡ order.number = ap (λ (y : Order). y.number) it in
      let chosen : was_selected past (row_under_way u) ≡ true =
      ap (λ (n : ℕ). is_selected (marks n past)) number
      ∙ (ap is_selected was.is
      ∙ ap is_select (reads_operation (story setup past).executes o order Select was.sequence sends.order_is
      was.small)) in
      let rest : List Pending = map row_waiting ws in
      let others : List Pending = filter (was_selected past) rest in
      let due : due_at setup o past moment ≡ Some (OfOrder u.accepted.order.number) =
      due_is (row_under_way u ∷ rest) none poll same
      ∙ ap (λ (b : Bool). ranked_behind (cond b (row_under_way u ∷ others) others)
      (filter (is_unasked past) (row_under_way u ∷ rest)) rank) chosen in
      given_as (next_number ts) x.sequence (due_at setup o past moment) (Some (OfOrder u.accepted.order.number))
      (reply_asking (request_polled (order_for (Some x) q) moment wall x))
      (replies.Request (task_request (Command Operate order) x.sequence))
      (sym k.number) due (task_polled (Selected order) up is (order_is (Selected order) up is))
      (operation_request Operate order x.sequence u.accepted.order.number (sym number))

  pub gives : (ex : Exchange) (asked : Option AskedRequest) → x.up ≡ true → x.exchange ≡ ex → x.sequence < 16
      → asked_of setup o past ≡ asked → AwaitsAs ex asked → poll_at setup o ≡ Some x.poll → IsTold x ts
      → AllByRecursion (λ (y : Accepted). marks y.order.number past ≡ []) (waiting_at q)
      → GoesOn (story setup past) o ex (under_way_at q) → pending setup o past ≡ rows q → Gives
  gives Idle None up is small none alike poll k unmarked going same =
      idle_at q refl going up is small none poll k unmarked same
  gives Idle (Some a) up is small none alike poll k unmarked going same = absurd alike
  gives (Waiting w) None up is small none alike poll k unmarked going same = absurd alike
  gives (Waiting w) (Some a) up is small awaits alike poll k unmarked going same =
      awaiting (Waiting w) a up is refl refl awaits
  gives (Selected order) None up is small none alike poll k unmarked going same =
      operate order (under_way_at q) (waiting_at q) up is none poll k going.0 going.1 same
  gives (Selected order) (Some a) up is small none alike poll k unmarked going same = absurd alike

-- what is known of the state
pub record Known (setup : Setup) (past : List Entry) : Type 0 where
  pub history : Tied setup past (state_after setup past)
  pub orders : (o : ℕ) → Holds (story setup past) o (slice_get (state_after setup past).outstations o)
      (slice_get (state_after setup past).controls.outgoing o)
  pub pending : (o : ℕ) → rows (slice_get (state_after setup past).controls.outgoing o) ≡ pending setup o past
  pub told : Told setup past (state_after setup past)

poll_gives : (setup : Setup) (past : List Entry) (o m wall : ℕ) (r : Reply)
    → outcome setup (state_after setup past) (steps.Poll o m wall) ≡ Ok r → Known setup past
    → StepGives setup past (steps.Poll o m wall) r
poll_gives setup past o m wall r e k =
    let s : State = state_after setup past in
    let step : Step = steps.Poll o m wall in
    let answer = answered (fault_of s step) (can_be_counted s (needs setup s step)) (reply_to setup s step) r e in
    let up = who_is_up (λ (y : Master). y.up) NoOutstation (slice_get s.outstations o) answer.0 in
    let x : Master = up.0 in
    let q : Option Outgoing = slice_get s.controls.outgoing o in
    let is : MasterIs setup o past x = subst (MasterTied setup o past) up.1 (k.history.outstations o) in
    let told : IsTold x (talk setup o past) = subst (ToldAt (talk setup o past)) up.1 (k.told o) in
    let holds : Holds (story setup past) o (Some x) q =
    subst (λ (y : Option Master). Holds (story setup past) o y q) up.1 (k.orders o) in
    let moment : ℕ = latest s m in
    let reply : reply_asking (request_polled (order_for (Some x) q) moment wall x) ≡ r =
    sym (ap (outstation_reply (λ (y : Master). reply_asking (request_polled (order_due s o) moment wall y))) up.1
    ∙ ap (λ (y : Option Master). reply_asking (request_polled (order_for y q) moment wall x)) up.1) ∙ answer.2 in
    let shown : GivesDue (next_number (talk setup o past)) (due_at setup o past moment)
    (reply_asking (request_polled (order_for (Some x) q) moment wall x)) =
    gives setup past o moment wall x q x.exchange (asked_of setup o past) up.2 refl is.number refl is.awaits is.poll
    told (all_unmarked (story setup past) o (waiting_at q) holds.waiting) holds.going (sym (k.pending o)) in
    subst (λ (n : ℕ). GivesDue (next_number (talk setup o past)) (due_at setup o past n) r)
    (told_moment setup past s m k.history)
    (subst (λ (y : Reply). GivesDue (next_number (talk setup o past)) (due_at setup o past moment) y) reply shown)

-- ---- other steps

verdict_asks : (f : Fragment) (x : Option Master)
    → request_of (outstation_reply (λ (m : Master). replies.Verdict (verdict_of m f)) x) ≡ None
verdict_asks f None = refl
verdict_asks f (Some m) = refl

event_asks : (event : Event) → request_of (reply_of_event event) ≡ None
event_asks events.Taken = refl
event_asks (events.Command command) = refl
event_asks (events.Closed why) = refl

client_asks : (reply : Client → Reply) (x : Option Client) → ((k : Client) → request_of (reply k) ≡ None)
    → request_of (client_reply reply x) ≡ None
client_asks reply None each = refl
client_asks reply (Some k) each = each k

giving_asks : (content : Option ApduContent) → request_of (reply_giving content) ≡ None
giving_asks None = refl
giving_asks (Some content) = refl

-- the reply of a step that isn't a poll
abbrev AsksNothing : Setup → State → Step → Type 0
AsksNothing setup s step = request_of (reply_to setup s step) ≡ None

reply_is : (setup : Setup) (s : State) (step : Step) (r : Reply) → outcome setup s step ≡ Ok r
    → AsksNothing setup s step → request_of r ≡ None
reply_is setup s step r e nothing =
    let answer = answered (fault_of s step) (can_be_counted s (needs setup s step)) (reply_to setup s step) r e in
    sym (ap request_of answer.2) ∙ nothing

step_gives : (setup : Setup) (past : List Entry) (step : Step) (r : Reply)
    → outcome setup (state_after setup past) step ≡ Ok r → Known setup past → StepGives setup past step r
step_gives setup past (steps.Poll o m wall) r e k = poll_gives setup past o m wall r e k
step_gives setup past (steps.OutstationUp o m) r e k =
    reply_is setup (state_after setup past) (steps.OutstationUp o m) r e refl
step_gives setup past (steps.OutstationDown o m) r e k =
    reply_is setup (state_after setup past) (steps.OutstationDown o m) r e refl
step_gives setup past (steps.Fragment f m) r e k =
    let s : State = state_after setup past in
    reply_is setup s (steps.Fragment f m) r e (verdict_asks f (slice_get s.outstations f.outstation))
step_gives setup past (steps.ClientUp c m) r e k =
    reply_is setup (state_after setup past) (steps.ClientUp c m) r e refl
step_gives setup past (steps.ClientDown c m) r e k =
    reply_is setup (state_after setup past) (steps.ClientDown c m) r e refl
step_gives setup past (steps.Frame c apdu m) r e k =
    let s : State = state_after setup past in
    reply_is setup s (steps.Frame c apdu m) r e
    (client_asks (λ (y : Client). reply_of_event (event_of setup apdu y)) (slice_get s.clients c)
    (λ y. event_asks (event_of setup apdu y)))
step_gives setup past (steps.Pump c m) r e k =
    let s : State = state_after setup past in
    reply_is setup s (steps.Pump c m) r e
    (client_asks
    (λ (y : Client). reply_giving (given (station_clocks setup.station) (latest s m) y))
    (slice_get s.clients c)
    (λ y. giving_asks (given (station_clocks setup.station) (latest s m) y)))
step_gives setup past (steps.Tick m) r e k = reply_is setup (state_after setup past) (steps.Tick m) r e refl

pub entry_gives : (setup : Setup) (past : List Entry) (step : Step) (reply : Result Reply StepFault)
    → Allowed setup (state_after setup past) step reply (state_after setup (entry step reply ∷ past))
    → Known setup past → EntryGives setup past step reply
entry_gives setup past step (Ok r) allowed k = step_gives setup past step r allowed.0 k
entry_gives setup past step (Err f) allowed k = tt
