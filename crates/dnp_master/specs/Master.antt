-- The master's part for one outstation, as an engineer draws it: what is due, the request that awaits its answer, and
-- what is known of the fragments that were accepted (IEEE Std 1815, clause 4).
use Rattle.std.specs.Prelude.{◌≡◌, ℕ, ◌+◌, ◌-◌, ◌%◌, ◌==◌, nat_le, Bool, true, false, ◌&&◌, ◌||◌}
use Rattle.std.specs.Prelude.{not, List, [], ◌∷◌, ◌++◌, slice_get, Option, Some, None, option_map, if◌then◌else◌}
use Rattle.gw_model.specs.declared.control.Ended.{Ended}
use Rattle.gw_model.specs.declared.control.Order.{Order}
use Rattle.gw_model.specs.declared.poll.Poll.{Poll}
use Rattle.dnp_app.specs.declared.operation.Operation.TheVariants.{Select, Operate, DirectOperate}
use Rattle.dnp_app.specs.declared.request.Request.{Request}
use Rattle.dnp_app.specs.Operating.{request_intent}
use Rattle.dnp_app.specs.Requests.{octets_of, request, read_octets, enable_octets, disable_octets}
use Rattle.dnp_app.specs.Requests.{clear_restart_octets, record_time_octets, write_time_octets, control_octets}
use Rattle.dnp_master.specs.declared.task.Task.{Task}
use Rattle.dnp_master.specs.declared.task.Task.TheVariants.{ClearRestart, WriteTime, RecordTime, Disable}
use Rattle.dnp_master.specs.declared.task.Task.TheVariants.{Integrity, Enable, EventPoll, Command}
use Rattle.dnp_master.specs.declared.due.DueTasks.{DueTasks}
use Rattle.dnp_master.specs.declared.exchange.Exchange.{Exchange}
use Rattle.dnp_master.specs.declared.exchange.Exchange.TheVariants.{Idle, Waiting, Selected}
use Rattle.dnp_master.specs.declared.indications.Indications.{Indications}

pub record Master : Type 0 where
  -- the times and habits that the settings give
  pub poll : Poll
  -- the connection to the outstation stands
  pub up : Bool
  -- the octets of the last unsolicited response that was accepted since it came up
  pub last : Option (List ℕ)
  -- the internal indications of the accepted response before; none are set before the first one
  pub before : Indications
  -- the sequence number of the next request
  pub sequence : ℕ
  -- nothing, the request that awaits its answer, or the order whose OPERATE is due
  pub exchange : Exchange
  pub due : DueTasks

abbrev pub no_indications : Indications
no_indications = record { events = false; need_time = false; restart = false; overflow = false }

abbrev pub nothing_due : DueTasks
nothing_due = record {
  clear_restart = false;
  write_time = None;
  record_time = false;
  disable = false;
  integrity = false;
  integrity_since = 0;
  enable = false;
  events = false;
  events_since = 0;
}

-- as at first, and after a loss
abbrev pub master_down : Poll → Master
master_down poll = record {
  poll = poll;
  up = false;
  last = None;
  before = no_indications;
  sequence = 0;
  exchange = Idle;
  due = nothing_due;
}

-- the outstation came up at a moment: an integrity poll is due, and where unsolicited responses are used these are
-- disabled before it and enabled after it
abbrev pub master_after_up : ℕ → Master → Master
master_after_up moment m = record (master_down m.poll) {
  up = true;
  due = record nothing_due {
    disable = m.poll.unsolicited;
    integrity = true;
    integrity_since = moment;
    enable = m.poll.unsolicited;
    events_since = moment;
  };
}

-- ---- what is due

-- an integrity poll: by itself, or by its period
abbrev pub is_integrity_due : ℕ → Poll → DueTasks → Bool
is_integrity_due moment poll due =
    due.integrity || (not (poll.integrity_ms == 0) && nat_le poll.integrity_ms (moment - due.integrity_since))

abbrev pub is_event_poll_due : ℕ → Poll → DueTasks → Bool
is_event_poll_due moment poll due = due.events || nat_le poll.poll_ms (moment - due.events_since)

abbrev pub if_due : Bool → Task → List Task
if_due due task = if due then task ∷ [] else []

abbrev pub time_due : Option ℕ → List Task
time_due None = []
time_due (Some time) = WriteTime time ∷ []

-- the tasks that are due at a moment, in their order of rank; a time that is recorded now is this wall time
abbrev pub tasks_due : ℕ → ℕ → Poll → DueTasks → List Task
tasks_due moment wall poll due =
    if_due due.clear_restart ClearRestart
    ++ (time_due due.write_time
    ++ (if_due due.record_time (RecordTime wall)
    ++ (if_due due.disable Disable
    ++ (if_due (is_integrity_due moment poll due) Integrity
    ++ (if_due due.enable Enable
    ++ if_due (is_event_poll_due moment poll due) EventPoll)))))

-- ---- requests

abbrev pub is_idle : Exchange → Bool
is_idle Idle = true
is_idle (Waiting awaited) = false
is_idle (Selected order) = false

-- an order can be taken: no request awaits its answer, and no OPERATE is due
abbrev pub is_ready : Master → Bool
is_ready m = m.up && is_idle m.exchange

abbrev pub task_octets : Task → ℕ → List ℕ
task_octets ClearRestart sequence = clear_restart_octets sequence
task_octets (WriteTime time) sequence = write_time_octets time sequence
task_octets (RecordTime wall) sequence = record_time_octets sequence
task_octets Disable sequence = disable_octets sequence
task_octets Integrity sequence = read_octets true sequence
task_octets Enable sequence = enable_octets sequence
task_octets EventPoll sequence = read_octets false sequence
task_octets (Command operation order) sequence =
    control_octets operation order.intent.index order.intent.act sequence

-- the order that a task is a part of
abbrev pub order_of : Task → Option Order
order_of (Command operation order) = Some order
order_of _ = None

-- the request of a task, with the number of its order
abbrev pub task_request : Task → ℕ → Request
task_request task sequence =
    record (request (task_octets task sequence)) { bond = option_map (λ order. order.number) (order_of task) }

-- by its octets a request means the intent of an order
abbrev pub MeantBy : Request → Order → Type 0
MeantBy r order = request_intent order.intent.outstation (octets_of r) ≡ Some order.intent

-- OPERATE where it is due comes before all tasks
abbrev pub first_task : Exchange → List Task → Option Task
first_task Idle tasks = slice_get tasks 0
first_task (Waiting awaited) tasks = None
first_task (Selected order) tasks = Some (Command Operate order)

-- the task that is given at a moment, the first one due
abbrev pub task_given : ℕ → ℕ → Master → Option Task
task_given moment wall m = if m.up then first_task m.exchange (tasks_due moment wall m.poll m.due) else None

-- and its request
abbrev pub request_given : ℕ → ℕ → Master → Option Request
request_given moment wall m = option_map (λ task. task_request task m.sequence) (task_given moment wall m)

-- the number that follows, of four bits
abbrev pub following : ℕ → ℕ
following sequence = (sequence + 1) % 16

-- what is due once a task was given at a moment
abbrev pub due_without : ℕ → Task → DueTasks → DueTasks
due_without moment ClearRestart due = record due { clear_restart = false }
due_without moment (WriteTime time) due = record due { write_time = None }
due_without moment (RecordTime wall) due = record due { record_time = false }
due_without moment Disable due = record due { disable = false }
due_without moment Integrity due = record due { integrity = false; integrity_since = moment }
due_without moment Enable due = record due { enable = false }
due_without moment EventPoll due = record due { events = false; events_since = moment }
due_without moment (Command operation order) due = due

abbrev pub master_asking : ℕ → Task → Master → Master
master_asking moment task m = record m {
  sequence = following m.sequence;
  exchange = Waiting (record { task = task; expected = m.sequence; begun = false; since = moment });
  due = due_without moment task m.due;
}

abbrev pub master_after_given : ℕ → Option Task → Master → Master
master_after_given moment None m = m
master_after_given moment (Some task) m = master_asking moment task m

-- after the poll of a moment
abbrev pub master_after_next : ℕ → ℕ → Master → Master
master_after_next moment wall m = master_after_given moment (task_given moment wall m) m

-- ---- orders

-- the first task of an order: SELECT, where OPERATE is to follow, or else DIRECT_OPERATE
abbrev pub order_task : Order → Task
order_task order = Command (if order.sbo then Select else DirectOperate) order

-- its request
abbrev pub request_ordered : Order → Master → Request
request_ordered order m = task_request (order_task order) m.sequence

-- after an order of a moment
abbrev pub master_after_order : ℕ → Order → Master → Master
master_after_order moment order m = master_asking moment (order_task order) m

-- the order that was taken and has not ended
abbrev pub order_taken : Exchange → Option Order
order_taken Idle = None
order_taken (Waiting awaited) = order_of awaited.task
order_taken (Selected order) = Some order

abbrev pub ended : Bool → Order → Ended
ended done order = record { number = order.number; done = done }

-- it fails where the outstation is lost
abbrev pub ended_by_loss : Master → Option Ended
ended_by_loss m = option_map (ended false) (order_taken m.exchange)

-- ---- a request without an answer

-- an integrity poll is due again, and with the recording of the time its writing is given up; an order has failed; any
-- other task is given up until it becomes due again
abbrev pub due_unanswered : Task → DueTasks → DueTasks
due_unanswered ClearRestart due = due
due_unanswered (WriteTime time) due = due
due_unanswered (RecordTime wall) due = record due { record_time = false; write_time = None }
due_unanswered Disable due = due
due_unanswered Integrity due = record due { integrity = true }
due_unanswered Enable due = due
due_unanswered EventPoll due = due
due_unanswered (Command operation order) due = due

-- the time for an answer passed since the request was given, or since the last fragment of its answer
abbrev pub is_late : ℕ → Poll → ℕ → Bool
is_late moment poll since = nat_le poll.response_ms (moment - since)

abbrev pub master_with_exchange_after : ℕ → Exchange → Master → Master
master_with_exchange_after moment Idle m = m
master_with_exchange_after moment (Waiting w) m =
    if is_late moment m.poll w.since then record m { exchange = Idle; due = due_unanswered w.task m.due } else m
-- OPERATE stays due, however late
master_with_exchange_after moment (Selected order) m = m

abbrev pub master_after_tick : ℕ → Master → Master
master_after_tick moment m = master_with_exchange_after moment m.exchange m

-- the order that fails with it
abbrev pub ended_late : ℕ → Poll → Exchange → Option Ended
ended_late moment poll Idle = None
ended_late moment poll (Waiting w) =
    if is_late moment poll w.since then option_map (ended false) (order_of w.task) else None
ended_late moment poll (Selected order) = None

abbrev pub ended_by_tick : ℕ → Master → Option Ended
ended_by_tick moment m = ended_late moment m.poll m.exchange
