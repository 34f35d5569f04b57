-- How an outstation answers the requests of an order, and which of its requests is late (IEEE Std 1815, 4.4 and Annex A).
use Rattle.std.specs.Prelude.{ℕ, ◌==◌, Bool, false, Option, Some, None, if◌then◌else◌}
use Rattle.gw_model.specs.declared.control.Act.{Act}
use Rattle.gw_model.specs.declared.poll.Poll.{Poll}
use Rattle.dnp_app.specs.declared.echoed.Echo.{Echo}
use Rattle.dnp_app.specs.declared.operation.Operation.{Operation}
use Rattle.dnp_app.specs.Echo.{echo_of, is_taken}
use Rattle.dnp_app.specs.Response.{Fragment}
use Rattle.dnp_master.specs.declared.answered.Taken.{Taken}
use Rattle.dnp_master.specs.declared.answered.Taken.TheVariants.{Done, Refused, Otherwise}
use Rattle.dnp_master.specs.declared.answered.CommandAnswer.{CommandAnswer}
use Rattle.dnp_master.specs.declared.task.Task.{Task}
use Rattle.dnp_master.specs.declared.task.Task.TheVariants.{Command}
use Rattle.dnp_master.specs.declared.exchange.Exchange.{Exchange}
use Rattle.dnp_master.specs.declared.exchange.Exchange.TheVariants.{Idle, Waiting, Selected}
use Rattle.dnp_master.specs.Master.{Master, is_late}

-- an echo gives the command back, whatever its status
abbrev pub gives_back : ℕ → Act → Echo → Bool
gives_back index act e = is_taken index act (Some (record e { status = 0 }))

-- by its status
abbrev pub taken_with : ℕ → Taken
taken_with status = if status == 0 then Done else Refused status

-- how a command was taken, by the echo of its answer
abbrev pub taken_by : ℕ → Act → Option Echo → Taken
taken_by index act None = Otherwise
taken_by index act (Some e) = if gives_back index act e then taken_with e.status else Otherwise

-- how a fragment answers a task, where that is of an order
abbrev pub task_answer : Task → Fragment → Option CommandAnswer
task_answer (Command operation order) f = Some (record {
  operation = operation;
  taken = taken_by order.intent.index order.intent.act (echo_of f.octets);
})
task_answer _ f = None

-- how it answers the command that awaits its answer, if one does
abbrev pub command_answer : Exchange → Fragment → Option CommandAnswer
command_answer Idle f = None
command_answer (Waiting w) f = task_answer w.task f
command_answer (Selected order) f = None

-- the operation of a task
abbrev pub task_operation : Task → Option Operation
task_operation (Command operation order) = Some operation
task_operation _ = None

-- that awaits its answer
abbrev pub operation_awaited : Exchange → Option Operation
operation_awaited Idle = None
operation_awaited (Waiting w) = task_operation w.task
operation_awaited (Selected order) = None

-- the task whose request awaits its answer
abbrev pub task_awaited : Exchange → Option Task
task_awaited Idle = None
task_awaited (Waiting w) = Some w.task
task_awaited (Selected order) = None

-- the time for the answer to a request has passed
abbrev pub is_exchange_late : ℕ → Poll → Exchange → Bool
is_exchange_late moment poll Idle = false
is_exchange_late moment poll (Waiting w) = is_late moment poll w.since
is_exchange_late moment poll (Selected order) = false

abbrev pub is_unanswered : ℕ → Master → Bool
is_unanswered moment m = is_exchange_late moment m.poll m.exchange
