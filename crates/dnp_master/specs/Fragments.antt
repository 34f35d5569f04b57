-- What becomes of a fragment, and what an accepted one changes (IEEE Std 1815, 4.2.2 and clause 5).
use Rattle.std.specs.Prelude.{ℕ, ◌/◌, ◌%◌, ◌==◌, Bool, true, false, ◌&&◌, ◌||◌, not}
use Rattle.std.specs.Prelude.{List, slice_index, Option, Some, None, if◌then◌else◌}
use Rattle.std.specs.Str.{bytes_eq}
use Rattle.gw_model.specs.declared.control.Ended.{Ended}
use Rattle.gw_model.specs.declared.poll.Poll.{Poll}
use Rattle.dnp_app.specs.declared.operation.Operation.TheVariants.{Select, Operate, DirectOperate}
use Rattle.dnp_app.specs.declared.response.ApplicationControl.{ApplicationControl}
use Rattle.dnp_app.specs.Control.{confirm_of, control_of}
use Rattle.dnp_app.specs.Echo.{echo_of, is_taken}
use Rattle.dnp_app.specs.Response.{Fragment, is_unsolicited}
use Rattle.dnp_master.specs.declared.verdict.Verdict.{Verdict}
use Rattle.dnp_master.specs.declared.verdict.Verdict.TheVariants.{Accepted, Repeated, Ignored}
use Rattle.dnp_master.specs.declared.verdict.Ignored.TheVariants.{NoRequest, WrongSequence, WrongFirst}
use Rattle.dnp_master.specs.declared.task.Task.{Task}
use Rattle.dnp_master.specs.declared.task.Task.TheVariants.{ClearRestart, WriteTime, RecordTime, Disable}
use Rattle.dnp_master.specs.declared.task.Task.TheVariants.{Integrity, Enable, EventPoll, Command}
use Rattle.dnp_master.specs.declared.due.DueTasks.{DueTasks}
use Rattle.dnp_master.specs.declared.exchange.Awaited.{Awaited}
use Rattle.dnp_master.specs.declared.exchange.Exchange.{Exchange}
use Rattle.dnp_master.specs.declared.exchange.Exchange.TheVariants.{Idle, Waiting, Selected}
use Rattle.dnp_master.specs.declared.indications.Indications.{Indications}
use Rattle.dnp_master.specs.Master.{Master, ended, following}

-- ---- the verdict

-- the octets are those of the last accepted unsolicited response
abbrev pub is_last : Option (List ℕ) → List ℕ → Bool
is_last None octets = false
is_last (Some last) octets = bytes_eq last octets

abbrev pub control_in : Fragment → ApplicationControl
control_in f = control_of (slice_index f.octets 0)

abbrev pub verdict_of_unsolicited : Option (List ℕ) → List ℕ → Verdict
verdict_of_unsolicited last octets =
    if is_last last octets then Repeated (confirm_of octets) else Accepted (confirm_of octets) false None

-- the outstation took what was asked for: the last fragment of the answer echoes the command, with status 0. Where no
-- command was sent there is nothing to take
abbrev pub is_done : Task → Fragment → Bool
is_done (Command operation order) f = is_taken order.intent.index order.intent.act (echo_of f.octets)
is_done _ f = false

-- how an order ends with the answer to its task, which did it or not: after SELECT it goes on where that succeeded
abbrev pub ended_answered : Task → Bool → Option Ended
ended_answered (Command Select order) done = if done then None else Some (ended false order)
ended_answered (Command Operate order) done = Some (ended done order)
ended_answered (Command DirectOperate order) done = Some (ended done order)
ended_answered _ done = None

abbrev pub ended_with : Task → Fragment → Option Ended
ended_with task f = if (control_in f).fin then ended_answered task (is_done task f) else None

-- an answer's first fragment has FIR, its others don't
abbrev pub is_begun_rightly : Bool → Bool → Bool
is_begun_rightly begun fir = if begun then not fir else fir

-- no request awaits it; its sequence number is another; or FIR is where it may not be, or isn't where it has to be
abbrev pub verdict_of_answer : Exchange → Fragment → Verdict
verdict_of_answer Idle f = Ignored NoRequest
verdict_of_answer (Waiting w) f =
    let control = control_in f in
    if control.sequence == w.expected then
    (if is_begun_rightly w.begun control.fir
    then Accepted (confirm_of f.octets) control.fin (ended_with w.task f)
    else Ignored WrongFirst)
    else Ignored WrongSequence
verdict_of_answer (Selected order) f = Ignored NoRequest

-- what becomes of a fragment
abbrev pub verdict_of : Master → Fragment → Verdict
verdict_of m f =
    if is_unsolicited f then verdict_of_unsolicited m.last f.octets else verdict_of_answer m.exchange f

abbrev pub is_acceptance : Verdict → Bool
is_acceptance (Accepted confirm end control) = true
is_acceptance (Repeated confirm) = false
is_acceptance (Ignored why) = false

abbrev pub accepts : Master → Fragment → Bool
accepts m f = is_acceptance (verdict_of m f)

-- ---- internal indications

-- IIN1 bits 1 to 3 (events of classes 1 to 3), 4 (need time) and 7 (device restart), IIN2 bit 3 (event buffer overflow)
abbrev pub indications_of : ℕ → ℕ → Indications
indications_of first second = record {
  events = not ((first / 2) % 8 == 0);
  need_time = (first / 16) % 2 == 1;
  restart = (first / 128) % 2 == 1;
  overflow = (second / 8) % 2 == 1;
}

abbrev pub indications_in : Fragment → Indications
indications_in f = indications_of (slice_index f.octets 2) (slice_index f.octets 3)

-- the fragment answers the clearing of the restart, or the recording of the time
abbrev pub clears_restart : Option Task → Bool
clears_restart (Some ClearRestart) = true
clears_restart _ = false

abbrev pub records_time : Option Task → Bool
records_time (Some (RecordTime wall)) = true
records_time _ = false

-- set now, and not before
abbrev pub is_newly_set : Bool → Bool → Bool
is_newly_set before now = now && not before

-- what an accepted fragment makes due, which answers this task or none
abbrev pub due_with : Poll → Option Task → Indications → Indications → DueTasks → DueTasks
due_with poll answered before now due = record due {
  clear_restart = due.clear_restart || (now.restart && not (clears_restart answered));
  record_time = due.record_time || (poll.lan_time && (now.need_time && not (records_time answered)));
  integrity =
      due.integrity || (is_newly_set before.restart now.restart || is_newly_set before.overflow now.overflow);
  events = due.events || now.events;
}

-- ---- what is accepted

-- the end of an answer to the recording of a time makes its writing due
abbrev pub due_once_answered : Task → DueTasks → DueTasks
due_once_answered ClearRestart due = due
due_once_answered (WriteTime time) due = due
due_once_answered (RecordTime wall) due = record due { write_time = Some wall }
due_once_answered Disable due = due
due_once_answered Integrity due = due
due_once_answered Enable due = due
due_once_answered EventPoll due = due
due_once_answered (Command operation order) due = due

-- a SELECT that succeeded makes OPERATE due
abbrev pub exchange_once_answered : Task → Bool → Exchange
exchange_once_answered (Command Select order) done = if done then Selected order else Idle
exchange_once_answered _ done = Idle

abbrev pub exchange_after : ℕ → Fragment → Awaited → Exchange
exchange_after moment f w =
    if (control_in f).fin then exchange_once_answered w.task (is_done w.task f)
    else Waiting (record w { expected = following w.expected; begun = true; since = moment })

-- a fragment of an answer was accepted at a moment
abbrev pub master_after_answer : ℕ → Fragment → Exchange → Master → Master
master_after_answer moment f Idle m = m
master_after_answer moment f (Waiting w) m =
    let fin = (control_in f).fin in
    let due = due_with m.poll (Some w.task) m.before (indications_in f) m.due in
    record m {
      before = indications_in f;
      sequence = following w.expected;
      exchange = exchange_after moment f w;
      due = if fin then due_once_answered w.task due else due;
    }
master_after_answer moment f (Selected order) m = m

-- an unsolicited response was accepted
abbrev pub master_after_unsolicited : Fragment → Master → Master
master_after_unsolicited f m = record m {
  last = Some f.octets;
  before = indications_in f;
  due = due_with m.poll None m.before (indications_in f) m.due;
}

abbrev pub master_after_accepted : ℕ → Fragment → Master → Master
master_after_accepted moment f m =
    if is_unsolicited f then master_after_unsolicited f m else master_after_answer moment f m.exchange m

-- a fragment came at a moment
abbrev pub master_after_fragment : ℕ → Fragment → Master → Master
master_after_fragment moment f m = if accepts m f then master_after_accepted moment f m else m
