-- Short words for the worked examples: what happens between the master and an outstation, responses without reports.
use Rattle.std.specs.Prelude.{ℕ, pos, Bool, true, false, List, [], ◌∷◌, ◌++◌, Option, option_map}
use Rattle.gw_model.specs.declared.control.Act.{Act}
use Rattle.gw_model.specs.declared.control.Act.TheVariants.{Switch, Set}
use Rattle.gw_model.specs.declared.control.Ended.{Ended}
use Rattle.gw_model.specs.declared.control.Order.{Order}
use Rattle.gw_model.specs.declared.control.Shape.TheVariants.{Latch}
use Rattle.gw_model.specs.declared.poll.Poll.{Poll}
use Rattle.dnp_app.specs.Response.{Fragment}
use Rattle.dnp_app.specs.Requests.{octets_of}
use Rattle.dnp_master.specs.declared.answered.CommandAnswer.{CommandAnswer}
use Rattle.dnp_master.specs.declared.verdict.Verdict.{Verdict}
use Rattle.dnp_master.specs.Master.{Master, master_down, master_after_up, master_after_next, master_after_order}
use Rattle.dnp_master.specs.Master.{master_after_tick, request_given, request_ordered, ended_by_loss, ended_by_tick}
use Rattle.dnp_master.specs.Answers.{command_answer}
use Rattle.dnp_master.specs.Fragments.{master_after_fragment, verdict_of}

-- polled for events every 2 seconds and wholly every hour, answers are awaited for 5 seconds
abbrev pub plain : Poll
plain = record { poll_ms = 2000; integrity_ms = 3600000; response_ms = 5000; unsolicited = false; lan_time = false }

abbrev pub with_time : Poll
with_time = record plain { lan_time = true }

-- answers are awaited for a second alone
abbrev pub hasty : Poll
hasty = record with_time { response_ms = 1000 }

abbrev pub with_unsolicited : Poll
with_unsolicited = record plain { unsolicited = true }

abbrev pub response : List ℕ → Fragment
response octets = record { outstation = 0; octets = octets; reports = [] }

pub data Event : Type 0 where
  -- a poll at a moment and a wall time
  Polls : ℕ → ℕ → Event
  -- a fragment at a moment
  Comes : ℕ → List ℕ → Event
  Ticks : ℕ → Event
  -- an order at a moment
  Orders : ℕ → Order → Event

abbrev pub after_event : Event → Master → Master
after_event (Polls moment wall) m = master_after_next moment wall m
after_event (Comes moment octets) m = master_after_fragment moment (response octets) m
after_event (Ticks moment) m = master_after_tick moment m
after_event (Orders moment order) m = master_after_order moment order m

abbrev pub after_events : List Event → Master → Master
after_events [] m = m
after_events (e ∷ es) m = after_events es (after_event e m)

-- the outstation came up at moment 0, and this happened
abbrev pub after : Poll → List Event → Master
after poll events = after_events events (master_after_up 0 (master_down poll))

-- then a poll gives these octets, and a fragment this verdict
abbrev pub given : Poll → List Event → ℕ → ℕ → Option (List ℕ)
given poll events moment wall = option_map octets_of (request_given moment wall (after poll events))

abbrev pub judged : Poll → List Event → List ℕ → Verdict
judged poll events octets = verdict_of (after poll events) (response octets)

-- how it answers the command that awaits it
abbrev pub answered : Poll → List Event → List ℕ → Option CommandAnswer
answered poll events octets = command_answer (after poll events).exchange (response octets)

-- ---- orders

-- the order of number 1: an act on the output of an index, by SELECT and OPERATE or at once
abbrev pub order_for : Bool → ℕ → Act → Order
order_for sbo index act = record {
  number = 1;
  intent = record { outstation = 0; index = index; act = act };
  sbo = sbo;
}

-- switch output 3 on; set output 4 to 1000
abbrev pub latch : Order
latch = order_for false 3 (Switch true Latch)

abbrev pub setpoint : Order
setpoint = order_for true 4 (Set (pos 1000))

-- the integrity poll is answered at 0, then the order is given
abbrev pub polled : List Event
polled = Polls 0 0 ∷ Comes 0 (0xC0 ∷ 0x81 ∷ 0 ∷ 0 ∷ []) ∷ []

abbrev pub latched : List Event
latched = polled ++ Orders 0 latch ∷ []

abbrev pub selecting : List Event
selecting = polled ++ Orders 0 setpoint ∷ []

-- the object of the latch and of the set point with a status, each behind its header and its index
abbrev pub latch_object : ℕ → List ℕ
latch_object status =
    0x0C ∷ 0x01 ∷ 0x28 ∷ 0x01 ∷ 0x00 ∷ 0x03 ∷ 0x00
    ∷ 0x03 ∷ 0x01 ∷ 0 ∷ 0 ∷ 0 ∷ 0 ∷ 0 ∷ 0 ∷ 0 ∷ 0 ∷ status ∷ []

abbrev pub setpoint_object : ℕ → List ℕ
setpoint_object status = 0x29 ∷ 0x02 ∷ 0x28 ∷ 0x01 ∷ 0x00 ∷ 0x04 ∷ 0x00 ∷ 0xE8 ∷ 0x03 ∷ status ∷ []

-- an answer with its internal indications, that gives back the object of the latch or of the set point with a status
abbrev pub latch_answer : List ℕ → ℕ → List ℕ
latch_answer front status = front ++ latch_object status

abbrev pub setpoint_answer : List ℕ → ℕ → List ℕ
setpoint_answer front status = front ++ setpoint_object status

-- the set point was selected, or is operated as well
abbrev pub selected : List Event
selected = selecting ++ Comes 0 (setpoint_answer (0xC1 ∷ 0x81 ∷ 0 ∷ 0 ∷ []) 0) ∷ []

abbrev pub operating : List Event
operating = selected ++ Polls 0 0 ∷ []

-- the order of number 1 was done, or failed
abbrev pub succeeded : Ended
succeeded = record { number = 1; done = true }

abbrev pub failed : Ended
failed = record { number = 1; done = false }

-- then an order gives these octets, a loss ends this order, and a tick this one
abbrev pub ordered : Poll → List Event → Order → List ℕ
ordered poll events order = octets_of (request_ordered order (after poll events))

abbrev pub lost : Poll → List Event → Option Ended
lost poll events = ended_by_loss (after poll events)

abbrev pub late : Poll → List Event → ℕ → Option Ended
late poll events moment = ended_by_tick moment (after poll events)
