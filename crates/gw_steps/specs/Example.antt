-- The worked runs: one outstation, one client; binary input 5 is shown as single-point 4101 of station 1, analog
-- input 0 as scaled value 4201, counter 0 as integrated total 4301.
use Rattle.std.specs.Prelude.{ℕ, zero, suc, ◌-◌, ◌^◌, pos, Bool, true, List, [], ◌∷◌, ◌++◌, map}
use Rattle.gw_model.specs.declared.control.Order.{Order}
use Rattle.gw_model.specs.declared.point.Report.{Report}
use Rattle.gw_model.specs.declared.point.Stamp.TheVariants.{At}
use Rattle.gw_entries.specs.Example.{station, outstation}
use Rattle.gw_entries.specs.declared.control.Control.{Control}
use Rattle.gw_map.specs.Settings.{Setup}
use Rattle.gw_translate.specs.Example.{static_value, timed_event}
use Rattle.gw_picture.specs.Example.{rows, analog_value}
use Rattle.dnp_points.specs.Objects.{binary_report}
use Rattle.dnp_app.specs.Response.{Fragment}
use Rattle.iec_apci.specs.declared.apdu.Apdu.TheVariants.{I, U}
use Rattle.iec_apci.specs.declared.apdu.Signal.TheVariants.{StartAct}
use Rattle.gw_control.specs.Example.{breaker, order, sent, sets, setup as with_controls, after as ordered}
use Rattle.gw_model.specs.declared.control.Act.TheVariants.{Set}
use Rattle.dnp_master.specs.Master.{Master, master_down, master_after_order, master_after_up}
use Rattle.gw_station.specs.Example.{command, interrogation}
use Rattle.gw_steps.specs.declared.step.Step.{Step}
use Rattle.gw_steps.specs.declared.step.Step.TheVariants as steps
use Rattle.gw_steps.specs.State.{State, at_first}
use Rattle.gw_steps.specs.Steps.{after}
use Rattle.gw_steps.specs.Effects.{effects_of}
use Rattle.dnp_master.specs.declared.fate.Fate.{Fate}
use Rattle.gw_steps.specs.declared.effects.OrderEnd.{OrderEnd}

abbrev pub setup : Setup
setup = record { station = station; outstations = outstation ∷ []; rows = rows; controls = [] }

-- clocks are an hour ahead of UTC
abbrev pub ahead : Setup
ahead = record setup { station = record station { offset_minutes = pos 60 } }

abbrev pub response : List ℕ → List Report → Fragment
response octets reports = record { outstation = 0; octets = octets; reports = reports }

-- unsolicited, asks for a confirmation, input 5 is on
abbrev pub event : Fragment
event = response (0xF0 ∷ 0x82 ∷ 0 ∷ 0 ∷ 2 ∷ 1 ∷ 0x17 ∷ 1 ∷ 5 ∷ 0x81 ∷ []) (binary_report 0 5 0x81 ∷ [])

-- the same at 22:13:20 UTC on 14 November 2023
abbrev pub timed : Fragment
timed =
    response (0xF0 ∷ 0x82 ∷ 0 ∷ 0 ∷ 2 ∷ 2 ∷ 0x17 ∷ 1 ∷ 5 ∷ 0x81 ∷ 0 ∷ 0x68 ∷ 0xE5 ∷ 0xCF ∷ 0x8B ∷ 1 ∷ [])
    (timed_event 0x81 true (At 1700000000000) ∷ [])

-- unsolicited, asks for a confirmation, analog input 0 is 7; then the same with the next sequence number
abbrev pub reading : Fragment
reading =
    response (0xF1 ∷ 0x82 ∷ 0 ∷ 0 ∷ 0x1E ∷ 2 ∷ 0x17 ∷ 1 ∷ 0 ∷ 1 ∷ 7 ∷ 0 ∷ []) (analog_value 0x01 (pos 7) ∷ [])

abbrev pub next_reading : Fragment
next_reading =
    response (0xF2 ∷ 0x82 ∷ 0 ∷ 0 ∷ 0x1E ∷ 2 ∷ 0x17 ∷ 1 ∷ 0 ∷ 1 ∷ 7 ∷ 0 ∷ []) (analog_value 0x01 (pos 7) ∷ [])

abbrev pub solicited : Fragment
solicited = response (0xC0 ∷ 0x81 ∷ 0 ∷ 0 ∷ []) []

-- the answer to the first poll: input 5 is on, as a static value
abbrev pub integrity_answer : Fragment
integrity_answer =
    response (0xC0 ∷ 0x81 ∷ 0 ∷ 0 ∷ 1 ∷ 2 ∷ 0 ∷ 5 ∷ 5 ∷ 0x81 ∷ []) (static_value 0x81 true ∷ [])

-- the state after steps, the first one first, where none has a fault
abbrev pub after_steps : Setup → State → List Step → State
after_steps s state [] = state
after_steps s state (step ∷ more) = after_steps s (after s state step) more

abbrev pub reached : List Step → State
reached ss = after_steps setup (at_first setup) ss

-- steps at moment 0
abbrev pub outstation_up : Step
outstation_up = steps.OutstationUp 0 0

abbrev pub outstation_down : Step
outstation_down = steps.OutstationDown 0 0

abbrev pub poll : Step
poll = steps.Poll 0 0 0

abbrev pub fragment_of : Fragment → Step
fragment_of f = steps.Fragment f 0

abbrev pub connect : Step
connect = steps.ClientUp 0 0

abbrev pub start : Step
start = steps.Frame 0 (U StartAct) 0

-- the station interrogation, behind so many I formats
abbrev pub interrogate : ℕ → Step
interrogate ns = steps.Frame 0 (I ns 0 interrogation) 0

-- single-command 5001, of which no control is in the settings
abbrev pub operate : Step
operate = steps.Frame 0 (I 0 0 command) 0

abbrev pub pumps : ℕ → List Step
pumps zero = []
pumps (suc n) = steps.Pump 0 0 ∷ pumps n

abbrev pub pump : Step
pump = steps.Pump 0 0

-- the client connects and asks to start
abbrev pub starting : List Step
starting = connect ∷ start ∷ []

-- it gets its confirmation, and the outstation comes up
abbrev pub started : List Step
started = starting ++ pump ∷ outstation_up ∷ []

-- the event came and was put out, the outstation was lost, that was put out, and it came up again
abbrev pub returned : List Step
returned = started ++ fragment_of event ∷ pump ∷ outstation_down ∷ pump ∷ outstation_up ∷ []

-- so many STARTDT acts
abbrev pub starts : ℕ → List Step
starts zero = []
starts (suc n) = start ∷ starts n

-- the state with other counts
abbrev pub counting : ℕ → ℕ → State → State
counting n news s = record s { counts = record { steps = n; news = news; sessions = 1 } }

-- the state after so many sessions
abbrev pub beginning : ℕ → State → State
beginning n s = record s { counts = record s.counts { sessions = n } }

-- clients 0 and 2 are started, and the event was put out to both
abbrev pub two_clients : List Step
two_clients =
    outstation_up ∷ connect ∷ start ∷ pump ∷ steps.ClientUp 2 0 ∷ steps.Frame 2 (U StartAct) 0 ∷ steps.Pump 2 0
    ∷ fragment_of event ∷ pump ∷ steps.Pump 2 0 ∷ []

-- news waited, an interrogation came, and then other news
abbrev pub interrogated : List Step
interrogated = started ++ fragment_of event ∷ interrogate 0 ∷ fragment_of reading ∷ []

-- the last count of 64 bits
abbrev pub last_count : ℕ
last_count = 2 ^ 64 - 1

-- ---- controls

-- the master of an outstation that is down, and of one that is up
abbrev pub down : Master
down = master_down outstation.poll

abbrev pub up : Master
up = master_after_up 0 down

-- a control at an outstation
abbrev pub control_of : ℕ → Control
control_of o = record breaker { outstation = o }

-- the order that is under way there, by SELECT and OPERATE or at once
abbrev pub first_order : Bool → Order
first_order sbo = order 1 4 (Set (pos 1)) sbo

-- an answer to it by so many octets of objects
abbrev pub answer : List ℕ → Step
answer objects = fragment_of (response (0xC0 ∷ 0x81 ∷ 0 ∷ 0 ∷ objects) [])

-- its object with a status
abbrev pub echo : ℕ → List ℕ
echo status = 0x29 ∷ 2 ∷ 0x28 ∷ 1 ∷ 0 ∷ 4 ∷ 0 ∷ 1 ∷ 0 ∷ status ∷ []

-- client 0's order is under way, and two of client 1 wait
abbrev pub three_orders_by : Bool → State
three_orders_by sbo = record (at_first with_controls) {
  outstations = master_after_order 0 (first_order sbo) up ∷ [];
  controls = sent (ordered (sets 0 (pos 1) ∷ sets 1 (pos 2) ∷ sets 1 (pos 3) ∷ []));
}

abbrev pub three_orders : State
three_orders = three_orders_by true

-- which of them a step ends, of which client, and what became of them; and which requests it leaves unanswered
abbrev pub ends : Bool → Step → List (ℕ × (ℕ × Fate))
ends sbo step = map (λ (e : OrderEnd). (e.order, (e.client, e.fate))) (effects_of with_controls (three_orders_by sbo) step).ended

abbrev pub unanswered : Step → List ℕ
unanswered step = (effects_of with_controls three_orders step).unanswered
