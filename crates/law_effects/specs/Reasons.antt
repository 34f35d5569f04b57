-- The worked runs of what steps tell of commands and of orders: one outstation with three controls, and two clients.
use Rattle.std.specs.Prelude.{ℕ, zero, suc, ◌+◌, false, List, [], ◌∷◌, ◌++◌, map}
use Rattle.std.specs.Prelude.{Option, option_map, option_and_then, Result, Ok}
use Rattle.std.proofs.Common.{lit≤}
use Rattle.gw_map.specs.Settings.{Setup}
use Rattle.iec_apci.specs.declared.apdu.Apdu.TheVariants.{I, S, U}
use Rattle.iec_apci.specs.declared.apdu.Asdu.{Asdu}
use Rattle.iec_apci.specs.Buffer.{buffer}
use Rattle.iec_apci.specs.declared.apdu.Signal.TheVariants.{StartAct, StopAct}
use Rattle.gw_answers.specs.Example.{asdu_with}
use Rattle.gw_control.specs.Example.{setup as with_controls}
use Rattle.gw_control.specs.declared.answer.Answer.{Answer}
use Rattle.gw_control.specs.declared.refusal.Refusal.{Refusal}
use Rattle.gw_steps.specs.declared.apdu_kind.ApduKind.{ApduKind}
use Rattle.dnp_master.specs.declared.fate.Fate.{Fate}
use Rattle.gw_steps.specs.declared.effects.Judged.{Judged}
use Rattle.gw_steps.specs.declared.effects.OrderEnd.{OrderEnd}
use Rattle.gw_steps.specs.declared.step.Step.{Step}
use Rattle.gw_steps.specs.declared.step.Step.TheVariants as steps
use Rattle.gw_steps.specs.declared.step.Reply.{Reply}
use Rattle.gw_steps.specs.declared.step.Reply.TheVariants as replies
use Rattle.gw_steps.specs.declared.step.StepFault.{StepFault}
use Rattle.gw_steps.specs.State.{State, at_first}
use Rattle.gw_steps.specs.Steps.{outcome}
use Rattle.gw_steps.specs.Effects.{effects_of}
use Rattle.gw_steps.specs.Example.{after_steps, answer, echo, fragment_of, outstation_up, poll}
use Rattle.gw_steps.specs.Example.{pump, response, starting, three_orders, three_orders_by}

-- ---- what clients send

-- the ASDU of a single or a double command, by its type, cause and common address, the low octet of its object's address,
-- which is 0x1300 and more, and its element
abbrev pub command_of_octets : ℕ → ℕ → ℕ → ℕ → ℕ → Asdu
command_of_octets kind cause common low element =
    asdu_with (kind ∷ 1 ∷ cause ∷ 0 ∷ common ∷ 0 ∷ low ∷ 0x13 ∷ 0 ∷ element ∷ []) (lit≤ tt)

-- 5001, which has to be selected, by its SCO; the same deactivated; 5003 by its DCO
abbrev pub switch : ℕ → Asdu
switch element = command_of_octets 0x2D 6 1 0x89 element

abbrev pub switch_no_more : Asdu
switch_no_more = command_of_octets 0x2D 8 1 0x89 0x81

abbrev pub breaker : ℕ → Asdu
breaker element = command_of_octets 0x2E 6 1 0x8B element

-- 5002 is to be set to a value, by its octets and the QOS
abbrev pub set_point : ℕ → ℕ → ℕ → Asdu
set_point low high qualifier =
    asdu_with (0x31 ∷ 1 ∷ 6 ∷ 0 ∷ 1 ∷ 0 ∷ 0x8A ∷ 0x13 ∷ 0 ∷ low ∷ high ∷ qualifier ∷ []) (lit≤ tt)

-- to 1000
abbrev pub set : Asdu
set = set_point 0xE8 3 0

-- a client's ASDU, behind so many I formats, at a moment
abbrev pub sends_at : ℕ → ℕ → ℕ → Asdu → Step
sends_at moment client ns asdu = steps.Frame client (I ns 0 asdu) moment

abbrev pub sends : ℕ → ℕ → Asdu → Step
sends client ns asdu = sends_at 0 client ns asdu

-- so many of one ASDU
abbrev pub sends_all : ℕ → ℕ → ℕ → Asdu → List Step
sends_all client ns zero asdu = []
sends_all client ns (suc n) asdu = sends client ns asdu ∷ sends_all client (ns + 1) n asdu

-- clients 0 and 1 are started, and the outstation is up
abbrev pub both : List Step
both = starting ++ pump ∷ steps.ClientUp 1 0 ∷ steps.Frame 1 (U StartAct) 0 ∷ steps.Pump 1 0 ∷ outstation_up ∷ []

-- ---- why commands are refused

abbrev pub state_behind : Setup → List Step → State
state_behind setup ss = after_steps setup (at_first setup) (both ++ ss)

-- what a step told of its command behind these steps
abbrev pub judged_in : Setup → List Step → Step → Option Judged
judged_in setup ss step = (effects_of setup (state_behind setup ss) step).command

abbrev pub refusal_in : Setup → List Step → Step → Option Refusal
refusal_in setup ss step = option_and_then (λ (x : Judged). x.refusal) (judged_in setup ss step)

abbrev pub refusal_behind : List Step → Step → Option Refusal
refusal_behind ss step = refusal_in with_controls ss step

-- and what is answered to it
abbrev pub answer_behind : List Step → Step → Option Answer
answer_behind ss step = option_map (λ (x : Judged). x.answer) (judged_in with_controls ss step)

-- 16 orders of both clients wait
abbrev pub sixteen : List Step
sixteen = sends_all 0 0 8 set ++ sends_all 1 0 8 set

-- ---- what comes back

-- single commands and one of a type that isn't known: of type 47, of cause 3, under common address 9, and for object 5004
abbrev pub unknown : List Asdu
unknown =
    command_of_octets 47 6 1 0x89 1 ∷ command_of_octets 0x2D 3 1 0x89 1 ∷ command_of_octets 0x2D 6 9 0x89 1
    ∷ command_of_octets 0x2D 6 1 0x8C 1 ∷ []

-- what a client's first ASDU is, and what is put out to the client then
abbrev pub kind_told : Asdu → Option ApduKind
kind_told asdu = (effects_of with_controls (state_behind with_controls []) (sends 0 0 asdu)).apdu

abbrev pub put_out : Asdu → Result Reply StepFault
put_out asdu = outcome with_controls (state_behind with_controls (sends 0 0 asdu ∷ [])) pump

-- the same with another cause
abbrev pub sent_back : ℕ → ℕ → ℕ → ℕ → Result Reply StepFault
sent_back kind cause common low = Ok (replies.Apdu (buffer (0x68 ∷ 0x0E ∷ 0 ∷ 0 ∷ 2 ∷ 0
    ∷ kind ∷ 1 ∷ cause ∷ 0 ∷ common ∷ 0 ∷ low ∷ 0x13 ∷ 0 ∷ 1 ∷ [])))

-- ---- what becomes of orders

-- which orders a step ends in a state, of which client, and what became of them
abbrev pub ends_in : State → Step → List (ℕ × (ℕ × Fate))
ends_in s step = map (λ (e : OrderEnd). (e.order, (e.client, e.fate))) (effects_of with_controls s step).ended

-- of three orders by SELECT and OPERATE the first one was selected; and then OPERATE was asked for
abbrev pub selected : State
selected = after_steps with_controls three_orders (answer (echo 0) ∷ [])

abbrev pub operated : State
operated = after_steps with_controls selected (poll ∷ [])

-- the answer to OPERATE, by so many octets of objects
abbrev pub answer_to_operate : List ℕ → Step
answer_to_operate objects = fragment_of (response (0xC1 ∷ 0x81 ∷ 0 ∷ 0 ∷ objects) [])

-- the first fragment of an answer to the first request, and the last one
abbrev pub first_fragment : List ℕ → Step
first_fragment objects = fragment_of (response (0x80 ∷ 0x81 ∷ 0 ∷ 0 ∷ objects) [])

abbrev pub last_fragment : List ℕ → Step
last_fragment objects = fragment_of (response (0x41 ∷ 0x81 ∷ 0 ∷ 0 ∷ objects) [])

-- behind other steps, where the first order is to be done at once
abbrev pub ends_behind : List Step → Step → List (ℕ × (ℕ × Fate))
ends_behind ss step = ends_in (after_steps with_controls (three_orders_by false) ss) step

-- both clients were told of a refusal at moment 0, which they didn't acknowledge; the first order, of client 0, is under
-- way since 10 seconds later, and behind it one of client 1 waits, and one of client 0
abbrev pub unacknowledged : List Step
unacknowledged =
    sends 0 0 (breaker 0) ∷ pump ∷ sends 1 0 (breaker 0) ∷ steps.Pump 1 0
    ∷ sends 0 1 set ∷ sends 1 1 set ∷ sends 0 2 set ∷ steps.Poll 0 10000 0 ∷ []

abbrev pub ends_then : List Step → Step → List (ℕ × (ℕ × Fate))
ends_then ss step = ends_in (state_behind with_controls (unacknowledged ++ ss)) step

-- a client acknowledges that
abbrev pub acknowledges : ℕ → Step
acknowledges client = steps.Frame client (S 1) 10000

-- STOPDT act of a client
abbrev pub stops : ℕ → Step
stops client = steps.Frame client (U StopAct) 10000
