-- Worked runs of one outstation and two clients: 5002 is set by SELECT and OPERATE. Sessions end in between, answers
-- are late, and the outstation is lost.
use Rattle.std.specs.Prelude.{ℕ, List, [], ◌∷◌, ◌++◌}
use Rattle.iec_apci.specs.declared.apdu.Apdu.TheVariants.{I, U}
use Rattle.iec_apci.specs.declared.apdu.Asdu.{Asdu}
use Rattle.iec_apci.specs.declared.apdu.Signal.TheVariants.{StartAct, StopAct}
use Rattle.dnp_master.specs.Example.{latch_answer}
use Rattle.gw_control.specs.Example.{setup}
use Rattle.gw_station.specs.Example.{command, execute}
use Rattle.gw_steps.specs.declared.step.Step.{Step}
use Rattle.gw_steps.specs.declared.step.Step.TheVariants as steps
use Rattle.gw_steps.specs.Example.{fragment_of, poll, response}
use Rattle.gw_steps.specs.Runs.{Entry}
use Rattle.law_orders.specs.BondExample.{sends, set}
use Rattle.law_orders.specs.Outcomes.{Telling, due}

-- a client's ASDU, behind so many I formats
abbrev pub sends_by : ℕ → ℕ → Asdu → ℕ → Step
sends_by client ns asdu moment = steps.Frame client (I ns 0 asdu) moment

-- STOPDT act of client 0, and the loss of its connection
abbrev pub stops : Step
stops = steps.Frame 0 (U StopAct) 0

abbrev pub leaves : Step
leaves = steps.ClientDown 0 0

-- client 1 connects and asks to start
abbrev pub joining : List Step
joining = steps.ClientUp 1 0 ∷ steps.Frame 1 (U StartAct) 0 ∷ []

-- time passes
abbrev pub ticks : ℕ → Step
ticks moment = steps.Tick moment

-- 5001 is switched on directly, and 5002 is to be set behind it
abbrev pub switching_first : List Step
switching_first = sends 0 command ∷ sends 1 execute ∷ sends 2 set ∷ poll ∷ []

-- the outstation did it
abbrev pub switched : Step
switched = fragment_of (response (latch_answer (0xC1 ∷ 0x81 ∷ 0 ∷ 0 ∷ []) 0) [])

-- one order is under way, and two of client 1 wait
abbrev pub three_orders : List Step
three_orders = joining ++ sends 0 set ∷ poll ∷ sends_by 1 0 set 0 ∷ sends_by 1 1 set 0 ∷ []

-- what the newest entry has to tell
abbrev pub newly_due : List Entry → List Telling
newly_due [] = []
newly_due (e ∷ past) = due setup past e
