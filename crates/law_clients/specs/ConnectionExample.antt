-- Worked runs of a client, at a station with k = 3, w = 2, t1 = 7 s, t2 = 3 s and t3 = 9 s, one outstation, and a
-- control by set-point commands at 5002.
use Rattle.std.specs.Prelude.{ℕ, List, [], ◌∷◌, ◌++◌, replicate, unwrap_or, Option, Err}
use Rattle.std.proofs.Common.{lit≤}
use Rattle.gw_map.specs.Settings.{Setup}
use Rattle.iec_apci.specs.declared.apdu.Asdu.{Asdu}
use Rattle.iec_apci.specs.declared.apdu.Apdu.{Apdu}
use Rattle.iec_apci.specs.declared.apdu.Apdu.TheVariants.{I, U}
use Rattle.iec_apci.specs.declared.apdu.Signal.TheVariants.{StartAct, TestAct}
use Rattle.gw_answers.specs.Example.{asdu_with}
use Rattle.gw_judge.specs.Example.{setpoint}
use Rattle.iec_apci.specs.declared.why.Why.{Why}
use Rattle.gw_station.specs.Example.{reading}
use Rattle.gw_steps.specs.declared.step.Step.{Step}
use Rattle.gw_steps.specs.declared.step.Step.TheVariants as steps
use Rattle.gw_steps.specs.declared.step.StepFault.{StepFault}
use Rattle.gw_steps.specs.declared.step.StepFault.TheVariants.{Spent}
use Rattle.gw_steps.specs.Runs.{Entry}
use Rattle.gw_steps.specs.Example.{event, outstation_up, setup as usual}
use Rattle.law_history.specs.Example.{history_of}
use Rattle.law_clients.specs.Closes.{close_due}
use Rattle.law_clients.specs.Connection.{Connection, connection, turns}
use Rattle.law_clients.specs.Faults.{fault_due}

abbrev pub setup : Setup
setup = record usual {
  station = record usual.station { k = 3; w = 2; t1_ms = 7000; t2_ms = 3000; t3_ms = 9000 };
  controls = setpoint ∷ [];
}

abbrev pub passed : List Step → List Entry
passed ss = history_of setup ss

-- the connection after steps
abbrev pub reached : List Step → Connection
reached ss = unwrap_or (connection setup 0 (passed ss)) (record { began = 0; timed = [] })

abbrev pub pump : ℕ → Step
pump moment = steps.Pump 0 moment

abbrev pub pumps : ℕ → ℕ → List Step
pumps n moment = replicate n (pump moment)

abbrev pub comes : Apdu → ℕ → Step
comes apdu moment = steps.Frame 0 apdu moment

-- the client connected at moment 500, and nothing came since
abbrev pub connected : List Step
connected = steps.ClientUp 0 500 ∷ []

-- TESTFR act was put out as soon as it was due
abbrev pub tested : List Step
tested = connected ++ pump 9500 ∷ []

-- STARTDT was confirmed
abbrev pub started : List Step
started = connected ++ comes (U StartAct) 600 ∷ pump 600 ∷ outstation_up ∷ []

-- two reads came
abbrev pub read_twice : List Step
read_twice = started ++ comes (I 0 0 reading) 1000 ∷ comes (I 1 0 reading) 1500 ∷ []

-- the event was put out twice
abbrev pub told_twice : List Step
told_twice = started ++ steps.Fragment event 2000 ∷ pump 2000 ∷ steps.OutstationDown 0 2100 ∷ pump 2500 ∷ []

-- so many TESTFR acts came
abbrev pub flooded : ℕ → List Step
flooded n = started ++ replicate n (comes (U TestAct) 700)

-- three I formats aren't acknowledged, and the answer to a second read waits
abbrev pub full : List Step
full = told_twice ++ comes (I 0 0 reading) 2600 ∷ pump 2600 ∷ comes (I 1 0 reading) 2700 ∷ []

-- the set-point 5002 is to be 7
abbrev pub set_to_seven : Asdu
set_to_seven =
    asdu_with (0x31 ∷ 1 ∷ 6 ∷ 0 ∷ 1 ∷ 0 ∷ 0x8A ∷ 0x13 ∷ 0 ∷ 7 ∷ 0 ∷ 0 ∷ []) (lit≤ tt)

-- the outstation's connection would stand, but this was refused
abbrev pub refused : List Entry
refused = record { step = outstation_up; reply = Err Spent } ∷ []

-- why a step isn't made then
abbrev pub fault_then : List Step → Step → Option StepFault
fault_then ss step = fault_due setup (passed ss) step

-- why an APDU that comes then closes the connection
abbrev pub closes_then : List Step → Apdu → Option Why
closes_then ss apdu = close_due setup (turns (reached ss)) apdu
