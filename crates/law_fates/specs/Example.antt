-- Worked runs of one outstation and one client, which sets 5002 by SELECT and OPERATE three times: the outstation does
-- it, it refuses it, and the session ends before it is asked; and of sessions that end while it is asked.
use Rattle.std.specs.Prelude.{ℕ, Bool, List, [], ◌∷◌, ◌++◌, map}
use Rattle.std.proofs.Common.{lit≤}
use Rattle.iec_apci.specs.declared.apdu.Apdu.TheVariants.{I, U}
use Rattle.iec_apci.specs.declared.apdu.Asdu.{Asdu}
use Rattle.iec_apci.specs.declared.apdu.Signal.TheVariants.{StartAct, StopAct}
use Rattle.dnp_master.specs.Example.{setpoint_answer}
use Rattle.gw_answers.specs.Example.{asdu_with}
use Rattle.gw_control.specs.Example.{setup}
use Rattle.dnp_master.specs.declared.fate.Fate.{Fate}
use Rattle.gw_steps.specs.declared.effects.OrderEnd.{OrderEnd}
use Rattle.gw_steps.specs.declared.step.Step.{Step}
use Rattle.gw_steps.specs.declared.step.Step.TheVariants as steps
use Rattle.gw_steps.specs.Example.{fragment_of, outstation_up, poll, pump, response, starting}
use Rattle.gw_steps.specs.Runs.{Entry}
use Rattle.law_history.specs.Example.{history_of}
use Rattle.law_fates.specs.Fates.{effects_by}
use Rattle.law_fates.specs.Told.{due_by_fates, told_in}

-- the set point 5002 is executed with 1000
abbrev pub set : Asdu
set = asdu_with (0x31 ∷ 1 ∷ 6 ∷ 0 ∷ 1 ∷ 0 ∷ 0x8A ∷ 0x13 ∷ 0 ∷ 0xE8 ∷ 3 ∷ 0 ∷ []) (lit≤ tt)

-- the client is started and the outstation is up, and then these steps were made
abbrev pub made : List Step → List Entry
made ss = history_of setup (starting ++ outstation_up ∷ ss)

-- it is to be set, behind so many I formats
abbrev pub sets : ℕ → Step
sets ns = steps.Frame 0 (I ns 0 set) 0

-- the answer to the request of a sequence number, with a status
abbrev pub answers : ℕ → ℕ → Step
answers control status = fragment_of (response (setpoint_answer (control ∷ 0x81 ∷ 0 ∷ 0 ∷ []) status) [])

abbrev pub done : List Step
done = sets 0 ∷ poll ∷ answers 0xC0 0 ∷ poll ∷ answers 0xC1 0 ∷ []

abbrev pub refused : List Step
refused = done ++ sets 1 ∷ poll ∷ answers 0xC2 4 ∷ []

-- STOPDT act
abbrev pub stops : Step
stops = steps.Frame 0 (U StopAct) 0

abbrev pub let_go : List Step
let_go = refused ++ sets 2 ∷ stops ∷ []

-- its session ends while the order is under way
abbrev pub left : List Step
left = sets 0 ∷ poll ∷ stops ∷ answers 0xC0 0 ∷ poll ∷ answers 0xC1 0 ∷ []

-- what it was told of the first order isn't acknowledged in 15 seconds, and the answer for the second one doesn't come in
-- the last 5 of them
abbrev pub closed : List Step
closed = done ++ pump ∷ pump ∷ sets 1 ∷ steps.Poll 0 10000 0 ∷ steps.Tick 15000 ∷ []

-- client 1 sets it, and leaves before it is asked
abbrev pub of_another : List Step
of_another = steps.ClientUp 1 0 ∷ steps.Frame 1 (U StartAct) 0 ∷ steps.Frame 1 (I 0 0 set) 0 ∷ steps.ClientDown 1 0 ∷ []

-- what became of orders in a history, the newest first
abbrev pub fates : List Entry → List (ℕ × Fate)
fates [] = []
fates (e ∷ past) = map (λ (x : OrderEnd). (x.order, x.fate)) (effects_by setup past e).ended ++ fates past

-- and what the client was told
abbrev pub told : List Entry → List (ℕ × Bool)
told [] = []
told (e ∷ past) = told_in setup past e ++ told past

-- and what it was to be told by their fates
abbrev pub due : List Entry → List (ℕ × Bool)
due [] = []
due (e ∷ past) = due_by_fates setup past e ++ due past
