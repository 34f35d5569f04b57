-- Worked runs of one outstation and one client, with two controls: 5001, which clients have to select, and which is
-- operated directly; and 5002, which is selected before it is operated.
use Rattle.std.specs.Prelude.{ℕ, pos, true, List, [], ◌∷◌, ◌++◌}
use Rattle.std.proofs.Common.{lit≤}
use Rattle.gw_model.specs.declared.control.Act.TheVariants.{Switch, Set}
use Rattle.gw_model.specs.declared.control.Shape.TheVariants.{Latch}
use Rattle.iec_apci.specs.declared.apdu.Apdu.TheVariants.{I}
use Rattle.iec_apci.specs.declared.apdu.Asdu.{Asdu}
use Rattle.dnp_app.specs.declared.operation.Operation.{Operation}
use Rattle.dnp_app.specs.declared.request.Request.{Request}
use Rattle.dnp_app.specs.Requests.{bound_request, control_octets}
use Rattle.dnp_master.specs.Example.{latch_answer, setpoint_answer}
use Rattle.gw_answers.specs.Example.{asdu_with}
use Rattle.gw_control.specs.Example.{setup}
use Rattle.gw_station.specs.Example.{command, execute}
use Rattle.gw_steps.specs.declared.step.Step.{Step}
use Rattle.gw_steps.specs.declared.step.Step.TheVariants as steps
use Rattle.gw_steps.specs.Example.{fragment_of, poll, response, solicited, started}
use Rattle.gw_steps.specs.Runs.{Entry}
use Rattle.law_history.specs.Example.{history_of}

-- the integrity poll was answered, and then these steps were made
abbrev pub made : List Step → List Entry
made ss = history_of setup (started ++ poll ∷ fragment_of solicited ∷ ss)

-- an ASDU of client 0, behind so many I formats
abbrev pub sends : ℕ → Asdu → Step
sends ns asdu = steps.Frame 0 (I ns 0 asdu) 0

-- ---- 5001 is switched on

abbrev pub switched : List Step
switched =
    sends 0 command ∷ sends 1 execute ∷ poll
    ∷ fragment_of (response (latch_answer (0xC1 ∷ 0x81 ∷ 0 ∷ 0 ∷ []) 4) []) ∷ poll ∷ []

abbrev pub switching : Operation → ℕ → Request
switching operation sequence = bound_request 1 (control_octets operation 3 (Switch true Latch) sequence)

-- ---- 5002 is set to 1000

-- the set point is executed
abbrev pub set : Asdu
set = asdu_with (0x31 ∷ 1 ∷ 6 ∷ 0 ∷ 1 ∷ 0 ∷ 0x8A ∷ 0x13 ∷ 0 ∷ 0xE8 ∷ 3 ∷ 0 ∷ []) (lit≤ tt)

-- SELECT was answered so, and then these steps were made
abbrev pub selected : ℕ → List Step → List Step
selected status more =
    sends 0 set ∷ poll ∷ fragment_of (response (setpoint_answer (0xC1 ∷ 0x81 ∷ 0 ∷ 0 ∷ []) status) []) ∷ more

abbrev pub operated : Step
operated = fragment_of (response (setpoint_answer (0xC2 ∷ 0x81 ∷ 0 ∷ 0 ∷ []) 0) [])

abbrev pub setting : Operation → ℕ → Request
setting operation sequence = bound_request 1 (control_octets operation 4 (Set (pos 1000)) sequence)
