-- Faults: why a step isn't made, told by the history. NoOutstation or NoClient: there is none of its number. Else
-- NotUp: that one isn't up; or, of a step by which it comes up, AlreadyUp: it is. Else Spent: by the step one of the
-- counts would reach 2^64, of the steps without a fault, the news and losses in the log, the sessions, the orders.
-- Where none of these holds the step is made; only the act of an interrogation that is accepted may be answered with
-- Memory. Which commands are orders is what the controls told, as in a client's life.
use Rattle.std.specs.Prelude.{◌≡◌, ℕ, ◌+◌, ◌^◌, Bool, true, false, not, ◌&&◌, ◌||◌, is_none, is_some}
use Rattle.std.specs.Prelude.{nat_le, IsTrue, List, [], ◌∷◌, ◌++◌, length, Option, Some, None, Result, Ok, Err}
use Rattle.gw_model.specs.First.{when, first_of}
use Rattle.gw_map.specs.Settings.{Setup}
use Rattle.iec_apci.specs.declared.apdu.Apdu.{Apdu}
use Rattle.iec_apci.specs.declared.apdu.Apdu.TheVariants.{I, U}
use Rattle.iec_apci.specs.declared.apdu.Signal.TheVariants.{StartAct}
use Rattle.iec_command.specs.declared.command.Command.{Command}
use Rattle.gw_judge.specs.declared.judging.Judged.{Judged}
use Rattle.gw_judge.specs.declared.judging.Judged.TheVariants.{Accepted}
use Rattle.gw_answers.specs.Interrogations.{is_accepted_act}
use Rattle.gw_station.specs.declared.event.Said.{Said}
use Rattle.gw_station.specs.declared.event.Said.TheVariants.{Ordered}
use Rattle.gw_station.specs.Frames.{command_in, judged_asdu}
use Rattle.gw_steps.specs.declared.step.Step.{Step}
use Rattle.gw_steps.specs.declared.step.Step.TheVariants as steps
use Rattle.gw_steps.specs.declared.step.Reply.{Reply}
use Rattle.gw_steps.specs.declared.step.StepFault.{StepFault}
use Rattle.gw_steps.specs.declared.step.StepFault.TheVariants.{NoOutstation, NoClient, NotUp, AlreadyUp, Memory, Spent}
use Rattle.gw_steps.specs.Runs.{Entry, unless_fault}
use Rattle.gw_steps.specs.State.{client_limit}
use Rattle.gw_steps.specs.Steps.{one_if}
use Rattle.law_history.specs.Life.{said_in, session, turns_in}
use Rattle.law_history.specs.Log.{log_of, news_of_step}
use Rattle.law_history.specs.Up.{is_outstation_up}
use Rattle.law_clients.specs.Closes.{close_due}
use Rattle.law_clients.specs.Connection.{Connection, connection, is_so, turns}
use Rattle.law_clients.specs.Interrogations.{interrogation, is_pending}

-- ---- who is there, and up

-- client c is up: its connection stands
abbrev pub is_client_up : Setup → ℕ → List Entry → Bool
is_client_up setup c past = is_some (connection setup c past)

abbrev pub no_outstation : Setup → ℕ → Option StepFault
no_outstation setup o = when (nat_le (length setup.outstations) o) NoOutstation

abbrev pub no_client : ℕ → Option StepFault
no_client c = when (nat_le client_limit c) NoClient

-- of a step for which it has to be up
abbrev pub outstation_faults : Setup → List Entry → ℕ → List (Option StepFault)
outstation_faults setup past o = no_outstation setup o ∷ when (not (is_outstation_up o past)) NotUp ∷ []

abbrev pub client_faults : Setup → List Entry → ℕ → List (Option StepFault)
client_faults setup past c = no_client c ∷ when (not (is_client_up setup c past)) NotUp ∷ []

abbrev pub faults_of_actor : Setup → List Entry → Step → List (Option StepFault)
faults_of_actor setup past (steps.OutstationUp o moment) =
    no_outstation setup o ∷ when (is_outstation_up o past) AlreadyUp ∷ []
faults_of_actor setup past (steps.ClientUp c moment) = no_client c ∷ when (is_client_up setup c past) AlreadyUp ∷ []
faults_of_actor setup past (steps.OutstationDown o moment) = outstation_faults setup past o
faults_of_actor setup past (steps.Fragment f moment) = outstation_faults setup past f.outstation
faults_of_actor setup past (steps.Poll o moment wall) = outstation_faults setup past o
faults_of_actor setup past (steps.ClientDown c moment) = client_faults setup past c
faults_of_actor setup past (steps.Frame c apdu moment) = client_faults setup past c
faults_of_actor setup past (steps.Pump c moment) = client_faults setup past c
faults_of_actor setup past (steps.Tick moment) = []

-- ---- what an APDU is to its connection

abbrev pub is_taken : Setup → Apdu → Connection → Bool
is_taken setup apdu x = is_none (close_due setup (turns x) apdu)

-- STARTDT act, while no session stands
abbrev pub begins : Setup → Apdu → Connection → Bool
begins setup (U StartAct) x = is_none (session (turns x)) && is_taken setup (U StartAct) x
begins setup _ x = false

-- an ASDU that was judged is an act that is accepted, where an interrogation is pending, or isn't
abbrev pub is_act : Bool → Judged → Bool
is_act pending (Accepted command) = is_accepted_act pending command
is_act pending _ = false

-- the act of an interrogation that is accepted
abbrev pub interrogates : Setup → Apdu → Connection → Bool
interrogates setup (I ns nr asdu) x = is_taken setup (I ns nr asdu) x
    && is_act (is_pending (interrogation setup (turns_in (session (turns x))))) (judged_asdu setup asdu)
interrogates setup _ x = false

abbrev pub is_ordered : Said → Bool
is_ordered Ordered = true
is_ordered _ = false

-- a command that is accepted as an order, where this is said of commands
abbrev pub orders : Setup → (Command → Said) → Apdu → Connection → Bool
orders setup said apdu x = is_taken setup apdu x && is_so (λ command. is_ordered (said command)) (command_in setup apdu)

-- ---- what is counted

-- how much a step adds to a count
abbrev pub Adds : Type 0
Adds = Setup → List Entry → Step → ℕ

abbrev pub one_step : Adds
one_step setup past step = 1

abbrev pub news_added : Adds
news_added setup past step = length (news_of_step setup (log_of setup past) past step)

abbrev pub sessions_added : Adds
sessions_added setup past (steps.Frame c apdu moment) = one_if (is_so (begins setup apdu) (connection setup c past))
sessions_added setup past _ = 0

abbrev pub orders_added : Adds
orders_added setup past (steps.Frame c apdu moment) =
    one_if (is_so (orders setup (said_in setup c past moment) apdu) (connection setup c past))
orders_added setup past _ = 0

-- what the steps without a fault added
abbrev pub count : Adds → Setup → List Entry → ℕ
count adds setup [] = 0
count adds setup (e ∷ past) =
    let so_far = count adds setup past in unless_fault so_far (λ reply. so_far + adds setup past e.step) e.reply

-- a step that adds so much can't be counted in 64 bits
abbrev pub is_spent_of : Adds → Setup → List Entry → Step → Bool
is_spent_of adds setup past step = nat_le (2 ^ 64) (count adds setup past + adds setup past step)

abbrev pub is_spent : Setup → List Entry → Step → Bool
is_spent setup past step =
    is_spent_of one_step setup past step
    || is_spent_of news_added setup past step
    || is_spent_of sessions_added setup past step
    || is_spent_of orders_added setup past step

-- ---- the law

-- why a step isn't made
abbrev pub fault_due : Setup → List Entry → Step → Option StepFault
fault_due setup past step = first_of (faults_of_actor setup past step ++ when (is_spent setup past step) Spent ∷ [])

abbrev pub wants_memory : Setup → List Entry → Step → Bool
wants_memory setup past (steps.Frame c apdu moment) =
    is_so (interrogates setup apdu) (connection setup c past)
wants_memory setup past _ = false

abbrev pub FaultsBy : Setup → List Entry → Step → Result Reply StepFault → Type 0
FaultsBy setup past step (Ok reply) = fault_due setup past step ≡ None
FaultsBy setup past step (Err Memory) = (fault_due setup past step ≡ None) × IsTrue (wants_memory setup past step)
FaultsBy setup past step (Err fault) = fault_due setup past step ≡ Some fault

abbrev pub Faults : Setup → List Entry → Type 0
Faults setup [] = Unit {0}
Faults setup (e ∷ past) = FaultsBy setup past e.step e.reply
