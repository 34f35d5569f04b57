-- Worked runs of one outstation and two clients: 5001 has to be selected before it is executed.
use Rattle.std.specs.Prelude.{ℕ, zero, suc, ◌+◌, List, [], ◌∷◌, ◌++◌, Option, Some, None}
use Rattle.std.proofs.Common.{lit≤}
use Rattle.iec_apci.specs.declared.apdu.Asdu.{Asdu}
use Rattle.iec_command.specs.declared.command.Command.{Command}
use Rattle.gw_answers.specs.Example.{asdu_with}
use Rattle.gw_control.specs.Example.{setup}
use Rattle.gw_control.specs.Intents.{control_for}
use Rattle.gw_station.specs.declared.event.Said.{Said}
use Rattle.gw_station.specs.Example.{command}
use Rattle.gw_steps.specs.declared.step.Step.{Step}
use Rattle.gw_steps.specs.Runs.{Entry, unless_fault}
use Rattle.law_orders.specs.Executes.{Execute}
use Rattle.law_orders.specs.BondExample.{made, sends, set}
use Rattle.law_orders.specs.OutcomeExample.{joining, sends_by}
use Rattle.law_orders.specs.Commands.{execute_due, orders, said_due}
use Rattle.law_orders.specs.Selections.{command_taken, moment_at}

-- ---- what the newest entry gets

-- the execute that it makes an order
abbrev pub newly_accepted : List Entry → Option Execute
newly_accepted [] = None
newly_accepted (e ∷ past) = unless_fault None (execute_due setup (orders setup past) past e.step) e.reply

abbrev pub said_of : List Entry → ℕ → Option (ℕ × Command) → Option Said
said_of past moment None = None
said_of past moment (Some came) =
    Some (said_due setup (orders setup past) past came.0 moment came.1 (control_for setup came.1))

-- what is said of the command in it
abbrev pub newly_said : List Entry → Option Said
newly_said [] = None
newly_said (e ∷ past) =
    said_of past (moment_at past e.step) (unless_fault None (command_taken setup e.step) e.reply)

-- ---- what clients send

-- 5001 is switched off by an execute, and its selection is taken back
abbrev pub execute_off : Asdu
execute_off = asdu_with (0x2D ∷ 1 ∷ 6 ∷ 0 ∷ 1 ∷ 0 ∷ 0x89 ∷ 0x13 ∷ 0 ∷ 0 ∷ []) (lit≤ tt)

abbrev pub deactivation : Asdu
deactivation = asdu_with (0x2D ∷ 1 ∷ 8 ∷ 0 ∷ 1 ∷ 0 ∷ 0x89 ∷ 0x13 ∷ 0 ∷ 0x81 ∷ []) (lit≤ tt)

-- client 0 selected 5001 at moment 0, and then a client sends this
abbrev pub then_sent : ℕ → Asdu → ℕ → List Entry
then_sent zero asdu moment = made (joining ++ sends 0 command ∷ sends_by 0 1 asdu moment ∷ [])
then_sent (suc c) asdu moment = made (joining ++ sends 0 command ∷ sends_by 1 0 asdu moment ∷ [])

-- a client sets 5002 so many times
abbrev pub sets : ℕ → ℕ → ℕ → List Step
sets client ns zero = []
sets client ns (suc n) = sends_by client ns set 0 ∷ sets client (ns + 1) n
