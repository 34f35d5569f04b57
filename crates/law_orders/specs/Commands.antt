-- How each command for a control is answered, by steps and replies alone: a deactivation is confirmed where its client
-- has the control selected; a select where its value is permitted and no other client has it selected; an execute is
-- accepted under five conditions (is_accepted). All else is confirmed negatively. Which orders are pending is told by
-- the executes that were accepted so (orders).
use Rattle.std.specs.Prelude.{◌≡◌, ◌↔◌, ℕ, suc, Bool, true, false, not, ◌&&◌, ◌||◌}
use Rattle.std.specs.Prelude.{nat_lt, List, [], ◌∷◌, ◌++◌, length, slice_get, take, Option}
use Rattle.std.specs.Prelude.{Some, None, Result, Ok, Err, if◌then◌else◌, IsSomeAnd}
use Rattle.std.specs.List.{filter}
use Rattle.std.specs.Option.{option_to_list}
use Rattle.gw_model.specs.First.{when}
use Rattle.gw_entries.specs.declared.control.Control.{Control}
use Rattle.gw_entries.specs.declared.control.Operates.{Operates}
use Rattle.gw_entries.specs.declared.control.Operates.TheVariants as operated
use Rattle.gw_map.specs.Settings.{Setup}
use Rattle.iec_apci.specs.declared.apdu.Apdu.TheVariants.{I}
use Rattle.iec_command.specs.declared.command.Command.{Command}
use Rattle.iec_command.specs.Commands.{command_of, type_of}
use Rattle.gw_control.specs.Intents.{control_for}
use Rattle.gw_control.specs.Selections.{is_select}
use Rattle.gw_judge.specs.Acceptable.{IsAcceptable}
use Rattle.gw_station.specs.declared.event.Said.{Said}
use Rattle.gw_station.specs.declared.event.Said.TheVariants.{Confirm, Negative, Ordered}
use Rattle.gw_steps.specs.declared.step.Step.{Step}
use Rattle.gw_steps.specs.declared.step.Step.TheVariants as steps
use Rattle.gw_steps.specs.declared.step.Reply.{Reply}
use Rattle.gw_steps.specs.declared.step.Reply.TheVariants as replies
use Rattle.gw_steps.specs.declared.step.StepFault.{StepFault}
use Rattle.gw_steps.specs.Steps.{moment_of}
use Rattle.gw_steps.specs.Runs.{Entry, unless_fault}
use Rattle.law_history.specs.Life.{said_in}
use Rattle.law_history.specs.Up.{is_outstation_up}
use Rattle.law_orders.specs.Executes.{Execute, execute_in, executes}
use Rattle.law_orders.specs.Marks.{marks}
use Rattle.law_orders.specs.Pending.{Pending, is_marked, left_pending, order_made, pending}
use Rattle.law_orders.specs.Selections.{command_taken, commands_control, is_deactivation, is_free_for, is_permitted}
use Rattle.law_orders.specs.Selections.{is_selected_by, is_selected_for, may_select, moment_at, selected, standing}

-- what was told of orders so far
pub record Orders : Type 0 where
  -- the executes that were accepted, newest first
  pub accepted : List Execute
  -- for each outstation its orders that are pending, oldest first
  pub pending_to : ℕ → List Pending

-- ---- when an execute is accepted

-- orders towards outstation o that nothing asked for yet
abbrev pub waiting : Orders → List Entry → ℕ → List Pending
waiting orders past o = filter (λ p. not (is_marked (marks p.number past))) (orders.pending_to o)

-- an execute of client c for the control at a position is accepted at a moment: it is permitted, the outstation is up,
-- no other client has the control selected, this one has where the control wants that, and fewer than 16 orders wait
abbrev pub is_accepted : Setup → Orders → List Entry → ℕ → ℕ → ℕ → Control → Command → Bool
is_accepted setup orders past c moment position control command =
    is_permitted control command
    && is_outstation_up control.outstation past
    && is_free_for c (standing setup position moment past)
    && (not control.select || is_selected_for c command.action (standing setup position moment past))
    && nat_lt (length (waiting orders past control.outstation)) 16

-- ---- what is said

abbrev pub confirmed_if : Bool → Said
confirmed_if true = Confirm
confirmed_if false = Negative

-- of a command of client c for the control at a position
abbrev pub said_for : Setup → Orders → List Entry → ℕ → ℕ → ℕ → Control → Command → Said
said_for setup orders past c moment position control command =
    if is_deactivation command then confirmed_if (is_selected_by c (standing setup position moment past))
    else if is_select command.action
    then confirmed_if (may_select setup c moment control command (selected setup position past))
    else if is_accepted setup orders past c moment position control command then Ordered else Negative

-- a command for no control is none that is taken: it comes back with 47
abbrev pub said_due : Setup → Orders → List Entry → ℕ → ℕ → Command → Option (ℕ × Control) → Said
said_due setup orders past c moment command None = Negative
said_due setup orders past c moment command (Some found) =
    said_for setup orders past c moment found.0 found.1 command

-- ---- which executes are accepted

abbrev pub is_execute : Command → Bool
is_execute command = not (is_deactivation command) && not (is_select command.action)

abbrev pub execute_for : Setup → Orders → List Entry → ℕ → ℕ → Command → Option (ℕ × Control) → Option Execute
execute_for setup orders past c moment command None = None
execute_for setup orders past c moment command (Some found) =
    when (is_execute command && is_accepted setup orders past c moment found.0 found.1 command)
    (record { client = c; control = found.1; command = command })

abbrev pub execute_by : Setup → Orders → List Entry → ℕ → Option (ℕ × Command) → Option Execute
execute_by setup orders past moment None = None
execute_by setup orders past moment (Some came) =
    execute_for setup orders past came.0 moment came.1 (control_for setup came.1)

abbrev pub execute_due : Setup → Orders → List Entry → Step → Reply → Option Execute
execute_due setup orders past step reply =
    execute_by setup orders past (moment_at past step) (command_taken setup step reply)

-- ---- the orders of a history

-- an entry makes this execute an order, if there is one
abbrev pub orders_making : Setup → List Entry → Entry → Reply → Orders → Option Execute → Orders
orders_making setup past e reply before x = record {
  accepted = option_to_list x ++ before.accepted;
  pending_to = λ o. left_pending setup o past e (before.pending_to o) reply
      ++ option_to_list (order_made o (suc (length before.accepted)) x);
}

abbrev pub orders_with : Setup → List Entry → Entry → Orders → Reply → Orders
orders_with setup past e before reply =
    orders_making setup past e reply before (execute_due setup before past e.step reply)

abbrev pub orders_after : Setup → List Entry → Entry → Orders → Orders
orders_after setup past e before = unless_fault before (orders_with setup past e before) e.reply

abbrev pub orders : Setup → List Entry → Orders
orders setup [] = record { accepted = []; pending_to = λ o. [] }
orders setup (e ∷ past) = orders_after setup past e (orders setup past)

-- ---- the law

-- octets are a command for a control: they spell it, its cause, common address and object address are this station's,
-- and its type is 45, 46 or 49
pub record IsCarried (setup : Setup) (octets : List ℕ) (command : Command) : Type 0 where
  pub spelled : command_of octets ≡ Ok command
  pub acceptable : IsAcceptable setup command
  pub control : commands_control command.action ≡ true

-- an I format that is taken gives just the command that its ASDU carries, and nothing else gives one
abbrev pub TakesCarried : Setup → Step → Reply → Type 0
TakesCarried setup (steps.Frame c (I ns nr asdu) moment) replies.Taken = (command : Command)
    → (command_taken setup (steps.Frame c (I ns nr asdu) moment) replies.Taken ≡ Some (c, command))
    ↔ IsCarried setup (take asdu.len asdu.octets) command
TakesCarried setup step reply = command_taken setup step reply ≡ None

-- the type that operates a control
abbrev pub type_operating : Operates → ℕ
type_operating (operated.Single pulses) = 45
type_operating (operated.Double pulses) = 46
type_operating (operated.Setpoint scale) = 49

-- the control at a position is that of a command: it has its addresses, and its type operates it
pub record IsControlOf (setup : Setup) (command : Command) (found : ℕ × Control) : Type 0 where
  pub at : slice_get setup.controls found.0 ≡ Some found.1
  pub has_common_address : found.1.common_address ≡ command.common_address
  pub has_address : found.1.address ≡ command.address
  pub has_type : type_operating found.1.operates ≡ type_of command.action

-- a command that is taken is for a control
abbrev pub IsForControl : Setup → Option (ℕ × Command) → Type 0
IsForControl setup None = Unit {0}
IsForControl setup (Some came) = IsSomeAnd (control_for setup came.1) (IsControlOf setup came.1)

-- of a command that is taken is said what is due
abbrev pub SaysDue : Setup → List Entry → Step → Option (ℕ × Command) → Type 0
SaysDue setup past step None = Unit {0}
SaysDue setup past step (Some came) = said_in setup came.0 past (moment_of step) came.1
    ≡ said_due setup (orders setup past) past came.0 (moment_at past step) came.1 (control_for setup came.1)

pub record AnswersDue (setup : Setup) (past : List Entry) (e : Entry) (reply : Reply) : Type 0 where
  pub taken : TakesCarried setup e.step reply
  pub control : IsForControl setup (command_taken setup e.step reply)
  pub said : SaysDue setup past e.step (command_taken setup e.step reply)
  -- an execute is accepted where it is due, and no other one is
  pub execute : execute_in setup past e ≡ execute_due setup (orders setup past) past e.step reply

-- a step with a fault takes no command
abbrev pub AnswersBy : Setup → List Entry → Entry → Result Reply StepFault → Type 0
AnswersBy setup past e (Ok reply) = AnswersDue setup past e reply
AnswersBy setup past e (Err fault) = execute_in setup past e ≡ None

abbrev pub AnswersLast : Setup → List Entry → Type 0
AnswersLast setup [] = Unit {0}
AnswersLast setup (e ∷ past) = AnswersBy setup past e e.reply

pub record AnswersCommands (setup : Setup) (past : List Entry) : Type 0 where
  -- the command in the newest entry
  pub last : AnswersLast setup past
  -- the executes that the controls answered with an order, and the orders that are pending, are those told here
  pub executes_are : executes setup past ≡ (orders setup past).accepted
  pub pending_are : (o : ℕ) → pending setup o past ≡ (orders setup past).pending_to o
