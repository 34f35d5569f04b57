-- The executes of a history that were accepted: each became an order. Orders are numbered from 1, in the order in which
-- their executes came.
use Rattle.std.specs.Prelude.{ℕ, suc, ◌==◌, List, [], ◌∷◌, ◌++◌, length, slice_get, Option, Some, None, if◌then◌else◌}
use Rattle.std.specs.Option.{option_to_list}
use Rattle.gw_entries.specs.declared.control.Control.{Control}
use Rattle.gw_map.specs.Settings.{Setup}
use Rattle.iec_command.specs.declared.command.Command.{Command}
use Rattle.gw_control.specs.declared.answer.Answer.{Answer}
use Rattle.gw_control.specs.declared.answer.Answer.TheVariants.{Confirm, Negative, Unknown, Ordered}
use Rattle.gw_control.specs.Intents.{control_for}
use Rattle.gw_steps.specs.declared.step.Step.{Step}
use Rattle.gw_steps.specs.declared.step.Step.TheVariants as steps
use Rattle.gw_steps.specs.Controls.{answer_to}
use Rattle.gw_steps.specs.State.{State}
use Rattle.gw_steps.specs.Steps.{command_of, latest}
use Rattle.gw_steps.specs.Runs.{Entry, state_after, unless_fault}

-- whose it is, the control that it is for, and the command
pub record Execute : Type 0 where
  pub client : ℕ
  pub control : Control
  pub command : Command

-- ---- in one entry

-- a command for this control that got this answer is accepted where it is an order
abbrev pub execute_answered : ℕ → Command → Option (ℕ × Control) → Answer → Option Execute
execute_answered client command None answer = None
execute_answered client command (Some found) Confirm = None
execute_answered client command (Some found) Negative = None
execute_answered client command (Some found) Unknown = None
execute_answered client command (Some found) (Ordered number) =
    Some (record { client = client; control = found.1; command = command })

-- the execute of a client's command that came at a moment, if it is accepted
abbrev pub execute_by : Setup → State → ℕ → ℕ → Option Command → Option Execute
execute_by setup s moment client None = None
execute_by setup s moment client (Some command) =
    execute_answered client command (control_for setup command) (answer_to setup s moment client command)

-- that of an APDU which is taken and carries a command
abbrev pub execute_of : Setup → State → Step → Option Execute
execute_of setup s (steps.Frame client apdu moment) =
    execute_by setup s (latest s moment) client (command_of setup apdu (slice_get s.clients client))
execute_of setup s _ = None

-- the execute that an entry makes an order, if it does
abbrev pub execute_in : Setup → List Entry → Entry → Option Execute
execute_in setup past e = unless_fault None (λ _. execute_of setup (state_after setup past) e.step) e.reply

-- ---- in a history

-- all of them, newest first
abbrev pub executes : Setup → List Entry → List Execute
executes setup [] = []
executes setup (e ∷ past) = option_to_list (execute_in setup past e) ++ executes setup past

-- the one of a number, counted from 1 for the oldest
abbrev pub numbered : ℕ → List Execute → Option Execute
numbered n [] = None
numbered n (x ∷ older) = if n == suc (length older) then Some x else numbered n older

-- the execute of order n
abbrev pub execute_at : Setup → ℕ → List Entry → Option Execute
execute_at setup n past = numbered n (executes setup past)
