-- What an ASDU of a client gets for an answer at once (IEC 60870-5-101, 7.2.3), while a picture is shown, and an
-- interrogation is pending or not.
use Rattle.std.specs.Prelude.{ℕ, Bool, true, Option, Some, None, List, [], ◌∷◌, option_map, slice_get, if◌then◌else◌}
use Rattle.gw_model.specs.declared.observation.Observation.{Observation}
use Rattle.gw_entries.specs.declared.row.Row.{Row}
use Rattle.gw_map.specs.Settings.{Setup, row_at_from}
use Rattle.iec_apci.specs.declared.apdu.Asdu.{Asdu}
use Rattle.iec_command.specs.declared.command.Command.{Command}
use Rattle.iec_command.specs.declared.command.Action.{Action}
use Rattle.iec_command.specs.declared.command.Action.TheVariants as actions
use Rattle.gw_model.specs.declared.point.ObjectKey.{ObjectKey}
use Rattle.gw_judge.specs.Acceptable.{object_for}
use Rattle.gw_judge.specs.Judging.{is_execute}
use Rattle.gw_judge.specs.declared.judging.Judged.{Judged}
use Rattle.gw_judge.specs.declared.judging.Judged.TheVariants.{Malformed, Refuse, Accepted}
use Rattle.gw_answers.specs.declared.outgoing.AsduAnswer.{AsduAnswer}
use Rattle.gw_answers.specs.declared.outgoing.AsduAnswer.TheVariants.{Returned, Made}
use Rattle.gw_answers.specs.declared.outgoing.OwnAsdu.TheVariants as outgoing
use Rattle.gw_answers.specs.Outgoing.{confirmed, under}
use Rattle.gw_answers.specs.Interrogations.{asked_addresses, is_accepted_act}

-- ---- places

-- how many places have to be free: none for an interrogation that is accepted; two for a command to be executed, one
-- for its confirmation and one for its termination; one for all else
abbrev pub places_for : Bool → Judged → ℕ
places_for pending Malformed = 0
places_for pending (Refuse cause execute) = if execute then 2 else 1
places_for pending (Accepted c) = if is_accepted_act pending c then 0 else if is_execute c then 2 else 1

-- ---- the answer

-- what the picture shows of the row with an object, if there is one
abbrev pub shown_by : List Observation → Option (ℕ × Row) → Option Observation
shown_by picture None = None
shown_by picture (Some found) = slice_get picture found.0

abbrev pub shown_at : Setup → List Observation → ObjectKey → Option Observation
shown_at setup picture object = shown_by picture (row_at_from 0 object.common_address object.address setup.rows)

-- the first that is asked
abbrev pub first_asked : List ℕ → ℕ → ℕ
first_asked [] common = common
first_asked (first ∷ more) common = first

-- an interrogation that isn't accepted, and each deactivation of one, is confirmed negatively, by the first common
-- address that it asks
abbrev pub refused_act : Setup → Bool → Command → Option AsduAnswer
refused_act setup pending c =
    let first = first_asked (asked_addresses setup c.common_address) c.common_address in
    if is_accepted_act pending c then None else Some (Made (confirmed true (under first c)))

-- a row that is read is told with cause 5, and the originator of the request; a command for a control waits for what is
-- said of it
abbrev pub answered_action : Setup → List Observation → Bool → Command → Action → Option AsduAnswer
answered_action setup picture pending c (actions.Interrogation qualifier) = refused_act setup pending c
answered_action setup picture pending c (actions.CounterInterrogation qualifier) = refused_act setup pending c
answered_action setup picture pending c actions.Read =
    option_map (λ x. Made (outgoing.Observation 5 c.originator x)) (shown_at setup picture (object_for c))
answered_action setup picture pending c _ = None

abbrev pub answered : Setup → List Observation → Bool → Asdu → Judged → Option AsduAnswer
answered setup picture pending asdu Malformed = None
answered setup picture pending asdu (Refuse cause execute) = Some (Returned asdu cause)
answered setup picture pending asdu (Accepted c) = answered_action setup picture pending c c.action

-- ---- commands for controls

abbrev pub control_command : Command → Action → Option Command
control_command c (actions.Single x) = Some c
control_command c (actions.Double x) = Some c
control_command c (actions.Setpoint x) = Some c
control_command c _ = None

-- the command for a control that an ASDU is, if it is one
abbrev pub command_by : Judged → Option Command
command_by (Accepted c) = control_command c c.action
command_by _ = None
