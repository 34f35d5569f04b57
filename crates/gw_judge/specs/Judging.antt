-- What is to be said of an ASDU from a client (IEC 60870-5-101, 7.2.3 and 7.3).
use Rattle.std.specs.Prelude.{ℕ, Bool, true, false, not, ◌&&◌, ◌||◌, ◌==◌, List}
use Rattle.std.specs.Prelude.{[], ◌∷◌, Option, Some, None, Result, Ok, Err}
use Rattle.gw_model.specs.First.{when, first_of}
use Rattle.gw_entries.specs.declared.row.Row.{Row}
use Rattle.gw_entries.specs.declared.control.Control.{Control}
use Rattle.gw_entries.specs.declared.control.Operates.{Operates}
use Rattle.gw_entries.specs.declared.control.Operates.TheVariants as operated
use Rattle.gw_entries.specs.Shown.{is_total}
use Rattle.gw_map.specs.Settings.{Setup, is_known, row_at_from, control_at_from}
use Rattle.iec_command.specs.declared.command.Command.{Command}
use Rattle.iec_command.specs.declared.command.Action.{Action}
use Rattle.iec_command.specs.declared.command.Action.TheVariants.{Single, Double, Setpoint, Interrogation, CounterInterrogation, Read}
use Rattle.iec_command.specs.declared.fault.CommandFault.{CommandFault}
use Rattle.iec_command.specs.declared.fault.CommandFault.TheVariants.{UnknownType}
use Rattle.iec_command.specs.Commands.{command_of, IsWhole}
use Rattle.gw_judge.specs.Acceptable.{object_for}
use Rattle.gw_model.specs.declared.point.ObjectKey.{ObjectKey}
use Rattle.gw_judge.specs.declared.judging.Judged.{Judged}
use Rattle.gw_judge.specs.declared.judging.Judged.TheVariants.{Malformed, Refuse, Accepted}

-- ---- the cause of transmission

-- the causes of a type: 6 activation and 8 deactivation, or 5 request
abbrev pub is_known_cause : Action → ℕ → Bool
is_known_cause Read cause = cause == 5
is_known_cause _ cause = cause == 6 || cause == 8

-- neither P/N nor T is set, and the cause is one of the type's
abbrev pub has_known_cause : Command → Bool
has_known_cause c = not c.negative && not c.test && is_known_cause c.action c.cause

-- ---- the common address

-- interrogations may be for all stations
abbrev pub is_for_all : Action → Bool
is_for_all (Interrogation qualifier) = true
is_for_all (CounterInterrogation qualifier) = true
is_for_all _ = false

-- a known one, or that of all stations
abbrev pub is_addressed : Setup → Command → Bool
is_addressed setup c = is_known setup c.common_address || (is_for_all c.action && c.common_address == 65535)

-- ---- the information object

-- a row that isn't shown as a total
abbrev pub is_readable : Option (ℕ × Row) → Bool
is_readable None = false
is_readable (Some found) = not (is_total found.1.show)

-- controls that a type operates
abbrev pub is_operated_by : Action → Operates → Bool
is_operated_by (Single command) (operated.Single pulses) = true
is_operated_by (Double command) (operated.Double pulses) = true
is_operated_by (Setpoint command) (operated.Setpoint scale) = true
is_operated_by _ _ = false

abbrev pub is_operated : Action → Option (ℕ × Control) → Bool
is_operated action None = false
is_operated action (Some found) = is_operated_by action found.1.operates

-- interrogations are for the whole station, a read for a row, a command for a control
abbrev pub is_object_of : Setup → Action → ObjectKey → Bool
is_object_of setup (Interrogation qualifier) object = object.address == 0
is_object_of setup (CounterInterrogation qualifier) object = object.address == 0
is_object_of setup Read object = is_readable (row_at_from 0 object.common_address object.address setup.rows)
is_object_of setup action object = is_operated action (control_at_from 0 object.common_address object.address setup.controls)

abbrev pub has_object : Setup → Command → Bool
has_object setup c = is_object_of setup c.action (object_for c)

-- ---- an execute

-- a type commands a control, and S/E is 0
abbrev pub executes : Action → Bool
executes (Single command) = not command.select
executes (Double command) = not command.select
executes (Setpoint command) = not command.select
executes _ = false

-- it is activated
abbrev pub is_execute : Command → Bool
is_execute c = c.cause == 6 && executes c.action

-- ---- the judgement

-- why a command is sent back: the causes of transmission in the order in which they are tried. 45 unknown cause of
-- transmission, 46 unknown common address, 47 unknown information object address
abbrev pub refusals : Setup → Command → List (Option ℕ)
refusals setup c =
    when (not (has_known_cause c)) 45
    ∷ when (not (is_addressed setup c)) 46
    ∷ when (not (has_object setup c)) 47
    ∷ []

abbrev pub refusal_of : Setup → Command → Option ℕ
refusal_of setup c = first_of (refusals setup c)

abbrev pub judged_by : Option ℕ → Command → Judged
judged_by None c = Accepted c
judged_by (Some cause) c = Refuse cause (cause == 47 && is_execute c)

abbrev pub judged_command : Setup → Command → Judged
judged_command setup c = judged_by (refusal_of setup c) c

-- 44 unknown type
abbrev pub judged_reading : Setup → Result Command CommandFault → Judged
judged_reading setup (Ok c) = judged_command setup c
judged_reading setup (Err UnknownType) = Refuse 44 false
judged_reading setup (Err _) = Malformed

abbrev pub judged : Setup → List ℕ → Judged
judged setup octets = judged_reading setup (command_of octets)

-- a command that is accepted has the bits of its places
abbrev pub IsWholeJudged : Judged → Type 0
IsWholeJudged (Accepted c) = IsWhole c
IsWholeJudged _ = Unit {0}
