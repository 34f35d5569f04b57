-- What the worked runs tell of a client.
use Rattle.std.specs.Prelude.{ℕ, ◌-◌, pos, Bool, true, false, List, [], ◌∷◌}
use Rattle.std.specs.Prelude.{◌++◌, drop, take, unwrap_or, Option, Some, None}
use Rattle.gw_model.specs.declared.observation.Value.TheVariants.{Scaled, Single}
use Rattle.gw_model.specs.declared.observation.Observation.{Observation}
use Rattle.gw_model.specs.Clocks.{utc}
use Rattle.gw_translate.specs.Example.{good}
use Rattle.gw_picture.specs.Example.{observation_at, unknown}
use Rattle.iec_apci.specs.declared.apdu.Apdu.TheVariants.{I}
use Rattle.iec_command.specs.declared.command.Command.{Command}
use Rattle.iec_command.specs.declared.command.Action.TheVariants as actions
use Rattle.iec_command.specs.Example.{command as command_for, single}
use Rattle.gw_answers.specs.declared.outgoing.OwnAsdu.{OwnAsdu}
use Rattle.gw_answers.specs.Example.{act, invalid, shown_under}
use Rattle.gw_answers.specs.Meaning.{Tells, Commands, asdu_of}
use Rattle.gw_answers.specs.Outgoing.{under}
use Rattle.gw_station.specs.declared.event.Said.TheVariants.{Ordered}
use Rattle.gw_station.specs.Example.{execute, interrogation_of_all, picture_of_both}
use Rattle.gw_steps.specs.Example.{setup}
use Rattle.gw_steps.specs.Said.{IFormat}
use Rattle.law_history.specs.Example.{pumped}
use Rattle.law_history.specs.Life.{Turn, PutsOut, Takes, bringing, life, session, turns_in}
use Rattle.law_clients.specs.Interrogations.{Interrogation}
use Rattle.law_clients.specs.Line.{line}
use Rattle.law_clients.specs.Mirror.{waiting_in, told}

-- the turns of its session after so many pumps: its act, a reading that comes, and the pumps are the newest
abbrev pub session_after : ℕ → List Turn
session_after n = turns_in (session (life setup 0 (pumped n)))

-- analog input 0 before anything was reported of it, and the reading
abbrev pub analog_at_first : Observation
analog_at_first = observation_at 4201 (Scaled (pos 0)) unknown

abbrev pub analog_read : Observation
analog_read = observation_at 4201 (Scaled (pos 7)) good

-- the act
abbrev pub command : Command
command = act (actions.Interrogation 20)

abbrev pub said_of : Option Interrogation → List OwnAsdu
said_of None = []
said_of (Some q) = q.said

-- what was told in the pumps, and what waits
abbrev pub told_after : ℕ → Option (List Observation)
told_after n = told (take n (session_after n))

abbrev pub known_after : ℕ → List Observation
known_after n = unwrap_or (told_after n) [] ++ waiting_in (line setup (session_after n))

-- ---- an order

-- single-command 5001, to be executed
abbrev pub executed : Command
executed = command_for 6 1 5001 (single true false 0 false)

-- it came, and is an order
abbrev pub ordered : List Turn
ordered = Takes (I 0 0 execute) (record { picture = []; said = λ _. Ordered }) ∷ []

-- which was done, or failed
abbrev pub ended : Bool → List Turn
ended done = bringing [] (record { client = 0; session = 1; command = executed; done = done } ∷ []) ∷ ordered

-- ---- an interrogation of all stations, which are common addresses 1 and 2

-- the act
abbrev pub all_asked : Turn
all_asked = Takes (I 0 0 interrogation_of_all) (record { picture = picture_of_both; said = λ _. Ordered })

-- its confirmation (7) or termination (10) under a common address, and the row that is shown there
abbrev pub answered_with : ℕ → ℕ → Command
answered_with cause common = record (under common command) { cause = cause }

abbrev pub row_under : ℕ → Observation
row_under common = shown_under common 4101 (Single false) (invalid true)

-- the turns in which its answer under a common address was put out, the newest first
abbrev pub answering : ℕ → List Turn
answering common =
    PutsOut (IFormat 0 1 (Commands (answered_with 10 common)))
    ∷ PutsOut (IFormat 0 1 (Tells (asdu_of utc 20 0 (row_under common))))
    ∷ PutsOut (IFormat 0 1 (Commands (answered_with 7 common))) ∷ []

-- the first turns of both, so many
abbrev pub answered_all : ℕ → List Turn
answered_all n = drop (6 - n) (answering 2 ++ answering 1)
