-- What becomes of an APDU from a client that is up (IEC 60870-5-104, 5.1 to 5.3), by the settings.
use Rattle.std.specs.Prelude.{◌≡◌, ℕ, ◌+◌, Bool, true, false, not, ◌&&◌, nat_le, nat_lt, ◌≤◌, is_none}
use Rattle.std.specs.Prelude.{is_some, List, [], ◌∷◌, ◌++◌, length, take, Option, Some, None, if◌then◌else◌}
use Rattle.gw_model.specs.First.{when, first_of}
use Rattle.gw_model.specs.declared.observation.Observation.{Observation}
use Rattle.gw_map.specs.Settings.{Setup}
use Rattle.iec_apci.specs.declared.apdu.Asdu.{Asdu}
use Rattle.iec_apci.specs.declared.apdu.Apdu.{Apdu}
use Rattle.iec_apci.specs.declared.apdu.Apdu.TheVariants.{I, S, U}
use Rattle.iec_apci.specs.declared.apdu.Signal.{Signal}
use Rattle.iec_apci.specs.declared.apdu.Signal.TheVariants.{StartAct, StopAct, TestCon}
use Rattle.iec_apci.specs.Apdu.{confirmation_of}
use Rattle.iec_window.specs.Counts.{WindowCounts}
use Rattle.iec_window.specs.Sequence.{is_right_send, is_right_receive}
use Rattle.iec_window.specs.Steps.{counts_after_frame, counts_after_s, counts_after_i, counts_after_confirmation}
use Rattle.iec_command.specs.declared.command.Command.{Command}
use Rattle.gw_judge.specs.Judging.{is_execute, judged}
use Rattle.gw_judge.specs.declared.judging.Judged.{Judged}
use Rattle.gw_judge.specs.declared.judging.Judged.TheVariants as judgements
use Rattle.gw_station.specs.declared.client.Stage.TheVariants.{Stopped, Started}
use Rattle.gw_station.specs.declared.event.Event.{Event}
use Rattle.gw_station.specs.declared.event.Event.TheVariants as events
use Rattle.iec_apci.specs.declared.why.Why.{Why}
use Rattle.iec_apci.specs.declared.why.Why.TheVariants.{Sequence, NotStarted, Malformed, Flooded}
use Rattle.gw_station.specs.Client.{Client, is_started, client_anew, client_after_close, most_confirmations}
use Rattle.gw_answers.specs.Answers.{places_for, command_by}
use Rattle.gw_station.specs.Answers.{is_pending, client_judging, is_asking, places, places_taken}

-- ---- closes

-- a confirmation is wanted, and no more may wait
abbrev pub floods : Signal → Client → Bool
floods signal c = is_some (confirmation_of signal) && nat_le most_confirmations (length c.confirmations)

-- what is to be said of an ASDU
abbrev pub judged_asdu : Setup → Asdu → Judged
judged_asdu setup asdu = judged setup (take asdu.len asdu.octets)

abbrev pub is_malformed : Judged → Bool
is_malformed judgements.Malformed = true
is_malformed _ = false

-- too few places are free for its answer
abbrev pub overfills : Judged → Client → Bool
overfills j c = nat_lt places (places_taken c + places_for (is_pending c.rest) j)

-- why an I format with an ASDU that is judged so closes the connection: the causes in the order in which they are tried
abbrev pub closes_judged : ℕ → ℕ → Judged → Client → List (Option Why)
closes_judged ns nr j c =
    when (not (is_started c.stage)) NotStarted
    ∷ when (not (is_right_send ns c.window && is_right_receive nr c.window)) Sequence
    ∷ when (is_malformed j) Malformed
    ∷ when (overfills j c) Flooded
    ∷ []

-- why an APDU does
abbrev pub closes : Setup → Apdu → Client → List (Option Why)
closes setup (I ns nr asdu) c = closes_judged ns nr (judged_asdu setup asdu) c
closes setup (S nr) c = when (not (is_right_receive nr c.window)) Sequence ∷ []
closes setup (U signal) c = when (floods signal c) Flooded ∷ []

abbrev pub close_of : Setup → Apdu → Client → Option Why
close_of setup apdu c = first_of (closes setup apdu c)

-- ---- what is taken

-- STARTDT act begins a session where none stands; STOPDT act ends it
abbrev pub client_with_session : Signal → Client → Client
client_with_session StartAct c =
    if is_started c.stage then c else client_anew Started c
client_with_session StopAct c =
    if is_started c.stage then client_anew Stopped c else c
client_with_session _ c = c

-- TESTFR con ends the t1 of the test; t3 runs anew from every one
abbrev pub window_with_signal : ℕ → Signal → WindowCounts → WindowCounts
window_with_signal moment TestCon w = counts_after_confirmation moment w
window_with_signal moment _ w = counts_after_frame moment w

abbrev pub confirmations_with : Option Signal → List Signal → List Signal
confirmations_with None waiting = waiting
confirmations_with (Some confirmation) waiting = waiting ++ confirmation ∷ []

-- a control function was taken
abbrev pub client_with_signal : ℕ → Signal → Client → Client
client_with_signal moment signal c = record (client_with_session signal c) {
  window = window_with_signal moment signal c.window;
  confirmations = confirmations_with (confirmation_of signal) c.confirmations;
}

-- an APDU was taken, while the picture showed this
abbrev pub client_taking : Setup → List Observation → ℕ → Apdu → Client → Client
client_taking setup picture moment (I ns nr asdu) c =
    record (client_judging setup picture asdu (judged_asdu setup asdu) c) {
      window = counts_after_i ns nr moment c.window;
    }
client_taking setup picture moment (S nr) c = record c { window = counts_after_s nr moment c.window }
client_taking setup picture moment (U signal) c = client_with_signal moment signal c

-- ---- what becomes of an APDU

-- the command for a control that an APDU carries, if it does
abbrev pub command_in : Setup → Apdu → Option Command
command_in setup (I ns nr asdu) = command_by (judged_asdu setup asdu)
command_in setup _ = None

abbrev pub event_taking : Option Command → Event
event_taking None = events.Taken
event_taking (Some command) = events.Command command

abbrev pub event_by : Option Why → Option Command → Event
event_by None command = event_taking command
event_by (Some why) command = events.Closed why

abbrev pub client_by : Option Why → Client → Client → Client
client_by None c taking = taking
client_by (Some why) c taking = client_after_close c

abbrev pub event_of : Setup → Apdu → Client → Event
event_of setup apdu c = event_by (close_of setup apdu c) (command_in setup apdu)

-- an APDU came at a moment, while the picture showed this
abbrev pub client_after_apdu : Setup → List Observation → ℕ → Apdu → Client → Client
client_after_apdu setup picture moment apdu c =
    client_by (close_of setup apdu c) c (client_taking setup picture moment apdu c)

-- a command for a control came in a session, and finds a place for its answer, and two where it is to be executed
abbrev pub HasPlace : Event → Client → Type 0
HasPlace events.Taken c = Unit {0}
HasPlace (events.Command command) c =
    (is_started c.stage ≡ true) × (places_taken c + (if is_execute command then 2 else 1) ≤ places)
HasPlace (events.Closed why) c = Unit {0}

-- ---- what is told beforehand

-- a session begins by it
abbrev pub begins : Apdu → Client → Bool
begins (U StartAct) c = not (is_started c.stage) && not (floods StartAct c)
begins _ c = false

-- an interrogation is accepted by it, for which the picture is copied: memory is wanted
abbrev pub asks : Setup → Apdu → Client → Bool
asks setup (I ns nr asdu) c = is_none (close_of setup (I ns nr asdu) c) && is_asking (judged_asdu setup asdu) c
asks setup _ c = false

-- the command for a control that it gives
abbrev pub command_given : Option Why → Option Command → Option Command
command_given None command = command
command_given (Some why) command = None

abbrev pub given_command : Setup → Apdu → Client → Option Command
given_command setup apdu c = command_given (close_of setup apdu c) (command_in setup apdu)
