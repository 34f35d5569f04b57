-- Frames (IEC 60870-5-104, 5.1 to 5.3): an I or S format is taken where it is right, and closes the connection where it
-- isn't.
use Rattle.std.specs.Prelude.{◌≡◌, ◌≢◌, ℕ, ◌+◌, ◌-◌, ◌*◌, ◌%◌, ◌≤◌, true}
use Rattle.std.specs.Prelude.{is_some, List, ◌∷◌, [], length, Option, Some, None, Result, Ok}
use Rattle.gw_map.specs.Settings.{Setup}
use Rattle.iec_apci.specs.declared.apdu.Apdu.{Apdu}
use Rattle.iec_apci.specs.declared.apdu.Apdu.TheVariants.{I, S, U}
use Rattle.iec_command.specs.declared.command.Command.{Command}
use Rattle.gw_judge.specs.declared.judging.Judged.{Judged}
use Rattle.gw_judge.specs.declared.judging.Judged.TheVariants.{Malformed}
use Rattle.gw_answers.specs.Answers.{command_by, places_for}
use Rattle.iec_window.specs.Sequence.{numbers}
use Rattle.gw_station.specs.declared.event.Said.{Said}
use Rattle.gw_station.specs.Answers.{held_with, places}
use Rattle.gw_station.specs.Frames.{judged_asdu}
use Rattle.gw_steps.specs.declared.step.Step.{Step}
use Rattle.gw_steps.specs.declared.step.Step.TheVariants as steps
use Rattle.gw_steps.specs.declared.step.Reply.{Reply}
use Rattle.gw_steps.specs.declared.step.Reply.TheVariants as replies
use Rattle.gw_steps.specs.declared.step.StepFault.{StepFault}
use Rattle.gw_steps.specs.Runs.{Entry}
use Rattle.law_history.specs.Life.{Turn, Idle, Takes, life, session, turns_in}
use Rattle.law_clients.specs.Numbers.{taken, IsRightReceive}
use Rattle.law_clients.specs.Interrogations.{is_pending, interrogation}
use Rattle.law_clients.specs.Line.{owed}

-- the places that orders hold, after a command of which something is said, if one came
abbrev pub held_after : (Command → Said) → Option Command → ℕ → ℕ
held_after said None held = held
held_after said (Some command) held = held_with (said command) held

-- the places that a session's orders hold: each holds two until its outcome
abbrev pub held : Setup → List Turn → ℕ
held setup [] = 0
held setup (Idle brought ∷ ts) = held setup ts - 2 * length brought.outcomes
held setup (Takes (I ns nr asdu) taking ∷ ts) =
    held_after taking.said (command_by (judged_asdu setup asdu)) (held setup ts)
held setup (_ ∷ ts) = held setup ts

-- no more places are taken then, by answers that wait and by orders, than there are
abbrev pub HasPlaces : Setup → List Turn → Judged → Type 0
HasPlaces setup hs j =
    length (owed setup hs) + held setup hs + places_for (is_pending (interrogation setup hs)) j ≤ places

-- an I format in a session: N(S) is the number of those taken, N(R) is right, the ASDU is not malformed, and there are
-- places for its answer
pub record IsRightInformation (setup : Setup) (ts : List Turn) (ns nr : ℕ) (j : Judged) : Type 0 where
  pub started : is_some (session ts) ≡ true
  pub send : ns ≡ taken ts % numbers
  pub receive : IsRightReceive ts nr
  pub whole : j ≢ Malformed
  pub places : HasPlaces setup (turns_in (session ts)) j

abbrev pub IsRight : Setup → List Turn → Apdu → Type 0
IsRight setup ts (I ns nr asdu) = IsRightInformation setup ts ns nr (judged_asdu setup asdu)
IsRight setup ts (S nr) = IsRightReceive ts nr
IsRight setup ts (U signal) = Unit {0}

-- an I or S format that isn't right
abbrev pub IsWrong : Setup → List Turn → Apdu → Type 0
IsWrong setup ts (I ns nr asdu) = IsRight setup ts (I ns nr asdu) → ⊥
IsWrong setup ts (S nr) = IsRight setup ts (S nr) → ⊥
IsWrong setup ts (U signal) = Unit {0}

-- an I or S format is taken where it is right, and closes the connection where it isn't
abbrev pub JudgesBy : Setup → List Entry → Step → Result Reply StepFault → Type 0
JudgesBy setup past (steps.Frame c apdu moment) (Ok replies.Taken) = IsRight setup (life setup c past) apdu
JudgesBy setup past (steps.Frame c apdu moment) (Ok (replies.Closed why)) = IsWrong setup (life setup c past) apdu
JudgesBy setup past (steps.Frame c apdu moment) (Ok _) = ⊥
JudgesBy setup past _ _ = Unit {0}

abbrev pub Frames : Setup → List Entry → Type 0
Frames setup [] = Unit {0}
Frames setup (e ∷ past) = JudgesBy setup past e.step e.reply
