-- Line: each I format that is put out to a client is the front of what waits for it: the answers to its ASDUs and what
-- became of its orders, the news that came before the interrogation that is pending, the rest of its answer, and later
-- news. An answer goes alone; of news, and of the rows of an interrogation, as many go together as one ASDU carries.
use Rattle.std.specs.Prelude.{◌≡◌, ℕ, Bool, true, false, List, [], ◌∷◌, ◌++◌, length}
use Rattle.std.specs.Prelude.{map, take, drop, Option, Some, None, if◌then◌else◌}
use Rattle.std.specs.Option.{option_to_list}
use Rattle.gw_model.specs.Clocks.{Clocks}
use Rattle.gw_map.specs.Settings.{Setup, station_clocks}
use Rattle.iec_apci.specs.declared.apdu.Asdu.{Asdu}
use Rattle.iec_apci.specs.declared.apdu.Apdu.TheVariants.{I}
use Rattle.iec_command.specs.declared.command.Command.{Command}
use Rattle.gw_control.specs.declared.answer.Outcome.{Outcome}
use Rattle.gw_judge.specs.declared.judging.Judged.{Judged}
use Rattle.gw_answers.specs.declared.outgoing.AsduAnswer.{AsduAnswer}
use Rattle.gw_answers.specs.declared.outgoing.AsduAnswer.TheVariants.{Made}
use Rattle.gw_answers.specs.declared.outgoing.OwnAsdu.{OwnAsdu}
use Rattle.gw_answers.specs.declared.outgoing.OwnAsdu.TheVariants as outgoing
use Rattle.gw_answers.specs.Outgoing.{command_with, confirmed}
use Rattle.gw_answers.specs.Answers.{answered, command_by}
use Rattle.gw_answers.specs.Meaning.{Meant, Tells, packed_asdu, Means}
use Rattle.gw_station.specs.declared.sending.Sending.{Sending}
use Rattle.gw_station.specs.declared.sending.Sending.TheVariants as sendings
use Rattle.gw_station.specs.declared.event.Said.{Said}
use Rattle.gw_station.specs.Answers.{told}
use Rattle.gw_station.specs.Frames.{judged_asdu}
use Rattle.gw_station.specs.Pump.{news_front, rows_front}
use Rattle.gw_steps.specs.Runs.{Entry}
use Rattle.gw_steps.specs.Said.{ApduMeaning, IFormat, SFormat, UFormat}
use Rattle.law_history.specs.Life.{Taking, Turn, Idle, Takes, PutsOut, session, turns_in, OfEachLife}
use Rattle.law_clients.specs.Fates.{Element, items_of, is_queued, fates}
use Rattle.law_clients.specs.Interrogations.{Interrogation, answer_told, is_pending, interrogation}

-- ---- the answers to ASDUs, and what becomes of orders

-- what is said of a command for a control, if there is one
abbrev pub told_of : (Command → Said) → Option Command → List AsduAnswer
told_of said None = []
told_of said (Some command) = map Made (told command (said command))

-- what an ASDU gets at once, or by what is said of the command for a control that it is
abbrev pub answers_to : Setup → Taking → Bool → Asdu → Judged → List AsduAnswer
answers_to setup taking pending asdu j =
    option_to_list (answered setup taking.picture pending asdu j) ++ told_of taking.said (command_by j)

-- what is told of an outcome: an order that was done is confirmed and terminated (10), and one that failed is confirmed
-- negatively
abbrev pub told_outcome : Outcome → List OwnAsdu
told_outcome x =
    if x.done then confirmed false x.command ∷ command_with 10 false x.command ∷ [] else confirmed true x.command ∷ []

-- and of more than one
abbrev pub told_outcomes : List Outcome → List AsduAnswer
told_outcomes [] = []
told_outcomes (x ∷ xs) = map Made (told_outcome x) ++ told_outcomes xs

-- the answers that wait, oldest first: what is put out in an I format is the one that waits longest, where one waits
abbrev pub owed : Setup → List Turn → List AsduAnswer
owed setup [] = []
owed setup (Idle brought ∷ ts) = owed setup ts ++ told_outcomes brought.outcomes
owed setup (Takes (I ns nr asdu) taking ∷ ts) =
    owed setup ts ++ answers_to setup taking (is_pending (interrogation setup ts)) asdu (judged_asdu setup asdu)
owed setup (PutsOut (IFormat ns nr meant) ∷ ts) = drop 1 (owed setup ts)
owed setup (_ ∷ ts) = owed setup ts

-- ---- the line

-- how many news of the session came before the interrogation, and what is left of its answer
abbrev pub since_of : Option Interrogation → ℕ
since_of None = 0
since_of (Some q) = q.since

abbrev pub left_of : Option Interrogation → List OwnAsdu
left_of None = []
left_of (Some q) = drop (length q.said) (answer_told q)

abbrev pub line_with : List AsduAnswer → Option Interrogation → List Element → List Sending
line_with owed q elements =
    map sendings.Answer owed
    ++ (map sendings.News (items_of is_queued (take (since_of q) elements))
    ++ (map sendings.Part (left_of q) ++ map sendings.News (items_of is_queued (drop (since_of q) elements))))

abbrev pub line : Setup → List Turn → List Sending
line setup hs = line_with (owed setup hs) (interrogation setup hs) (fates setup.station hs)

-- ---- the law

-- an ASDU means what is at the front of a line: an answer, a command of the answer to an interrogation, or as many news,
-- or as many rows of that answer, as one ASDU carries
abbrev pub MeansFront : Clocks → List Sending → Meant → Type 0
MeansFront clocks (sendings.Answer answer ∷ line) meant = Means clocks answer meant
MeansFront clocks (sendings.News x ∷ line) meant = meant ≡ Tells (packed_asdu clocks 3 0 x (news_front line))
MeansFront clocks (sendings.Part (outgoing.Command command) ∷ line) meant =
    Means clocks (Made (outgoing.Command command)) meant
MeansFront clocks (sendings.Part (outgoing.Observation cause originator x) ∷ line) meant =
    meant ≡ Tells (packed_asdu clocks cause originator x (rows_front cause originator line))
MeansFront clocks _ meant = ⊥

abbrev pub SaysFirst : Setup → List Sending → ApduMeaning → Type 0
SaysFirst setup line (IFormat ns nr meant) = MeansFront (station_clocks setup.station) line meant
SaysFirst setup line (SFormat nr) = Unit {0}
SaysFirst setup line (UFormat signal) = Unit {0}

-- what is put out last in an I format is the front of what waited before
abbrev pub KeepsLine : Setup → List Turn → Type 0
KeepsLine setup (PutsOut said ∷ ts) = SaysFirst setup (line setup (turns_in (session ts))) said
KeepsLine setup _ = Unit {0}

abbrev pub Line : Setup → List Entry → Type 0
Line setup past = OfEachLife (KeepsLine setup) setup past
