-- What comes of an instruction of a replay, of a line, and of all lines.
use Rattle.std.specs.Prelude.{◌≡◌, ℕ, Bool, true, false, not, nat_lt, List, [], ◌∷◌, ◌++◌}
use Rattle.std.specs.Prelude.{length, codes, Option, Some, None, slice_get, MatchBool}
use Rattle.std.specs.Fmt.{decimal}
use Rattle.gw_map.specs.Settings.{Setup}
use Rattle.gw_steps.specs.State.{Hub, at_first}
use Rattle.gw_steps.specs.Steps.{Allowed}
use Rattle.gw_steps.specs.Queries.{queued_at, dropped_at}
use Rattle.cmd_text.specs.Lines.{AreAnswered, IsAnswered, lines_of}
use Rattle.cmd_replay.specs.declared.instruction.Instruction.{Instruction}
use Rattle.cmd_replay.specs.declared.instruction.Instruction.TheVariants as instructions
use Rattle.cmd_replay.specs.declared.player.Played.{Played}
use Rattle.cmd_replay.specs.declared.player.Played.TheVariants.{Replied, Refused, Waiting}
use Rattle.cmd_replay.specs.Instructions.{IsRead}
use Rattle.cmd_replay.specs.Place.{Place, place}
use Rattle.cmd_replay.specs.Refusals.{refused_line}
use Rattle.cmd_replay.specs.Replies.{reply_line}

-- the hub was asked for a step, for what waits, or for nothing since octets were refused
abbrev pub Plays : Hub → Instruction → Played → Hub → Type 0
Plays old (instructions.Make step) (Replied reply) new =
    Allowed old.setup old.state step reply new.state × (new.setup ≡ old.setup)
Plays old (instructions.Refused refusal) (Refused told) new = (told ≡ refusal) × (new ≡ old)
Plays old (instructions.Queue client) (Waiting queued dropped) new =
    (queued ≡ queued_at (slice_get old.state.clients client))
    × (dropped ≡ dropped_at (slice_get old.state.clients client)) × (new ≡ old)
Plays old instruction played new = ⊥

-- ---- one line

-- the text of what came of an instruction
abbrev pub played_text : Played → List ℕ
played_text (Replied reply) = reply_line reply
played_text (Refused refusal) = refused_line refusal
played_text (Waiting queued dropped) =
    codes "queued " ++ (decimal queued ++ (codes " dropped " ++ (decimal dropped ++ 10 ∷ [])))

-- whether a line was refused, with one more
abbrev pub refused_after : Bool → Played → Bool
refused_after has_refused (Refused refusal) = true
refused_after has_refused played = has_refused

-- a line was read, of which at most 8,191 octets are right
abbrev pub IsFound : List ℕ → Option Instruction → Type 0
IsFound line found = MatchBool (nat_lt (length line) 8192) (IsRead line found) (found ≡ None)

-- an instruction is played and told; where there is none, the line's number is told, and the replay ends
abbrev pub AnswersFound : Place → ℕ → Option Instruction → Bool → List ℕ → Place → Type 0
AnswersFound before number None goes_on text now =
    (goes_on ≡ false) × (text ≡ codes "refused line " ++ (decimal number ++ 10 ∷ [])) × (now ≡ place before.hub true)
AnswersFound before number (Some instruction) goes_on text now =
    (played : Played) × (goes_on ≡ true) × (text ≡ played_text played) × Plays before.hub instruction played now.hub
    × (now.has_refused ≡ refused_after before.has_refused played)

-- a line was answered: nothing for an empty one, else what comes of what it asks for
abbrev pub AnswersLine : Place → ℕ → List ℕ → Bool → List ℕ → Place → Type 0
AnswersLine before number [] goes_on text now = (goes_on ≡ true) × (text ≡ []) × (now ≡ before)
AnswersLine before number (c ∷ cs) goes_on text now =
    (found : Option Instruction) × IsFound (c ∷ cs) found × AnswersFound before number found goes_on text now

-- ---- line after line

-- before the first line, on a new hub
abbrev pub beginning : Setup → Place
beginning setup = place (record { setup = setup; state = at_first setup }) false

-- the lines of an input were answered, to the last or to the first that asks for nothing; whether none was refused
abbrev pub AnswersInput : Setup → List ℕ → Bool → Option (List ℕ) → Option (List ℕ) → Type 0
AnswersInput setup input is_fine old new = (goes_on : Bool) × (last : Place)
    × IsAnswered AnswersLine (beginning setup) input goes_on old new last × (is_fine ≡ not last.has_refused)

-- the lines of an input can be answered without a refusal
abbrev pub IsFine : Setup → List ℕ → Type 0
IsFine setup input = (text : List ℕ) × (last : Place) × (last.has_refused ≡ false)
    × AreAnswered AnswersLine 1 (beginning setup) (lines_of input) true text last
