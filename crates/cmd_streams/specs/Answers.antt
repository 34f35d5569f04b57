-- What `translate` answers to an input: to each of its lines in order. News are judged by what was shown of each row by
-- the lines before.
use Rattle.std.specs.Prelude.{◌≡◌, ℕ, Bool, true, false, List, [], ◌∷◌, ◌++◌, Option, Some}
use Rattle.std.specs.Prelude.{None, Result, Ok, Err, codes, is_ok, map, if◌then◌else◌}
use Rattle.std.specs.List.{list_all}
use Rattle.gw_model.specs.declared.point.Report.{Report}
use Rattle.gw_model.specs.declared.observation.Observation.{Observation}
use Rattle.gw_map.specs.Settings.{Setup}
use Rattle.dnp_app.specs.declared.fault.AppFault.{AppFault}
use Rattle.dnp_app.specs.declared.fault.AppFault.TheVariants.{Memory}
use Rattle.dnp_app.specs.Response.{Fragment, StoresHeader, response_of}
use Rattle.dnp_app.specs.Control.{confirm_of}
use Rattle.cmd_text.specs.Lines.{IsAnswered, lines_of}
use Rattle.cmd_text.specs.Hex.{line_octets}
use Rattle.cmd_replay.specs.FragmentText.{accepted_text, refusal_text}
use Rattle.gw_picture.specs.Opening.{opening}
use Rattle.cmd_streams.specs.declared.decision.Decision.{Decision}
use Rattle.cmd_streams.specs.declared.decision.Decision.TheVariants.{Empty, NotHex, Refused as RefusedOctets, Accepted}
use Rattle.cmd_streams.specs.declared.translator.Finding.{Finding}
use Rattle.cmd_streams.specs.declared.translator.Finding.TheVariants.{Fine, Refused, ShortOfMemory}
use Rattle.cmd_streams.specs.Standing.{Standing, standing}
use Rattle.cmd_streams.specs.Translation.{news_in, picture_after_reports}

abbrev pub is_empty : List ℕ → Bool
is_empty [] = true
is_empty (x ∷ xs) = false

-- ---- which lines are accepted

-- octets are accepted where they are a response
abbrev pub are_accepted : Option (List ℕ) → Bool
are_accepted None = false
are_accepted (Some octets) = is_ok (response_of 0 octets)

-- a line is empty, or it is the octets of a response
unfoldable pub is_accepted : List ℕ → Bool
is_accepted line = if is_empty line then true else are_accepted (line_octets line)

-- each line of an input is
abbrev pub all_accepted : List ℕ → Bool
all_accepted input = list_all is_accepted (lines_of input)

-- ---- what is written

-- the lines of octets that are a response, by what was shown before, or the line of their refusal
abbrev pub response_text : Setup → List Observation → List ℕ → Result Fragment AppFault → List ℕ
response_text setup picture octets (Ok fragment) =
    accepted_text setup (confirm_of octets) (news_in setup picture fragment.reports)
response_text setup picture octets (Err fault) = refusal_text fault

abbrev pub octets_text : Setup → List Observation → Option (List ℕ) → List ℕ
octets_text setup picture None = codes "refused 0 Hex" ++ 10 ∷ []
octets_text setup picture (Some octets) = response_text setup picture octets (response_of 0 octets)

-- what is written for a line, by what was shown before: nothing for an empty one
unfoldable pub line_text : Setup → List Observation → List ℕ → List ℕ
line_text setup picture line = if is_empty line then [] else octets_text setup picture (line_octets line)

-- what a line reports: nothing where it isn't accepted
abbrev pub reports_read : Result Fragment AppFault → List Report
reports_read (Ok fragment) = fragment.reports
reports_read (Err fault) = []

abbrev pub octets_reports : Option (List ℕ) → List Report
octets_reports None = []
octets_reports (Some octets) = reports_read (response_of 0 octets)

unfoldable pub line_reports : List ℕ → List Report
line_reports line = octets_reports (line_octets line)

-- what is shown after a line
abbrev pub picture_after_line : Setup → List Observation → List ℕ → List Observation
picture_after_line setup picture line = picture_after_reports setup picture (line_reports line)

-- what is written for lines, one after the other
abbrev pub text_from : Setup → List Observation → List (List ℕ) → List ℕ
text_from setup picture [] = []
text_from setup picture (line ∷ lines) =
    line_text setup picture line ++ text_from setup (picture_after_line setup picture line) lines

-- what is shown before anything was read
abbrev pub picture_at_first : Setup → List Observation
picture_at_first setup = map opening setup.rows

-- what is written for an input
abbrev pub text_of : Setup → List ℕ → List ℕ
text_of setup input = text_from setup (picture_at_first setup) (lines_of input)

-- ---- what became of lines

-- a refused line more
abbrev pub finding_after_refusal : Finding → Finding
finding_after_refusal ShortOfMemory = ShortOfMemory
finding_after_refusal finding = Refused

-- one line more, by what was decided of it
abbrev pub finding_after_decision : Finding → Decision → Finding
finding_after_decision finding Empty = finding
finding_after_decision finding NotHex = finding_after_refusal finding
finding_after_decision finding (RefusedOctets Memory) = ShortOfMemory
finding_after_decision finding (RefusedOctets fault) = finding_after_refusal finding
finding_after_decision finding (Accepted confirm) = finding

-- some lines more, by whether each was accepted
abbrev pub finding_after_lines : Finding → Bool → Finding
finding_after_lines finding accepted = if accepted then finding else finding_after_refusal finding

-- one line more, by whether memory ran out over it
abbrev pub finding_after_line : Finding → List ℕ → Bool → Finding
finding_after_line finding line lacks =
    if lacks then ShortOfMemory else finding_after_lines finding (is_accepted line)

-- the lines of an input, where there is memory for each
abbrev pub finding_of : List ℕ → Finding
finding_of input = finding_after_lines Fine (all_accepted input)

-- ---- where memory runs out

-- octets are those of a response, of which a header is stored
abbrev pub AreToStore : Option (List ℕ) → Type 0
AreToStore None = ⊥
AreToStore (Some octets) = StoresHeader octets

-- the octets of a line are such
abbrev pub NeedsMemory : List ℕ → Type 0
NeedsMemory line = AreToStore (line_octets line)

-- what is written for a line, or, where memory ran out over its object part, that it did
abbrev pub IsAnswer : Setup → List Observation → List ℕ → Bool → List ℕ → Type 0
IsAnswer setup picture line false text = text ≡ line_text setup picture line
IsAnswer setup picture line true text = NeedsMemory line × (text ≡ refusal_text Memory)

-- what is shown after a line; as before it, where memory ran out over it
abbrev pub picture_then : Setup → List Observation → List ℕ → Bool → List Observation
picture_then setup picture line lacks = if lacks then picture else picture_after_line setup picture line

-- what stands after a line, by whether memory ran out over it
abbrev pub standing_after : Standing → List ℕ → Bool → Standing
standing_after before line lacks = standing before.setup
    (finding_after_line before.finding line lacks) (picture_then before.setup before.picture line lacks)

-- ---- line after line

-- a line was answered, and it goes on: what was written, and what stands after it
abbrev pub AnswersLine : Standing → ℕ → List ℕ → Bool → List ℕ → Standing → Type 0
AnswersLine before number line goes_on text now = (goes_on ≡ true) × (lacks : Bool)
    × IsAnswer before.setup before.picture line lacks text × (now ≡ standing_after before line lacks)

-- what stands before the first line
abbrev pub beginning : Setup → Standing
beginning setup = standing setup Fine (picture_at_first setup)

-- each line of an input was answered, and so it ended
abbrev pub AnswersInput : Setup → List ℕ → Finding → Option (List ℕ) → Option (List ℕ) → Type 0
AnswersInput setup input finding old new =
    (last : Standing) × (finding ≡ last.finding) × IsAnswered AnswersLine (beginning setup) input true old new last
