-- The lines that are written for a fragment: accepted, or refused.
use Rattle.std.specs.Prelude.{ℕ, List, [], ◌∷◌, ◌++◌, Option, Some, None, codes}
use Rattle.std.specs.Fmt.{decimal}
use Rattle.gw_model.specs.declared.observation.Observation.{Observation}
use Rattle.gw_map.specs.Settings.{Setup, station_clocks}
use Rattle.dnp_objects.specs.declared.fault.HeaderFault.{HeaderFault}
use Rattle.dnp_objects.specs.declared.fault.HeaderFault.TheVariants.{UnknownObject, UnknownQualifier}
use Rattle.dnp_objects.specs.declared.fault.HeaderFault.TheVariants.{ShortRange, StopBeforeStart}
use Rattle.dnp_objects.specs.declared.fault.HeaderFault.TheVariants.{ShortData, TooMany, Memory as NoRoom}
use Rattle.dnp_app.specs.declared.fault.AppFault.{AppFault}
use Rattle.dnp_app.specs.declared.fault.AppFault.TheVariants.{Short, NotResponse, Object, Memory}
use Rattle.iec_asdu.specs.Spelling.{spelling}
use Rattle.cmd_text.specs.Hex.{spaced_digits}

-- a word, octets in hexadecimal, and the line's end
abbrev pub line_of : List ℕ → List ℕ → List ℕ
line_of word octets = word ++ spaced_digits octets ++ 10 ∷ []

-- the line of a confirmation, where there is one
abbrev pub confirm_lines : Option (List ℕ) → List ℕ
confirm_lines None = []
confirm_lines (Some octets) = line_of (codes "confirm") octets

-- the line of an observation: its ASDU, with the cause spontaneous (IEC 60870-5-101, 7.2.3)
unfoldable pub asdu_line : Setup → Observation → List ℕ
asdu_line setup x = line_of (codes "asdu") (spelling (station_clocks setup.station) 3 x)

-- a line for each observation
abbrev pub asdu_lines : Setup → List Observation → List ℕ
asdu_lines setup [] = []
asdu_lines setup (x ∷ xs) = asdu_line setup x ++ asdu_lines setup xs

-- what is written for a response: the confirmation that it asks for, and the news among what it reports
abbrev pub accepted_text : Setup → Option (List ℕ) → List Observation → List ℕ
accepted_text setup confirm news = confirm_lines confirm ++ asdu_lines setup news

-- what is wrong with a header or its objects
abbrev pub why_text : HeaderFault → List ℕ
why_text UnknownObject = codes "1 UnknownObject"
why_text UnknownQualifier = codes "2 UnknownQualifier"
why_text ShortRange = codes "3 ShortRange"
why_text StopBeforeStart = codes "4 StopBeforeStart"
why_text ShortData = codes "5 ShortData"
why_text TooMany = codes "6 TooMany"
why_text NoRoom = codes "7 Memory"

-- the line of refused octets
abbrev pub refusal_text : AppFault → List ℕ
refusal_text Short = codes "refused 1 Short" ++ 10 ∷ []
refusal_text NotResponse = codes "refused 2 NotResponse" ++ 10 ∷ []
refusal_text (Object e) =
    codes "refused 3 Object " ++ (why_text e.why ++ (codes " at " ++ (decimal e.place ++ 10 ∷ [])))
refusal_text Memory = codes "refused 4 Memory" ++ 10 ∷ []
