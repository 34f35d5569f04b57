-- What a line of a replay asks for. O and C are decimal numbers of 8 bits, M of 64 bits, HEX is octets in hexadecimal.
use Rattle.std.specs.Prelude.{◌≡◌, ◌⊎◌, ℕ, ◌+◌, ◌^◌, ◌==◌, List, take, drop, position, codes, Option, Some}
use Rattle.std.specs.Prelude.{None, Result, Ok, Err, option_map, option_and_then, if◌then◌else◌, MatchBool}
use Rattle.std.specs.Str.{bytes_eq}
use Rattle.dnp_app.specs.declared.fault.AppFault.{AppFault}
use Rattle.dnp_app.specs.declared.fault.AppFault.TheVariants.{Memory}
use Rattle.dnp_app.specs.Response.{Fragment, StoresHeader, response_of}
use Rattle.iec_apci.specs.declared.apdu.Apdu.{Apdu}
use Rattle.gw_steps.specs.declared.step.Step.{Step}
use Rattle.gw_steps.specs.declared.step.Step.TheVariants as steps
use Rattle.cmd_text.specs.Decimal.{number}
use Rattle.cmd_text.specs.Hex.{line_octets}
use Rattle.cmd_replay.specs.declared.instruction.Instruction.{Instruction}
use Rattle.cmd_replay.specs.declared.instruction.Instruction.TheVariants.{Make, Queue, Refused}
use Rattle.cmd_replay.specs.declared.refusal.StepRefusal.{StepRefusal}
use Rattle.cmd_replay.specs.declared.refusal.StepRefusal.TheVariants as refusals
use Rattle.cmd_replay.specs.Frames.{IsApduRead}

-- ---- words

-- the text before the first space, and what follows that
abbrev pub space_in : List ℕ → Option ℕ
space_in text = position (λ c. c == 32) text

abbrev pub up_to : Option ℕ → List ℕ → List ℕ
up_to None text = text
up_to (Some n) text = take n text

abbrev pub after : Option ℕ → List ℕ → Option (List ℕ)
after None text = None
after (Some n) text = Some (drop (n + 1) text)

abbrev pub first_word : List ℕ → List ℕ
first_word text = up_to (space_in text) text

abbrev pub rest_of : List ℕ → Option (List ℕ)
rest_of text = after (space_in text) text

-- ---- numbers and octets

-- `O M` or `C M`
abbrev pub joined : Option ℕ → Option ℕ → Option (ℕ × ℕ)
joined (Some a) (Some b) = Some (a, b)
joined _ _ = None

abbrev pub two_numbers : List ℕ → Option (ℕ × ℕ)
two_numbers text = joined (number (2 ^ 8) (first_word text)) (option_and_then (number (2 ^ 64)) (rest_of text))

-- `O M W`
abbrev pub all_three : Option ℕ → Option ℕ → Option ℕ → Option (ℕ × ℕ × ℕ)
all_three (Some a) (Some b) (Some c) = Some (a, b, c)
all_three _ _ _ = None

abbrev pub three_numbers : List ℕ → Option (ℕ × ℕ × ℕ)
three_numbers text =
    all_three (number (2 ^ 8) (first_word text))
    (option_and_then (λ t. number (2 ^ 64) (first_word t)) (rest_of text))
    (option_and_then (number (2 ^ 64)) (option_and_then rest_of (rest_of text)))

-- `O M HEX` or `C M HEX`: the two numbers, and the octets
abbrev pub with_octets : Option ℕ → Option ℕ → Option (List ℕ) → Option (ℕ × ℕ × List ℕ)
with_octets (Some a) (Some b) (Some octets) = Some (a, b, octets)
with_octets _ _ _ = None

abbrev pub numbers_and_octets : List ℕ → Option (ℕ × ℕ × List ℕ)
numbers_and_octets text =
    with_octets (number (2 ^ 8) (first_word text))
    (option_and_then (λ t. number (2 ^ 64) (first_word t)) (rest_of text))
    (option_and_then line_octets (option_and_then rest_of (rest_of text)))

-- ---- octets

-- the step of a response's octets, or their refusal
abbrev pub step_or_refusal : ℕ → Result Fragment AppFault → Instruction
step_or_refusal m (Ok fragment) = Make (steps.Fragment fragment m)
step_or_refusal m (Err fault) = Refused (refusals.Fragment fault)

-- `O M HEX` of a fragment
abbrev pub fragment_in : List ℕ → Option Instruction
fragment_in text = option_map (λ p. step_or_refusal p.1 (response_of p.0 p.2)) (numbers_and_octets text)

-- its octets are those of a response, of which a header is stored
abbrev pub NeedsMemory : List ℕ → Type 0
NeedsMemory text = (p : ℕ × ℕ × List ℕ) × (numbers_and_octets text ≡ Some p) × StoresHeader p.2

-- it was read, or memory ran out over its octets
abbrev pub IsFragmentRead : List ℕ → Option Instruction → Type 0
IsFragmentRead text found = (found ≡ fragment_in text)
    ⊎ (NeedsMemory text × (found ≡ Some (Refused (refusals.Fragment Memory))))

-- the step of an APDU, or the refusal of octets that are none
abbrev pub frame_or_refusal : ℕ → ℕ → Result Apdu StepRefusal → Instruction
frame_or_refusal c m (Ok apdu) = Make (steps.Frame c apdu m)
frame_or_refusal c m (Err refusal) = Refused refusal

abbrev pub IsFrame : Option (ℕ × ℕ × List ℕ) → Option Instruction → Type 0
IsFrame None found = found ≡ None
IsFrame (Some p) found =
    (read : Result Apdu StepRefusal) × IsApduRead p.2 read × (found ≡ Some (frame_or_refusal p.0 p.1 read))

-- `C M HEX` of a frame was read
abbrev pub IsFrameRead : List ℕ → Option Instruction → Type 0
IsFrameRead text found = IsFrame (numbers_and_octets text) found

-- ---- other verbs

-- the step of a verb with the number of an outstation or client, and a moment
abbrev pub step_at : List ℕ → ℕ → ℕ → Option Step
step_at verb n m =
    if bytes_eq verb (codes "up") then Some (steps.OutstationUp n m)
    else if bytes_eq verb (codes "down") then Some (steps.OutstationDown n m)
    else if bytes_eq verb (codes "open") then Some (steps.ClientUp n m)
    else if bytes_eq verb (codes "close") then Some (steps.ClientDown n m)
    else if bytes_eq verb (codes "pump") then Some (steps.Pump n m)
    else None

-- the step of a verb without octets, with the text after it
abbrev pub paired_with : List ℕ → List ℕ → Option Step
paired_with verb text = option_and_then (λ p. step_at verb p.0 p.1) (two_numbers text)

abbrev pub step_with : List ℕ → List ℕ → Option Step
step_with verb text =
    if bytes_eq verb (codes "tick") then option_map (λ m. steps.Tick m) (number (2 ^ 64) text)
    else if bytes_eq verb (codes "poll") then option_map (λ p. steps.Poll p.0 p.1 p.2) (three_numbers text)
    else paired_with verb text

-- what the verbs without octets ask for, with the text after them
abbrev pub short_with : List ℕ → List ℕ → Option Instruction
short_with verb text =
    if bytes_eq verb (codes "queue") then option_map Queue (number (2 ^ 8) text)
    else option_map Make (step_with verb text)

-- ---- lines

-- a verb was read with the text after it
abbrev pub IsReadWith : List ℕ → List ℕ → Option Instruction → Type 0
IsReadWith verb text found =
    MatchBool (bytes_eq verb (codes "frag")) (IsFragmentRead text found)
    (MatchBool (bytes_eq verb (codes "frame")) (IsFrameRead text found) (found ≡ short_with verb text))

abbrev pub IsReadAfter : List ℕ → Option (List ℕ) → Option Instruction → Type 0
IsReadAfter verb None found = found ≡ None
IsReadAfter verb (Some text) found = IsReadWith verb text found

-- a line was read
abbrev pub IsRead : List ℕ → Option Instruction → Type 0
IsRead line found = IsReadAfter (first_word line) (rest_of line) found
