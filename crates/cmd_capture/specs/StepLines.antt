-- The lines of `gateway replay` that make steps.
use Rattle.std.specs.Prelude.{ℕ, List, [], ◌∷◌, ◌++◌, codes}
use Rattle.std.specs.Fmt.{decimal}
use Rattle.iec_apci.specs.Apdu.{apdu as apdu_octets}
use Rattle.iec_apci.specs.ApduContent.{content, IsNumbered}
use Rattle.gw_steps.specs.declared.step.Step.{Step}
use Rattle.gw_steps.specs.declared.step.Step.TheVariants as steps
use Rattle.cmd_text.specs.Hex.{spaced_digits}

-- a line makes this step: the numbers of an APDU have 15 bits
abbrev pub HasLine : Step → Type 0
HasLine (steps.Frame client apdu moment) = IsNumbered apdu
HasLine _ = Unit {0}

-- a verb, an outstation or a client, and a moment
abbrev pub words_at : List ℕ → ℕ → ℕ → List ℕ
words_at verb place moment = verb ++ (codes " " ++ (decimal place ++ (codes " " ++ decimal moment)))

abbrev pub words_of_wall : ℕ → List ℕ
words_of_wall wall = codes " " ++ decimal wall

abbrev pub words_of_tick : ℕ → List ℕ
words_of_tick moment = codes "tick " ++ decimal moment

abbrev pub step_words : Step → List ℕ
step_words (steps.OutstationUp outstation moment) = words_at (codes "up") outstation moment
step_words (steps.OutstationDown outstation moment) = words_at (codes "down") outstation moment
step_words (steps.Fragment fragment moment) =
    words_at (codes "frag") fragment.outstation moment ++ spaced_digits fragment.octets
step_words (steps.Poll outstation moment wall) = words_at (codes "poll") outstation moment ++ words_of_wall wall
step_words (steps.ClientUp client moment) = words_at (codes "open") client moment
step_words (steps.ClientDown client moment) = words_at (codes "close") client moment
step_words (steps.Frame client apdu moment) =
    words_at (codes "frame") client moment ++ spaced_digits (apdu_octets (content apdu))
step_words (steps.Pump client moment) = words_at (codes "pump") client moment
step_words (steps.Tick moment) = words_of_tick moment

-- the line that makes a step
abbrev pub step_line : Step → List ℕ
step_line step = step_words step ++ 10 ∷ []
