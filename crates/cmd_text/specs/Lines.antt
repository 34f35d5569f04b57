-- The lines of an input, and their answers, one after the other.
use Rattle.std.specs.Prelude.{◌≡◌, ℕ, ◌+◌, Bool, true, false, List, []}
use Rattle.std.specs.Prelude.{◌∷◌, ◌++◌, take, ◌==◌, Option, if◌then◌else◌}
use Rattle.std.specs.Io.KnownBytes.{Appends}

-- ---- lines

-- octets before the first of some lines
unfoldable pub onto_first : List ℕ → List (List ℕ) → List (List ℕ)
onto_first front [] = front ∷ []
onto_first front (line ∷ lines) = (front ++ line) ∷ lines

-- the lines of an input: what stands between line feeds (octet 10), the last one without one
unfoldable pub lines_of : List ℕ → List (List ℕ)
lines_of [] = [] ∷ []
lines_of (x ∷ xs) = if x == 10 then [] ∷ lines_of xs else onto_first (x ∷ []) (lines_of xs)

-- ---- answers

-- what answers a line: from a state, the line's number and octets, to whether it goes on, a text, and the state then
abbrev pub Answering : Type 0 → Type 1
Answering S = S → ℕ → List ℕ → Bool → List ℕ → S → Type 0

-- so many octets of a line are answered as the whole line
abbrev pub FrontDecides : {S : Type 0} → Answering S → ℕ → Type 0
FrontDecides {S} R kept = (before now : S) (number : ℕ) (line : List ℕ) (goes_on : Bool) (text : List ℕ)
    → R before number (take kept line) goes_on text now → R before number line goes_on text now

-- one of two, by whether it goes on
abbrev pub Further : Bool → Type 0 → Type 0 → Type 0
Further true going_on ended = going_on
Further false going_on ended = ended

-- lines from this number on were answered in order, to the last one or to the first after which it does not go on;
-- whether all were and it goes on, what was written, and the last state
abbrev pub AreAnswered : {S : Type 0} → Answering S → ℕ → S → List (List ℕ) → Bool → List ℕ → S → Type 0
AreAnswered R number before [] goes_on text last = (goes_on ≡ true) × (text ≡ []) × (last ≡ before)
AreAnswered {S} R number before (line ∷ lines) goes_on text last =
    (now : S) × (one : Bool) × (answer : List ℕ) × (rest : List ℕ)
    × (text ≡ answer ++ rest) × R before number line one answer now
    × Further one (AreAnswered R (number + 1) now lines goes_on rest last)
    ((goes_on ≡ false) × (rest ≡ []) × (last ≡ now))

-- the lines of an input were, and a writer has got just their answers
abbrev pub IsAnswered : {S : Type 0} → Answering S → S → List ℕ → Bool → Option (List ℕ) → Option (List ℕ)
    → S → Type 0
IsAnswered R before input goes_on old new last =
    (text : List ℕ) × Appends old new text × AreAnswered R 1 before (lines_of input) goes_on text last
