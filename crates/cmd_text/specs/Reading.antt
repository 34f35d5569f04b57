-- What one read brings, and what was read and answered so far.
use Rattle.std.specs.Prelude.{◌≡◌, ◌≢◌, ℕ, Bool, true, false, ⊤, List, []}
use Rattle.std.specs.Prelude.{◌∷◌, ◌++◌, All, take, Option, Some, None}
use Rattle.std.specs.Io.KnownBytes.{Appends, Consumes, IsAtEnd, Keeps}
use Rattle.cmd_text.specs.declared.reading.Piece.{Piece}
use Rattle.cmd_text.specs.declared.reading.Piece.TheVariants.{Nothing, Part, Line, End}
use Rattle.cmd_text.specs.Front.{Front, with_more}
use Rattle.cmd_text.specs.Lines.{Answering, AreAnswered, lines_of}

-- ---- one read

-- no line feed
abbrev pub IsInLine : List ℕ → Type 0
IsInLine octets = All (λ x. x ≢ 10) octets

-- octets go on with a line, and end it or not
abbrev pub IsPart : Bool → List ℕ → Front → Front → Type 0
IsPart false octets line longer = IsInLine octets × (longer ≡ with_more line octets)
IsPart true octets line longer =
    (front : List ℕ) × (octets ≡ front ++ 10 ∷ []) × IsInLine front × (longer ≡ with_more line front)

-- what a read brought
abbrev pub Brings : Piece → Option (List ℕ) → Option (List ℕ) → Front → Front → Type 0
Brings Nothing old new line longer = Keeps old new × (longer ≡ line)
Brings Part old new line longer = (octets : List ℕ) × Consumes old new octets × IsPart false octets line longer
Brings Line old new line longer = (octets : List ℕ) × Consumes old new octets × IsPart true octets line longer
Brings End old new line longer = IsAtEnd old × Keeps old new × (longer ≡ line)

-- ---- read by read

-- known octets stay known, and P holds of those before and those after
abbrev pub Between : Option (List ℕ) → Option (List ℕ) → (List ℕ → List ℕ → Type 0) → Type 0
Between None new P = ⊤
Between (Some old) None P = ⊥
Between (Some old) (Some new) P = P old new

-- of an input the lines before this one were answered, whatever comes of it and of those after it; so much of it came
pub record IsAnsweredUpTo {S : Type 0} (R : Answering S) (before now : S) (line : Front) (input rest : List ℕ)
    (old new : Option (List ℕ)) : Type 0 where
  pub text : List ℕ
  pub written : Appends old new text
  pub begun : List ℕ
  pub in_line : IsInLine begun
  pub kept : line.octets ≡ take line.most begun
  pub further : (goes_on : Bool) (later : List ℕ) (last : S)
      → AreAnswered R line.number now (lines_of (begun ++ rest)) goes_on later last
      → AreAnswered R 1 before (lines_of input) goes_on (text ++ later) last
