-- A line of a replay whose front alone is kept is answered as the whole line.
use Rattle.std.proofs.Common.{◌≡◌, ℕ, ◌<◌, ◌≤◌, Bool, true, false, List, [], ◌∷◌, length, take}
use Rattle.std.proofs.Common.{Option, None, inl, inr, refl, sym, subst, arith, take_all, true≢false}
use Rattle.std.specs.Prelude.{MatchBool}
use Rattle.std.proofs.lemmas.Bool.{cases_lt, false≢true, le-ltb}
use Rattle.std.proofs.lemmas.List.{length-take}
use Rattle.cmd_text.specs.Lines.{FrontDecides}
use Rattle.cmd_replay.specs.declared.instruction.Instruction.{Instruction}
use Rattle.cmd_replay.specs.Instructions.{IsRead}
use Rattle.cmd_replay.specs.Place.{Place}
use Rattle.cmd_replay.specs.Replay.{AnswersLine, IsFound}

-- a long line asks for nothing
long_found : (line : List ℕ) (found : Option Instruction) → 8192 ≤ length line → IsFound line found → found ≡ None
long_found line found long h =
    subst (λ (b : Bool). MatchBool b (IsRead line found) (found ≡ None)) (le-ltb (length line) 8192 long) h

found_long : (line : List ℕ) (found : Option Instruction) → 8192 ≤ length line → found ≡ None → IsFound line found
found_long line found long none =
    subst (λ (b : Bool). MatchBool b (IsRead line found) (found ≡ None)) (sym (le-ltb (length line) 8192 long)) none

IsFound-kept : (line : List ℕ) (found : Option Instruction) → IsFound (take 8192 line) found → IsFound line found
IsFound-kept line found h =
    elim (cases_lt 8192 (length line)) [
      | inl longer ↦
          found_long line found (omega arith)
          (long_found (take 8192 line) found (omega (arith, length-take 8192 line)) h)
      | inr short ↦ subst (λ (l : List ℕ). IsFound l found) (take_all 8192 line short) h
    ]

abbrev is_empty : List ℕ → Bool
is_empty [] = true
is_empty (x ∷ xs) = false

some_is_not_empty : (line : List ℕ) → 0 < length line → is_empty line ≡ false
some_is_not_empty [] some = absurd (omega arith)
some_is_not_empty (x ∷ xs) some = refl

kept_empty : (line : List ℕ) → is_empty (take 8192 line) ≡ is_empty line
kept_empty [] = refl
kept_empty (x ∷ xs) = some_is_not_empty (take 8192 (x ∷ xs)) (omega (arith, length-take 8192 (x ∷ xs)))

-- both are empty or neither, and what the one asks for the other does
module _ (before now : Place) (number : ℕ) (goes_on : Bool) (text : List ℕ) where
  answered-same : (a b : List ℕ) → is_empty a ≡ is_empty b
      → ((found : Option Instruction) → IsFound a found → IsFound b found)
      → AnswersLine before number a goes_on text now → AnswersLine before number b goes_on text now
  answered-same [] [] empty same h = h
  answered-same [] (y ∷ ys) empty same h = absurd (true≢false empty)
  answered-same (x ∷ xs) [] empty same h = absurd (false≢true empty)
  answered-same (x ∷ xs) (y ∷ ys) empty same h = (h.0, same h.0 h.1, h.2)

-- 8,192 octets of a line are answered as the whole line
pub kept_decides : FrontDecides AnswersLine 8192
kept_decides before now number line goes_on text answered =
    answered-same before now number goes_on text (take 8192 line) line (kept_empty line) (IsFound-kept line) answered
