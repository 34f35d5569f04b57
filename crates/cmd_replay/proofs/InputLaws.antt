-- The lines of a replay, one after the other.
use Rattle.std.proofs.Common.{◌≡◌, ℕ, ◌+◌, Bool, true, false, not, List, [], ◌∷◌, Option}
use Rattle.std.proofs.Common.{Some, None, Result, Ok, Err, IfOk, IfSome, refl, sym, ap, ◌∙◌}
use Rattle.std.proofs.lemmas.Bool.{false≢true, true≢false}
use Rattle.gw_map.specs.Settings.{Setup}
use Rattle.cmd_text.specs.declared.reading.Stop.{Stop}
use Rattle.cmd_text.specs.Lines.{AreAnswered, Further, IsAnswered, lines_of}
use Rattle.cmd_replay.specs.declared.instruction.Instruction.{Instruction}
use Rattle.cmd_replay.specs.Place.{Place}
use Rattle.cmd_replay.specs.Replay.{AnswersFound, AnswersInput, AnswersLine, IsFine, beginning}

-- a line after which it does not go on was refused
found-stops : (before now : Place) (number : ℕ) (found : Option Instruction) (text : List ℕ)
    → AnswersFound before number found false text now → now.has_refused ≡ true
found-stops before now number None text h = ap (λ (p : Place). p.has_refused) h.2
found-stops before now number (Some instruction) text h = absurd (false≢true h.1)

line-stops : (before now : Place) (number : ℕ) (line text : List ℕ) → AnswersLine before number line false text now
    → now.has_refused ≡ true
line-stops before now number [] text h = absurd (false≢true h.0)
line-stops before now number (c ∷ cs) text h = found-stops before now number h.0 text h.2

lines-stop : (number : ℕ) (before last : Place) (lines : List (List ℕ)) (goes_on : Bool) (text : List ℕ)
    → goes_on ≡ false → AreAnswered AnswersLine number before lines goes_on text last → last.has_refused ≡ true
lines-stop number before last [] goes_on text stops h = absurd (true≢false (sym h.0 ∙ stops))
lines-stop number before last (line ∷ lines) goes_on text stops h =
    go h.1 h.5 h.6 (λ are. lines-stop (number + 1) h.0 last lines goes_on h.3 stops are)
  where
    go : (one : Bool) → AnswersLine before number line one h.2 h.0
        → Further one (AreAnswered AnswersLine (number + 1) h.0 lines goes_on h.3 last)
        ((goes_on ≡ false) × (h.3 ≡ []) × (last ≡ h.0))
        → (AreAnswered AnswersLine (number + 1) h.0 lines goes_on h.3 last → last.has_refused ≡ true)
        → last.has_refused ≡ true
    go true answered further later = later further
    go false answered further later =
        ap (λ (p : Place). p.has_refused) further.2 ∙ line-stops before h.0 number line h.2 answered

-- where no line was refused, it went on after each
fine_goes_on : (goes_on : Bool) (number : ℕ) (before last : Place) (lines : List (List ℕ)) (text : List ℕ)
    → last.has_refused ≡ false → AreAnswered AnswersLine number before lines goes_on text last
    → AreAnswered AnswersLine number before lines true text last
fine_goes_on true number before last lines text fine h = h
fine_goes_on false number before last lines text fine h =
    absurd (true≢false (sym (lines-stop number before last lines false text refl h) ∙ fine))

-- ---- a whole input

pub is_answered : (setup : Setup) (last : Place) (goes_on : Bool) (input old new : Option (List ℕ))
    → IfSome input (λ whole. IsAnswered AnswersLine (beginning setup) whole goes_on old new last)
    → IfSome input (λ whole. AnswersInput setup whole (not last.has_refused) old new)
is_answered setup last goes_on None old new answered = tt
is_answered setup last goes_on (Some input) old new answered = (goes_on, last, answered, refl)

not_refused : (has_refused : Bool) → true ≡ not has_refused → has_refused ≡ false
not_refused true is = absurd (true≢false is)
not_refused false is = refl

ok_is : (a b : Bool) (outcome : Result Bool Stop) → outcome ≡ Ok a → outcome ≡ Ok b → a ≡ b
ok_is a b outcome one other = cc

-- the status is 0 only where no line was refused
pub fine_at_0 : (setup : Setup) (outcome : Result Bool Stop) (status : ℕ) (input old new : Option (List ℕ))
    → IfOk outcome (λ is_fine. IfSome input (λ whole. AnswersInput setup whole is_fine old new))
    → (status ≡ 0 → outcome ≡ Ok true) → IfSome input (λ whole. status ≡ 0 → IsFine setup whole)
fine_at_0 setup outcome status None old new answered fine = tt
fine_at_0 setup (Err stop) status (Some input) old new answered fine = λ zero. let e = fine zero in absurd cc
fine_at_0 setup (Ok is_fine) status (Some input) old new answered fine = λ zero.
    let is = ok_is true is_fine (Ok is_fine) (fine zero) refl in
    let none = not_refused answered.1.has_refused (is ∙ answered.3) in (
      answered.2.0,
      answered.1,
      none,
      fine_goes_on answered.0 1 (beginning setup) answered.1 (lines_of input) answered.2.0 none answered.2.2,
    )
