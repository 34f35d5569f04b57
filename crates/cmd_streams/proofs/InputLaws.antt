-- The lines of an input, one after the other.
use Rattle.std.proofs.Common.{◌≡◌, ◌≢◌, ℕ, ◌+◌, Bool, true, false, ◌&&◌, List, [], ◌∷◌}
use Rattle.std.proofs.Common.{◌++◌, Option, Some, None, IfSome, OnSome, refl, ap, ◌∙◌, subst}
use Rattle.std.specs.List.{list_all}
use Rattle.std.specs.Io.KnownBytes.{Appends}
use Rattle.gw_map.specs.Settings.{Setup}
use Rattle.cmd_text.specs.Lines.{AreAnswered, Further, IsAnswered, lines_of}
use Rattle.cmd_streams.specs.Answers.{AnswersInput, AnswersLine, IsAnswer, beginning}
use Rattle.cmd_streams.specs.Answers.{finding_after_line, finding_after_lines, finding_of}
use Rattle.cmd_streams.specs.Answers.{is_accepted, line_text, standing_after, text_from, text_of}
use Rattle.cmd_streams.specs.Standing.{Standing}
use Rattle.cmd_streams.specs.declared.translator.Finding.{Finding}
use Rattle.cmd_streams.specs.declared.translator.Finding.TheVariants.{Fine, Refused, ShortOfMemory}

-- the lines after one that was answered
further : (number : ℕ) (now last : Standing) (lines : List (List ℕ)) (one goes_on : Bool) (rest : List ℕ) → one ≡ true
    → Further one (AreAnswered AnswersLine (number + 1) now lines goes_on rest last)
    ((goes_on ≡ false) × (rest ≡ []) × (last ≡ now))
    → AreAnswered AnswersLine (number + 1) now lines goes_on rest last
further number now last lines one goes_on rest is h =
    subst
    (λ (b : Bool). Further b (AreAnswered AnswersLine (number + 1) now lines goes_on rest last)
    ((goes_on ≡ false) × (rest ≡ []) × (last ≡ now)))
    is h

-- it goes on after each line
pub goes_on_to_end : (number : ℕ) (before last : Standing) (lines : List (List ℕ)) (goes_on : Bool) (text : List ℕ)
    → AreAnswered AnswersLine number before lines goes_on text last → goes_on ≡ true
goes_on_to_end number before last [] goes_on text h = h.0
goes_on_to_end number before last (line ∷ lines) goes_on text h =
    goes_on_to_end (number + 1) h.0 last lines goes_on h.3
    (further number h.0 last lines h.1 goes_on h.3 h.5.0 h.6)

-- where memory ran out over a line, it did for good
short_after : (line : List ℕ) (lacks : Bool) → finding_after_line ShortOfMemory line lacks ≡ ShortOfMemory
short_after line true = refl
short_after line false = go (is_accepted line)
  where
    go : (b : Bool) → finding_after_lines ShortOfMemory b ≡ ShortOfMemory
    go true = refl
    go false = refl

short_for_good : (number : ℕ) (before last : Standing) (lines : List (List ℕ)) (goes_on : Bool) (text : List ℕ)
    → before.finding ≡ ShortOfMemory → AreAnswered AnswersLine number before lines goes_on text last
    → last.finding ≡ ShortOfMemory
short_for_good number before last [] goes_on text short h = ap (λ (s : Standing). s.finding) h.2 ∙ short
short_for_good number before last (line ∷ lines) goes_on text short h =
    let now_is = ap (λ (s : Standing). s.finding) h.5.3 in
    let still = now_is ∙ ap (λ (f : Finding). finding_after_line f line h.5.1) short ∙ short_after line h.5.1 in
    short_for_good (number + 1) h.0 last lines goes_on h.3 still
    (further number h.0 last lines h.1 goes_on h.3 h.5.0 h.6)

-- what became of lines with memory for each, and what was written
record Judged (before last : Standing) (lines : List (List ℕ)) (text : List ℕ) : Type 0 where
  finding : last.finding ≡ finding_after_lines before.finding (list_all is_accepted lines)
  text_is : text ≡ text_from before.setup before.picture lines

both_lines : (finding : Finding) (a b : Bool)
    → finding_after_lines (finding_after_lines finding a) b ≡ finding_after_lines finding (a && b)
both_lines finding true b = refl
both_lines finding false true = refl
both_lines Fine false false = refl
both_lines Refused false false = refl
both_lines ShortOfMemory false false = refl

judged : (number : ℕ) (before last : Standing) (lines : List (List ℕ)) (goes_on : Bool) (text : List ℕ)
    → last.finding ≢ ShortOfMemory → AreAnswered AnswersLine number before lines goes_on text last
    → Judged before last lines text
judged number before last [] goes_on text enough h =
    record { finding = ap (λ (s : Standing). s.finding) h.2; text_is = h.1 }
judged number before last (line ∷ lines) goes_on text enough h =
    let after = further number h.0 last lines h.1 goes_on h.3 h.5.0 h.6 in
    go h.5.1 h.5.2 h.5.3 after (judged (number + 1) h.0 last lines goes_on h.3 enough after)
  where
    go : (lacks : Bool) → IsAnswer before.setup before.picture line lacks h.2 → h.0 ≡ standing_after before line lacks
        → AreAnswered AnswersLine (number + 1) h.0 lines goes_on h.3 last → Judged h.0 last lines h.3
        → Judged before last (line ∷ lines) text
    go true answer is after next =
        let short = ap (λ (s : Standing). s.finding) is in
        absurd (enough (short_for_good (number + 1) h.0 last lines goes_on h.3 short after))
    go false answer is after next =
        let one = ap (λ (s : Standing). finding_after_lines s.finding (list_all is_accepted lines)) is in
        let text_after = ap (λ (s : Standing). text_from s.setup s.picture lines) is in record {
          finding = next.finding ∙ one ∙ both_lines before.finding (is_accepted line) (list_all is_accepted lines);
          text_is = h.4 ∙ ap (λ (t : List ℕ). t ++ h.3) answer
              ∙ ap (λ (t : List ℕ). line_text before.setup before.picture line ++ t) (next.text_is ∙ text_after);
        }

-- ---- a whole input

module _ (setup : Setup) (last : Standing) (goes_on : Bool) (old new : Option (List ℕ)) where
  abbrev pub Whole : List ℕ → Type 0
  Whole input = IsAnswered AnswersLine (beginning setup) input goes_on old new last

  went_on : (input : List ℕ) → Whole input → goes_on ≡ true
  went_on input h = goes_on_to_end 1 (beginning setup) last (lines_of input) goes_on h.0 h.2

  pub at_end : (P : Type 0) (input : Option (List ℕ)) → IfSome input Whole → (goes_on ≡ true → OnSome input P)
      → OnSome input P
  at_end P None answered ends = tt
  at_end P (Some input) answered ends = ends (went_on input answered)

  pub is_answered : (input : Option (List ℕ)) → IfSome input Whole
      → IfSome input (λ whole. AnswersInput setup whole last.finding old new)
  is_answered None answered = tt
  is_answered (Some input) answered = (
    last,
    refl,
    subst (λ (b : Bool). IsAnswered AnswersLine (beginning setup) input b old new last) (went_on input answered)
        answered,
  )

  pub finding_is : (input : Option (List ℕ)) → IfSome input Whole → last.finding ≢ ShortOfMemory
      → IfSome input (λ whole. last.finding ≡ finding_of whole)
  finding_is None answered enough = tt
  finding_is (Some input) answered enough =
      (judged 1 (beginning setup) last (lines_of input) goes_on answered.0 enough answered.2).finding

  pub text_is_written : (input : Option (List ℕ)) → IfSome input Whole → last.finding ≢ ShortOfMemory
      → IfSome input (λ whole. Appends old new (text_of setup whole))
  text_is_written None answered enough = tt
  text_is_written (Some input) answered enough =
      let all = judged 1 (beginning setup) last (lines_of input) goes_on answered.0 enough answered.2 in
      subst (Appends old new) all.text_is answered.1
