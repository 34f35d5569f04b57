-- A line whose front alone is kept is answered as the whole line.
use Rattle.std.proofs.Common.{◌≡◌, ℕ, ◌<◌, Bool, true, false, List, [], ◌∷◌}
use Rattle.std.proofs.Common.{length, take, refl, ap, subst, ◌∙◌, arith}
use Rattle.std.proofs.lemmas.List.{length-take}
use Rattle.gw_map.specs.Settings.{Setup}
use Rattle.gw_model.specs.declared.observation.Observation.{Observation}
use Rattle.cmd_text.specs.Lines.{FrontDecides}
use Rattle.cmd_text.specs.Hex.{line_octets}
use Rattle.cmd_text.proofs.HexLaws.{kept_line as kept_octets}
use Rattle.cmd_streams.specs.Answers.{AnswersLine, AreToStore, IsAnswer, finding_after_line}
use Rattle.cmd_streams.specs.Answers.{finding_after_lines, is_accepted, is_empty, line_reports}
use Rattle.cmd_streams.specs.Answers.{line_text, octets_reports, picture_then, standing_after}
use Rattle.cmd_streams.specs.Standing.{Standing, standing}
use Rattle.cmd_streams.specs.Translation.{picture_after_reports}
use Rattle.cmd_streams.specs.declared.translator.Finding.{Finding}

-- both are empty or neither, and they are the same octets
record SameLine (a b : List ℕ) : Type 0 where
  empty : is_empty a ≡ is_empty b
  octets : line_octets a ≡ line_octets b

is_accepted-same : (a b : List ℕ) → SameLine a b → is_accepted a ≡ is_accepted b
unfolding is_accepted
is_accepted-same a b same = rw (same.empty, same.octets) refl

line_text-same : (setup : Setup) (picture : List Observation) (a b : List ℕ) → SameLine a b
    → line_text setup picture a ≡ line_text setup picture b
unfolding line_text
line_text-same setup picture a b same = rw (same.empty, same.octets) refl

line_reports-same : (a b : List ℕ) → SameLine a b → line_reports a ≡ line_reports b
unfolding line_reports
line_reports-same a b same = ap octets_reports same.octets

IsAnswer-same : (setup : Setup) (picture : List Observation) (a b : List ℕ) (lacks : Bool) (text : List ℕ)
    → SameLine a b → IsAnswer setup picture a lacks text → IsAnswer setup picture b lacks text
IsAnswer-same setup picture a b false text same answered = answered ∙ line_text-same setup picture a b same
IsAnswer-same setup picture a b true text same memory = (subst AreToStore same.octets memory.0, memory.1)

standing_after-same : (before : Standing) (a b : List ℕ) (lacks : Bool) → SameLine a b
    → standing_after before a lacks ≡ standing_after before b lacks
standing_after-same before a b true same = refl
standing_after-same before a b false same =
    let judged = ap (finding_after_lines before.finding) (is_accepted-same a b same) in
    let shown = ap (picture_after_reports before.setup before.picture) (line_reports-same a b same) in
    ap (λ (f : Finding). standing before.setup f (picture_then before.setup before.picture a false)) judged
    ∙ ap (standing before.setup (finding_after_line before.finding b false)) shown

some_is_not_empty : (line : List ℕ) → 0 < length line → is_empty line ≡ false
some_is_not_empty [] some = absurd (omega arith)
some_is_not_empty (x ∷ xs) some = refl

kept_line : (line : List ℕ) → SameLine (take 6144 line) line
kept_line [] = record { empty = refl; octets = kept_octets [] }
kept_line (x ∷ xs) = record {
  empty = some_is_not_empty (take 6144 (x ∷ xs)) (omega (arith, length-take 6144 (x ∷ xs)));
  octets = kept_octets (x ∷ xs);
}

-- 6,144 octets of a line are answered as the whole line
pub kept_decides : FrontDecides AnswersLine 6144
kept_decides before now number line goes_on text answered = (
  answered.0,
  answered.1,
  IsAnswer-same before.setup before.picture (take 6144 line) line answered.1 text (kept_line line) answered.2,
  answered.3 ∙ standing_after-same before (take 6144 line) line answered.1 (kept_line line),
)
