-- The section at the place has one more row.
use Rattle.std.proofs.Common.{◌≡◌, ℕ, zero, suc, ◌<◌, true≢false, List, []}
use Rattle.std.proofs.Common.{◌∷◌, ◌++◌, length, refl, sym, ap, ◌∙◌, arith}
use Rattle.std.specs.Prelude.{slice_index_or, slice_set}
use Rattle.gw_model.specs.Places.{change}
use Rattle.gw_model.specs.declared.observation.Observation.{Observation}
use Rattle.iec_command.specs.declared.command.Command.{Command}
use Rattle.gw_answers.specs.declared.interrogation.AnswerSection.{AnswerSection}
use Rattle.gw_answers.specs.Sections.{commands_in, rows_in}
use Rattle.gw_answers.proofs.interrogation.add_row.Goals as goal

-- a section with the same act in another's place
same_commands : (xs : List AnswerSection) (n : ℕ) (s t : AnswerSection) → s ≡ slice_index_or xs n s
    → t.command ≡ s.command → commands_in (slice_set xs n t) ≡ commands_in xs
same_commands [] n s t at same = refl
same_commands (x ∷ xs) zero s t at same =
    ap (λ (c : Command). c ∷ commands_in xs) (same ∙ ap (λ (y : AnswerSection). y.command) at)
same_commands (x ∷ xs) (suc n) s t at same =
    ap (λ (cs : List Command). x.command ∷ cs) (same_commands xs n s t at same)

-- and with one more row
more_rows : (xs : List AnswerSection) (n : ℕ) (s t : AnswerSection) (row : Observation) → s ≡ slice_index_or xs n s
    → t.rows.items ≡ s.rows.items ++ row ∷ []
    → rows_in (slice_set xs n t) ≡ change n (λ rows. rows ++ row ∷ []) (rows_in xs)
more_rows [] n s t row at more = refl
more_rows (x ∷ xs) zero s t row at more =
    ap (λ (rows : List Observation). rows ∷ rows_in xs)
    (more ∙ ap (λ (y : AnswerSection). y.rows.items ++ row ∷ []) at)
more_rows (x ∷ xs) (suc n) s t row at more =
    ap (λ (rows : List (List Observation)). x.rows.items ∷ rows) (more_rows xs n s t row at more)

-- a place where there is no section
none_there : (xs : List AnswerSection) (n : ℕ) (row : Observation) → (n < length xs → ⊥)
    → rows_in xs ≡ change n (λ rows. rows ++ row ∷ []) (rows_in xs)
none_there [] n row none = refl
none_there (x ∷ xs) zero row none = absurd (none (omega arith))
none_there (x ∷ xs) (suc n) row none =
    ap (λ (rows : List (List Observation)). x.rows.items ∷ rows)
    (none_there xs n row (λ within. none (omega (arith, within))))

pub returns-in_ok-push-clause-commands : goal.returns-in_ok-push-clause-commands
returns-in_ok-push-clause-commands c =
    same_commands c.args.sections.now.items c.args.place c.in-Some.section.now _ c.in-Some.ensures.value refl

pub returns-in_ok-push-clause-rows : goal.returns-in_ok-push-clause-rows
returns-in_ok-push-clause-rows c =
    more_rows c.args.sections.now.items c.args.place c.in-Some.section.now _ c.args.row.now c.in-Some.ensures.value
    c.in_ok-push.ensures.items

pub returns-in_default-clause-rows : goal.returns-in_default-clause-rows
returns-in_default-clause-rows c =
    none_there c.args.sections.now.items c.args.place c.args.row.now
    (λ within. true≢false (sym (c.in_default.ensures.variant.1 (omega (arith, within)))))
