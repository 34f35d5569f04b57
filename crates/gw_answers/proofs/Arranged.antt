-- Rows that are arranged by their common addresses.
use Rattle.std.proofs.Common.{◌≡◌, ℕ, zero, suc, ◌==◌, ◌&&◌, Bool, true, false, cond, List}
use Rattle.std.proofs.Common.{[], ◌∷◌, ◌++◌, map, Some, refl, sym, ap, ap₂, ◌∙◌, inl, inr}
use Rattle.std.proofs.Math.Bool.{and-false}
use Rattle.std.specs.Prelude.{slice_get}
use Rattle.std.specs.List.{list_any}
use Rattle.std.proofs.lemmas.Bool.{cases_Bool, true≢false, eqb-true, eq-eqb}
use Rattle.std.proofs.lemmas.List.{append-nil}
use Rattle.std.proofs.lemmas.List.Elements.{filter-append}
use Rattle.std.proofs.lemmas.Option.{same_Some}
use Rattle.gw_model.specs.declared.observation.Observation.{Observation}
use Rattle.gw_model.specs.Places.{change}
use Rattle.iec_command.specs.declared.command.Command.{Command}
use Rattle.iec_command.specs.declared.command.Action.{Action}
use Rattle.gw_answers.specs.declared.interrogation.AnswerSection.{AnswerSection}
use Rattle.gw_answers.specs.declared.outgoing.OwnAsdu.{OwnAsdu}
use Rattle.gw_answers.specs.Interrogations.{answer_under, answer_with, is_asked_by, rows_under}
use Rattle.gw_answers.specs.Outgoing.{under}
use Rattle.gw_map.specs.Settings.{AreDistinct}
use Rattle.gw_answers.specs.Sections.{commands_in, parts_of, rows_in}

-- ---- sections by their acts and their rows

abbrev zipped : List Command → List (List Observation) → List (List OwnAsdu)
zipped [] rows = []
zipped (c ∷ cs) [] = []
zipped (c ∷ cs) (xs ∷ rows) = answer_with c xs ∷ zipped cs rows

parts_are : (sections : List AnswerSection) → parts_of sections ≡ zipped (commands_in sections) (rows_in sections)
parts_are [] = refl
parts_are (s ∷ sections) =
    ap (λ (more : List (List OwnAsdu)). answer_with s.command s.rows.items ∷ more) (parts_are sections)

zipped_are : (c : Command) (picture : List Observation) (addresses : List ℕ)
    → zipped (map (λ common. under common c) addresses) (map (rows_under c.action picture) addresses)
    ≡ map (answer_under c picture) addresses
zipped_are c picture [] = refl
zipped_are c picture (common ∷ more) =
    ap (λ (parts : List (List OwnAsdu)). answer_under c picture common ∷ parts) (zipped_are c picture more)

-- sections with the acts and the rows of some addresses are the answer under these
pub sections_are : (c : Command) (picture : List Observation) (addresses : List ℕ) (sections : List AnswerSection)
    → commands_in sections ≡ map (λ common. under common c) addresses
    → rows_in sections ≡ map (rows_under c.action picture) addresses
    → parts_of sections ≡ map (answer_under c picture) addresses
sections_are c picture addresses sections commands rows =
    parts_are sections ∙ (ap₂ zipped commands rows ∙ zipped_are c picture addresses)

-- ---- one more row

one_more : (action : Action) (xs : List Observation) (x : Observation) (common : ℕ)
    → rows_under action (xs ++ x ∷ []) common
    ≡ rows_under action xs common ++ cond (x.common == common && is_asked_by action x) (x ∷ []) []
one_more action xs x common = filter-append (λ y. y.common == common && is_asked_by action y) xs (x ∷ [])

-- a row that isn't asked, or is under another address, changes nothing there
not_here : (action : Action) (xs : List Observation) (x : Observation) (common : ℕ)
    → (x.common == common && is_asked_by action x) ≡ false
    → rows_under action (xs ++ x ∷ []) common ≡ rows_under action xs common
not_here action xs x common apart = one_more action xs x common ∙ rw apart (append-nil (rows_under action xs common))

pub not_asked : (action : Action) (xs : List Observation) (x : Observation) (addresses : List ℕ)
    → is_asked_by action x ≡ false
    → map (rows_under action (xs ++ x ∷ [])) addresses ≡ map (rows_under action xs) addresses
not_asked action xs x [] apart = refl
not_asked action xs x (common ∷ more) apart =
    ap₂ (λ (rows : List Observation) (others : List (List Observation)). rows ∷ others)
    (not_here action xs x common (ap (λ (b : Bool). (x.common == common) && b) apart ∙ and-false (x.common == common)))
    (not_asked action xs x more apart)

-- two numbers are compared either way
other_way : (a b : ℕ) → (a == b) ≡ false → (b == a) ≡ false
other_way a b apart = elim (cases_Bool (b == a)) [
  | inl same ↦ absurd (true≢false (sym (eq-eqb a b (sym (eqb-true b a same))) ∙ apart))
  | inr other ↦ other
]

pub nowhere : (action : Action) (xs : List Observation) (x : Observation) (addresses : List ℕ)
    → list_any (λ address. address == x.common) addresses ≡ false
    → map (rows_under action (xs ++ x ∷ [])) addresses ≡ map (rows_under action xs) addresses
nowhere action xs x [] none = refl
nowhere action xs x (common ∷ more) none = elim (cases_Bool (common == x.common)) [
  | inl same ↦ absurd (true≢false (rw same at none))
  | inr other ↦
      ap₂ (λ (rows : List Observation) (others : List (List Observation)). rows ∷ others)
      (not_here action xs x common (ap (λ (b : Bool). b && is_asked_by action x) (other_way common x.common other)))
      (nowhere action xs x more (rw other at none))
]

-- a row that is asked goes to the place of its address
pub here : (action : Action) (xs : List Observation) (x : Observation) (addresses : List ℕ) (place : ℕ)
    → is_asked_by action x ≡ true → AreDistinct addresses → slice_get addresses place ≡ Some x.common
    → map (rows_under action (xs ++ x ∷ [])) addresses
    ≡ change place (λ rows. rows ++ x ∷ []) (map (rows_under action xs) addresses)
here action xs x [] place asked are at = absurd cc
here action xs x (common ∷ more) zero asked are at =
    let same : common ≡ x.common = same_Some _ _ at in
    let is : (x.common == common && is_asked_by action x) ≡ true =
    ap (λ (b : Bool). b && is_asked_by action x) (eq-eqb x.common common (sym same)) ∙ asked in
    let others : list_any (λ address. address == x.common) more ≡ false =
    ap (λ (n : ℕ). list_any (λ address. address == n) more) (sym same) ∙ are.0 in
    ap₂ (λ (rows : List Observation) (others : List (List Observation)). rows ∷ others)
    (one_more action xs x common ∙ rw is refl) (nowhere action xs x more others)
here action xs x (common ∷ more) (suc place) asked are at =
    let there : list_any (λ address. address == common) more ≡ false = are.0 in
    ap₂ (λ (rows : List Observation) (others : List (List Observation)). rows ∷ others)
    (not_here action xs x common (ap (λ (b : Bool). b && is_asked_by action x)
    (apart common x.common more place there at)))
    (here action xs x more place asked are.1 at)
  where
    apart : (a b : ℕ) (ys : List ℕ) (n : ℕ) → list_any (λ address. address == a) ys ≡ false
        → slice_get ys n ≡ Some b → (b == a) ≡ false
    apart a b [] n none at = absurd cc
    apart a b (y ∷ ys) zero none at = elim (cases_Bool (y == a)) [
      | inl same ↦ absurd (true≢false (rw same at none))
      | inr other ↦ ap (λ (k : ℕ). k == a) (sym (same_Some _ _ at)) ∙ other
    ]
    apart a b (y ∷ ys) (suc n) none at = elim (cases_Bool (y == a)) [
      | inl same ↦ absurd (true≢false (rw same at none))
      | inr other ↦ apart a b ys n (rw other at none) at
    ]
