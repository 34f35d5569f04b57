-- Where no object stands twice, no row is of the object of a row before it.
use Rattle.std.proofs.Common.{◌≡◌, ℕ, ◌+◌, Bool, true, not, ◌&&◌, List, []}
use Rattle.std.proofs.Common.{◌∷◌, ◌++◌, map, refl, sym, ap, ◌∙◌, inl, inr}
use Rattle.std.specs.List.{list_any}
use Rattle.std.proofs.lemmas.Bool.{cases_Bool, true≢false}
use Rattle.gw_model.specs.declared.point.ObjectKey.{ObjectKey}
use Rattle.gw_model.specs.Keys.{same_object}
use Rattle.gw_model.proofs.Same.{same_object-true, eq-same_object}
use Rattle.gw_entries.specs.declared.control.Control.{Control}
use Rattle.gw_entries.specs.declared.row.Row.{Row}
use Rattle.gw_map.specs.Sections.{repeated}
use Rattle.gw_map.specs.Settings.{HasSingleAddresses, control_object, row_object}
use Rattle.gw_map.proofs.Finding.{any_more, fresh_head}

-- no row is of this object
abbrev pub is_fresh : ObjectKey → List Row → Bool
is_fresh object [] = true
is_fresh object (row ∷ rows) = not (same_object object (row_object row)) && is_fresh object rows

-- no row is of the object of a row before it
abbrev pub is_single : List Row → Bool
is_single [] = true
is_single (row ∷ rows) = is_fresh (row_object row) rows && is_single rows

any_last : (a : ObjectKey) (xs : List ObjectKey) → list_any (same_object a) (xs ++ a ∷ []) ≡ true
any_last a [] = rw (eq-same_object a a refl)
any_last a (x ∷ xs) = elim (cases_Bool (same_object a x)) [
  | inl hit ↦ rw hit
  | inr miss ↦ rw miss (any_last a xs)
]

fresh_behind : (a : ObjectKey) (n : ℕ) (old : List ObjectKey) (rows : List Row) (more : List ObjectKey) → list_any (same_object a) old ≡ true
    → repeated same_object n old (map row_object rows ++ more) ≡ [] → is_fresh a rows ≡ true
unfolding repeated
fresh_behind a n old [] more there h = refl
fresh_behind a n old (row ∷ rows) more there h =
    let (fresh, behind) = fresh_head (list_any (same_object (row_object row)) old) n
    (repeated same_object (n + 1) (old ++ row_object row ∷ []) (map row_object rows ++ more)) h in
    elim (cases_Bool (same_object a (row_object row))) [
      | inl hit ↦
          absurd (true≢false (sym there ∙ ap (λ (b : ObjectKey). list_any (same_object b) old) (same_object-true a (row_object row) hit) ∙ fresh))
      | inr miss ↦
          rw miss (fresh_behind a (n + 1) (old ++ row_object row ∷ []) rows more
          (any_more (same_object a) (row_object row) old there) behind)
    ]

single_behind : (n : ℕ) (old : List ObjectKey) (rows : List Row) (more : List ObjectKey)
    → repeated same_object n old (map row_object rows ++ more) ≡ [] → is_single rows ≡ true
unfolding repeated
single_behind n old [] more h = refl
single_behind n old (row ∷ rows) more h =
    let (fresh, behind) = fresh_head (list_any (same_object (row_object row)) old) n
    (repeated same_object (n + 1) (old ++ row_object row ∷ []) (map row_object rows ++ more)) h in
    rw (fresh_behind (row_object row) (n + 1) (old ++ row_object row ∷ []) rows more (any_last (row_object row) old) behind)
    (single_behind (n + 1) (old ++ row_object row ∷ []) rows more behind)

pub is_single-true : (rows : List Row) (controls : List Control) → HasSingleAddresses rows controls
    → is_single rows ≡ true
is_single-true rows controls h = single_behind 0 [] rows (map control_object controls) h
