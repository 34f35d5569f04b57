-- News counted one report at a time, and what is shown at one place.
use Rattle.std.proofs.Common.{◌≡◌, ℕ, ◌+◌, ◌≤◌, get_or, Bool, true, false, cond, ltb, List, [], ◌∷◌, ◌++◌}
use Rattle.std.proofs.Common.{length, Option, Some, None, refl, sym, ap, ◌∙◌, append_assoc, inl, inr, arith}
use Rattle.std.specs.Prelude.{slice_get, option_map}
use Rattle.std.proofs.lemmas.Bool.{cases_eq, ne_eqb, eq-eqb, ltb-false, ltb-true}
use Rattle.std.proofs.lemmas.List.{append-nil, length-append}
use Rattle.gw_entries.specs.declared.row.Row.{Row}
use Rattle.gw_model.specs.declared.point.Report.{Report}
use Rattle.gw_model.specs.declared.observation.Observation.{Observation}
use Rattle.gw_model.specs.Clocks.{Clocks}
use Rattle.gw_map.specs.Settings.{row_from}
use Rattle.gw_translate.specs.Image.{image_of, is_news_of}
use Rattle.gw_picture.specs.Picture.{without_time, news_after, news_by_row, news_of_report, news_of, picture_by_row}
use Rattle.gw_picture.specs.Picture.{picture_after_report, picture_after, observation_after_report, observation_after}
use Rattle.gw_picture.proofs.Lists.{change-here, change-there, get_some, get_past}

-- ---- one report is at most one news

after_one : (r : Report) (before : Option Observation) (image : Observation) → length (news_after r before image) ≤ 1
after_one r None image = omega arith
after_one r (Some before) image = go (is_news_of r before image)
  where
    go : (b : Bool) → length (cond b (image ∷ []) []) ≤ 1
    go true = omega arith
    go false = omega arith

at_one : (clocks : Clocks) (picture : List Observation) (r : Report) (found : Option (ℕ × Row))
    → length (news_by_row clocks picture r found) ≤ 1
at_one clocks picture r None = omega arith
at_one clocks picture r (Some found) = after_one r (slice_get picture found.0) (image_of clocks found.1 r)

pub report_one : (clocks : Clocks) (rows : List Row) (picture : List Observation) (r : Report)
    → length (news_of_report clocks rows picture r) ≤ 1
report_one clocks rows picture r = at_one clocks picture r (row_from 0 r.key rows)

pub news_few : (clocks : Clocks) (rows : List Row) (picture : List Observation) (rs : List Report)
    → length (news_of clocks rows picture rs) ≤ length rs
news_few clocks rows picture [] = omega arith
news_few clocks rows picture (r ∷ rs) =
    omega (
      arith,
      length-append (news_of_report clocks rows picture r)
          (news_of clocks rows (picture_after_report clocks rows picture r) rs),
      report_one clocks rows picture r,
      news_few clocks rows (picture_after_report clocks rows picture r) rs,
    )

-- ---- one report more

pub news_of-one : (clocks : Clocks) (rows : List Row) (picture : List Observation) (rs : List Report) (r : Report)
    → news_of clocks rows picture (rs ++ r ∷ [])
    ≡ news_of clocks rows picture rs ++ news_of_report clocks rows (picture_after clocks rows picture rs) r
news_of-one clocks rows picture [] r = append-nil (news_of_report clocks rows picture r)
news_of-one clocks rows picture (x ∷ rs) r =
    ap (λ (zs : List Observation). news_of_report clocks rows picture x ++ zs)
    (news_of-one clocks rows (picture_after_report clocks rows picture x) rs r)
    ∙ sym (append_assoc (news_of_report clocks rows picture x)
    (news_of clocks rows (picture_after_report clocks rows picture x) rs)
    (news_of_report clocks rows (picture_after clocks rows (picture_after_report clocks rows picture x) rs) r))

pub count-one : (clocks : Clocks) (rows : List Row) (picture : List Observation) (rs : List Report) (r : Report)
    → length (news_of clocks rows picture (rs ++ r ∷ [])) ≡ length (news_of clocks rows picture rs)
    + length (news_of_report clocks rows (picture_after clocks rows picture rs) r)
count-one clocks rows picture rs r =
    ap length (news_of-one clocks rows picture rs r) ∙ length-append (news_of clocks rows picture rs)
    (news_of_report clocks rows (picture_after clocks rows picture rs) r)

-- ---- one place

picture_by_row-at : (clocks : Clocks) (r : Report) (picture : List Observation) (position : ℕ) (found : Option (ℕ × Row))
    → slice_get (picture_by_row clocks picture r found) position
    ≡ option_map (λ (x : Observation). observation_after_report clocks r position x found) (slice_get picture position)
picture_by_row-at clocks r picture position None = same (slice_get picture position)
  where
    same : (x : Option Observation) → x ≡ option_map (λ (y : Observation). y) x
    same None = refl
    same (Some x) = refl
picture_by_row-at clocks r picture position (Some found) =
    elim (cases_eq found.0 position) [
      | inl e ↦ rw (← e) (change-here found.0 (λ _. without_time (image_of clocks found.1 r)) picture
          ∙ here (slice_get picture found.0))
      | inr ne ↦ change-there found.0 position (λ _. without_time (image_of clocks found.1 r)) picture ne
          ∙ there ne (slice_get picture position)
    ]
  where
    here : (x : Option Observation) → option_map (λ (y : Observation). without_time (image_of clocks found.1 r)) x
        ≡ option_map (λ (y : Observation). observation_after_report clocks r found.0 y (Some found)) x
    here None = refl
    here (Some x) = rw (eq-eqb found.0 found.0 refl) refl

    there : (found.0 ≡ position → ⊥) → (x : Option Observation)
        → x ≡ option_map (λ (y : Observation). observation_after_report clocks r position y (Some found)) x
    there ne None = refl
    there ne (Some x) = rw (ne_eqb found.0 position ne) refl

maps-twice : (f g : Observation → Observation) (x : Option Observation)
    → option_map f (option_map g x) ≡ option_map (λ (y : Observation). f (g y)) x
maps-twice f g None = refl
maps-twice f g (Some x) = refl

pub picture-at : (clocks : Clocks) (rows : List Row) (picture : List Observation) (rs : List Report) (position : ℕ)
    → slice_get (picture_after clocks rows picture rs) position
    ≡ option_map (λ (x : Observation). observation_after clocks rows position x rs) (slice_get picture position)
picture-at clocks rows picture [] position = same (slice_get picture position)
  where
    same : (x : Option Observation) → x ≡ option_map (λ (y : Observation). y) x
    same None = refl
    same (Some x) = refl
picture-at clocks rows picture (r ∷ rs) position =
    picture-at clocks rows (picture_after_report clocks rows picture r) rs position
    ∙ (ap (option_map (λ (x : Observation). observation_after clocks rows position x rs))
    (picture_by_row-at clocks r picture position (row_from 0 r.key rows))
    ∙ maps-twice (λ (x : Observation). observation_after clocks rows position x rs)
    (λ (x : Observation). observation_after_report clocks r position x (row_from 0 r.key rows))
    (slice_get picture position))

-- nothing is shown at a place past the end
pub past_none : (clocks : Clocks) (rows : List Row) (picture : List Observation) (rs : List Report) (position : ℕ)
    → false ≡ ltb position (length picture) → None ≡ slice_get (picture_after clocks rows picture rs) position
past_none clocks rows picture rs position past =
    sym (picture-at clocks rows picture rs position
    ∙ ap (option_map (λ (x : Observation). observation_after clocks rows position x rs)) (get_past picture position
    (ltb-false position (length picture) (sym past))))

pub within_some : (clocks : Clocks) (rows : List Row) (picture : List Observation) (rs : List Report) (position : ℕ)
    (x : Observation) → true ≡ ltb position (length picture) → x ≡ get_or picture position x
    → slice_get (picture_after clocks rows picture rs) position ≡ Some (observation_after clocks rows position x rs)
within_some clocks rows picture rs position x within e =
    picture-at clocks rows picture rs position
    ∙ ap (option_map (λ (y : Observation). observation_after clocks rows position y rs)) (get_some picture position x
    (ltb-true position (length picture) (sym within)) ∙ ap (λ (y : Observation). Some y) (sym e))
