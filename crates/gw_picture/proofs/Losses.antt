-- A loss: the row at each place in turn; what it leaves of a picture;
-- and the picture after it is that of the log with it.
use Rattle.std.proofs.Common.{◌≡◌, ℕ, zero, suc, ◌+◌, ◌<◌, ◌≤◌, Bool, true, false, not, ◌&&◌, cond, eqb, List, []}
use Rattle.std.proofs.Common.{◌∷◌, ◌++◌, map, length, take, drop, Option, Some, None, refl, sym, ap, subst, ◌∙◌, arith}
use Rattle.std.specs.Prelude.{slice_get, option_map}
use Rattle.std.specs.List.{AllByRecursion}
use Rattle.std.proofs.lemmas.Bool.{and_parts, and_right, not-true, not-false, not_from_true, eq-eqb, ne_eqb}
use Rattle.std.proofs.lemmas.List.{append-nil, length-append, take-append-drop, take_all, drop_all}
use Rattle.gw_model.specs.declared.point.Stamp.TheVariants.{Untimed}
use Rattle.gw_entries.specs.declared.row.Row.{Row}
use Rattle.gw_entries.specs.declared.control.Control.{Control}
use Rattle.gw_model.specs.declared.observation.Value.{Value}
use Rattle.gw_model.specs.declared.observation.Value.TheVariants.{Total}
use Rattle.gw_model.specs.declared.observation.Quality.{Quality}
use Rattle.gw_model.specs.declared.observation.Observation.{Observation}
use Rattle.gw_model.specs.declared.point.ObjectKey.{ObjectKey}
use Rattle.gw_model.specs.Keys.{object_of, same_object}
use Rattle.gw_model.proofs.Same.{eq-same_object, other_object}
use Rattle.gw_map.specs.Settings.{HasSingleAddresses, row_object}
use Rattle.gw_model.specs.Places.{change}
use Rattle.gw_picture.specs.Opening.{opening}
use Rattle.gw_picture.specs.Picture.{without_time}
use Rattle.gw_picture.specs.Log.{last_observation, picture_of}
use Rattle.gw_picture.specs.Rows.{IsPictureOf}
use Rattle.gw_picture.specs.Loss.{quality_lost, tells_loss, lost, is_lost_with, losses_of_row}
use Rattle.gw_picture.specs.Loss.{shown_after_loss, losses_of, picture_after_loss}
use Rattle.gw_picture.specs.Loss.{losses_of_both, shown_at_loss, losses_at, picture_losing_at}
use Rattle.gw_picture.proofs.Lists.{some_is, change-still, change-by, change-length, change-behind}
use Rattle.gw_picture.proofs.Addresses.{is_fresh, is_single, is_single-true}
use Rattle.gw_picture.proofs.Logs.{shown_by, last_observation-object}
use Rattle.gw_picture.proofs.Rows.{IsUntimed}

-- ---- nothing is lost where nothing is shown

losses_none : (outstation : ℕ) (rows : List Row) → losses_of outstation rows [] ≡ []
losses_none outstation [] = refl
losses_none outstation (row ∷ rows) = refl

shown_none : (outstation : ℕ) (rows : List Row) → picture_after_loss outstation rows [] ≡ []
shown_none outstation [] = refl
shown_none outstation (row ∷ rows) = refl

-- ---- the loss of the rows from a place on: of the row there, and of those behind it

from_place : (outstation : ℕ) (rows : List Row) (picture : List Observation) (n : ℕ) → n < length picture
    → losses_of outstation (drop n rows) (drop n picture)
    ≡ losses_at outstation rows picture n ++ losses_of outstation (drop (suc n) rows) (drop (suc n) picture)
from_place outstation rows [] n lt = absurd (omega arith)
from_place outstation [] (x ∷ picture) zero lt = refl
from_place outstation [] (x ∷ picture) (suc n) lt = refl
from_place outstation (row ∷ rows) (x ∷ picture) zero lt = refl
from_place outstation (row ∷ rows) (x ∷ picture) (suc n) lt = from_place outstation rows picture n (omega arith)

-- by one picture
pub loss_from : (outstation : ℕ) (rows : List Row) (picture : List Observation) (n : ℕ) → n < length picture
    → losses_of outstation (drop n rows) (drop n picture)
    ≡ losses_at outstation rows picture n ++ losses_of outstation (drop (n + 1) rows) (drop (n + 1) picture)
loss_from outstation rows picture n lt =
    let next : n + 1 ≡ suc n = omega arith in
    rw next (from_place outstation rows picture n lt)

-- and by the picture after the loss of the row there
pub loss_next : (outstation : ℕ) (rows : List Row) (picture : List Observation) (n : ℕ) → n < length picture
    → losses_of outstation (drop n rows) (drop n picture)
    ≡ losses_at outstation rows picture n
    ++ losses_of outstation (drop (n + 1) rows) (drop (n + 1) (picture_losing_at outstation rows picture n))
loss_next outstation rows picture n lt =
    let next : n + 1 ≡ suc n = omega arith in
    rw next (from_place outstation rows picture n lt
    ∙ ap (λ (xs : List Observation). losses_at outstation rows picture n ++ losses_of outstation (drop (suc n) rows) xs)
    (sym (change-behind n (shown_at_loss outstation (slice_get rows n)) picture)))

-- counted
pub count_next : (outstation : ℕ) (rows : List Row) (picture : List Observation) (n : ℕ) → n < length picture
    → length (losses_of outstation (drop n rows) (drop n picture)) ≡ length (losses_at outstation rows picture n)
    + length (losses_of outstation (drop (n + 1) rows) (drop (n + 1) picture))
count_next outstation rows picture n lt =
    ap length (loss_from outstation rows picture n lt) ∙ length-append (losses_at outstation rows picture n)
    (losses_of outstation (drop (n + 1) rows) (drop (n + 1) picture))

shown_from : (outstation : ℕ) (rows : List Row) (picture : List Observation) (n : ℕ) → n < length picture
    → take n picture ++ picture_after_loss outstation (drop n rows) (drop n picture)
    ≡ take (suc n) (picture_losing_at outstation rows picture n)
    ++ picture_after_loss outstation (drop (suc n) rows) (drop (suc n) (picture_losing_at outstation rows picture n))
shown_from outstation rows [] n lt = absurd (omega arith)
shown_from outstation [] (x ∷ picture) zero lt = refl
shown_from outstation [] (x ∷ picture) (suc n) lt =
    let same : change n (shown_at_loss outstation None) picture ≡ picture =
    change-still n (shown_at_loss outstation None) picture (λ (y : Observation) at. refl) in
    ap (λ (xs : List Observation). x ∷ xs) (take-append-drop n picture
    ∙ (sym same ∙ sym (take-append-drop (suc n) (change n (shown_at_loss outstation None) picture))))
shown_from outstation (row ∷ rows) (x ∷ picture) zero lt = refl
shown_from outstation (row ∷ rows) (x ∷ picture) (suc n) lt =
    ap (λ (xs : List Observation). x ∷ xs) (shown_from outstation rows picture n (omega arith))

-- what the rows before the place show, and what those from it on show after the loss
pub shown_next : (outstation : ℕ) (rows : List Row) (picture : List Observation) (n : ℕ) → n < length picture
    → take n picture ++ picture_after_loss outstation (drop n rows) (drop n picture)
    ≡ take (n + 1) (picture_losing_at outstation rows picture n)
    ++ picture_after_loss outstation (drop (n + 1) rows) (drop (n + 1) (picture_losing_at outstation rows picture n))
shown_next outstation rows picture n lt =
    let next : n + 1 ≡ suc n = omega arith in
    rw next (shown_from outstation rows picture n lt)

pub losing_length : (outstation : ℕ) (rows : List Row) (picture : List Observation) (n : ℕ)
    → length (picture_losing_at outstation rows picture n) ≡ length picture
losing_length outstation rows picture n = change-length n (shown_at_loss outstation (slice_get rows n)) picture

-- past the last place nothing is left
pub losses_end : (outstation : ℕ) (rows : List Row) (picture : List Observation) (n : ℕ) → length picture ≤ n
    → losses_of outstation (drop n rows) (drop n picture) ≡ []
losses_end outstation rows picture n le =
    ap (losses_of outstation (drop n rows)) (drop_all n picture le) ∙ losses_none outstation (drop n rows)

pub shown_end : (outstation : ℕ) (rows : List Row) (picture : List Observation) (n : ℕ) → length picture ≤ n
    → take n picture ++ picture_after_loss outstation (drop n rows) (drop n picture) ≡ picture
shown_end outstation rows picture n le =
    ap (λ (xs : List Observation). take n picture ++ xs)
    (ap (picture_after_loss outstation (drop n rows)) (drop_all n picture le) ∙ shown_none outstation (drop n rows))
    ∙ (append-nil (take n picture) ∙ take_all n picture le)

-- ---- how many

row_one : (outstation : ℕ) (row : Row) (x : Observation) → length (losses_of_row outstation row x) ≤ 1
row_one outstation row x = go (is_lost_with outstation row x)
  where
    go : (b : Bool) → length (cond b (lost x ∷ []) []) ≤ 1
    go true = omega arith
    go false = omega arith

pub losses_few : (outstation : ℕ) (rows : List Row) (picture : List Observation)
    → length (losses_of outstation rows picture) ≤ length picture
losses_few outstation [] picture = omega arith
losses_few outstation (row ∷ rows) [] = omega arith
losses_few outstation (row ∷ rows) (x ∷ picture) =
    omega (
      arith,
      length-append (losses_of_row outstation row x) (losses_of outstation rows picture),
      row_one outstation row x,
      losses_few outstation rows picture,
    )

-- ---- the row at a place

still : (outstation : ℕ) (row : Option Row) (x : Observation) → losses_of_both outstation row (Some x) ≡ []
    → shown_at_loss outstation row x ≡ x
still outstation None x e = refl
still outstation (Some row) x e = go (is_lost_with outstation row x) e
  where
    go : (b : Bool) → cond b (lost x ∷ []) [] ≡ [] → cond b (lost x) x ≡ x
    go true none = absurd cc
    go false none = refl

moved : (outstation : ℕ) (row : Option Row) (x y : Observation) → losses_of_both outstation row (Some x) ≡ y ∷ []
    → shown_at_loss outstation row x ≡ y
moved outstation None x y e = absurd cc
moved outstation (Some row) x y e = go (is_lost_with outstation row x) e
  where
    go : (b : Bool) → cond b (lost x ∷ []) [] ≡ y ∷ [] → cond b (lost x) x ≡ y
    go true one = cc
    go false one = absurd cc

-- where the loss is none the picture stays, and where it is an observation that is shown
pub loss_none : (outstation : ℕ) (rows : List Row) (picture : List Observation) (n : ℕ)
    → losses_at outstation rows picture n ≡ []
    → picture_losing_at outstation rows picture n ≡ picture
loss_none outstation rows picture n e =
    change-still n (shown_at_loss outstation (slice_get rows n)) picture (λ (x : Observation) at.
    still outstation (slice_get rows n) x (ap (losses_of_both outstation (slice_get rows n)) (sym at) ∙ e))

pub loss_some : (outstation : ℕ) (rows : List Row) (picture : List Observation) (n : ℕ) (y : Observation)
    → losses_at outstation rows picture n ≡ y ∷ []
    → picture_losing_at outstation rows picture n ≡ change n (λ _. y) picture
loss_some outstation rows picture n y e =
    change-by n (shown_at_loss outstation (slice_get rows n)) y picture (λ (x : Observation) at.
    moved outstation (slice_get rows n) x y (ap (losses_of_both outstation (slice_get rows n)) (sym at) ∙ e))

-- ---- what a loss leaves

row_keeps_object : (outstation : ℕ) (row : Row) (x : Observation)
    → object_of (shown_after_loss outstation row x) ≡ object_of x
row_keeps_object outstation row x = go (is_lost_with outstation row x)
  where
    go : (b : Bool) → object_of (cond b (lost x) x) ≡ object_of x
    go true = refl
    go false = refl

row_keeps_untimed : (outstation : ℕ) (row : Row) (x : Observation) → x.stamp ≡ Untimed
    → (shown_after_loss outstation row x).stamp ≡ Untimed
row_keeps_untimed outstation row x e = go (is_lost_with outstation row x)
  where
    go : (b : Bool) → (cond b (lost x) x).stamp ≡ Untimed
    go true = refl
    go false = e

keeps_objects : (outstation : ℕ) (rows : List Row) (picture : List Observation)
    → map object_of (picture_after_loss outstation rows picture) ≡ map object_of picture
keeps_objects outstation [] picture = refl
keeps_objects outstation (row ∷ rows) [] = refl
keeps_objects outstation (row ∷ rows) (x ∷ picture) =
    ap (λ (a : ObjectKey). a ∷ map object_of (picture_after_loss outstation rows picture)) (row_keeps_object outstation row x)
    ∙ ap (λ (ns : List ObjectKey). object_of x ∷ ns) (keeps_objects outstation rows picture)

keeps_untimed : (outstation : ℕ) (rows : List Row) (picture : List Observation) → AllByRecursion IsUntimed picture
    → AllByRecursion IsUntimed (picture_after_loss outstation rows picture)
keeps_untimed outstation [] picture all = all
keeps_untimed outstation (row ∷ rows) [] all = tt
keeps_untimed outstation (row ∷ rows) (x ∷ picture) all =
    (row_keeps_untimed outstation row x all.0, keeps_untimed outstation rows picture all.1)

pub loss_keeps_picture : (outstation : ℕ) (rows : List Row) (picture : List Observation) → IsPictureOf rows picture
    → IsPictureOf rows (picture_after_loss outstation rows picture)
loss_keeps_picture outstation rows picture is = record {
  objects = keeps_objects outstation rows picture ∙ is.objects;
  untimed = keeps_untimed outstation rows picture is.untimed;
}

-- what is shown at a place after a loss
pub loss_shows : (outstation : ℕ) (rows : List Row) (picture : List Observation) (n : ℕ)
    → slice_get (picture_after_loss outstation rows picture) n
    ≡ option_map (shown_at_loss outstation (slice_get rows n)) (slice_get picture n)
loss_shows outstation [] picture n = same (slice_get picture n)
  where
    same : (x : Option Observation) → x ≡ option_map (shown_at_loss outstation None) x
    same None = refl
    same (Some x) = refl
loss_shows outstation (row ∷ rows) [] n = refl
loss_shows outstation (row ∷ rows) (x ∷ picture) zero = refl
loss_shows outstation (row ∷ rows) (x ∷ picture) (suc n) = loss_shows outstation rows picture n

lost_tells : (value : Value) (q : Quality) → tells_loss value (quality_lost value q) ≡ true
lost_tells (Total count) q = refl
lost_tells _ q = refl

abbrev tells : Observation → Bool
tells x = tells_loss x.value x.quality

row_tells : (outstation : ℕ) (row : Row) (x : Observation) → row.key.outstation ≡ outstation
    → tells (shown_after_loss outstation row x) ≡ true
row_tells outstation row x e = go (is_lost_with outstation row x) refl
  where
    go : (b : Bool) → is_lost_with outstation row x ≡ b → tells (cond b (lost x) x) ≡ true
    go true is = lost_tells x.value x.quality
    go false is =
        not-false (tells x) (ap (λ (t : Bool). t && not (tells x)) (sym (eq-eqb row.key.outstation outstation e)) ∙ is)

place_tells : (outstation : ℕ) (row : Row) (shown : Option Observation) (x : Observation)
    → row.key.outstation ≡ outstation
    → option_map (shown_at_loss outstation (Some row)) shown ≡ Some x → tells x ≡ true
place_tells outstation row None x e at = absurd cc
place_tells outstation row (Some y) x e at = subst (λ (z : Observation). tells z ≡ true)
    (some_is (shown_after_loss outstation row y) x at) (row_tells outstation row y e)

pub loss_tells : (outstation : ℕ) (rows : List Row) (picture : List Observation) (n : ℕ) (row : Row) (x : Observation)
    → slice_get rows n ≡ Some row → row.key.outstation ≡ outstation
    → slice_get (picture_after_loss outstation rows picture) n ≡ Some x → tells_loss x.value x.quality ≡ true
loss_tells outstation rows picture n row x found e at =
    place_tells outstation row (slice_get picture n) x e
    (ap (λ (r : Option Row). option_map (shown_at_loss outstation r) (slice_get picture n)) (sym found)
    ∙ (sym (loss_shows outstation rows picture n) ∙ at))

place_stays : (outstation : ℕ) (row : Row) (shown : Option Observation) → (row.key.outstation ≡ outstation → ⊥)
    → option_map (shown_at_loss outstation (Some row)) shown ≡ shown
place_stays outstation row None ne = refl
place_stays outstation row (Some x) ne =
    ap (λ (t : Bool). Some (cond (t && not (tells x)) (lost x) x)) (ne_eqb row.key.outstation outstation ne)

pub loss_leaves : (outstation : ℕ) (rows : List Row) (picture : List Observation) (n : ℕ) (row : Row)
    → slice_get rows n ≡ Some row → (row.key.outstation ≡ outstation → ⊥)
    → slice_get (picture_after_loss outstation rows picture) n ≡ slice_get picture n
loss_leaves outstation rows picture n row found ne =
    loss_shows outstation rows picture n
    ∙ (ap (λ (r : Option Row). option_map (shown_at_loss outstation r) (slice_get picture n)) found
    ∙ place_stays outstation row (slice_get picture n) ne)

row_again : (outstation : ℕ) (row : Row) (x : Observation)
    → losses_of_row outstation row (shown_after_loss outstation row x) ≡ []
row_again outstation row x = go (is_lost_with outstation row x) refl
  where
    go : (b : Bool) → is_lost_with outstation row x ≡ b → losses_of_row outstation row (cond b (lost x) x) ≡ []
    go true is =
        ap (λ (t : Bool). cond t (lost (lost x) ∷ []) []) (and_right (eqb row.key.outstation outstation)
        (not (tells (lost x))) (not_from_true (tells (lost x)) (lost_tells x.value x.quality)))
    go false is = ap (λ (t : Bool). cond t (lost x ∷ []) []) is

pub loss_again : (outstation : ℕ) (rows : List Row) (picture : List Observation)
    → losses_of outstation rows (picture_after_loss outstation rows picture) ≡ []
loss_again outstation [] picture = refl
loss_again outstation (row ∷ rows) [] = refl
loss_again outstation (row ∷ rows) (x ∷ picture) =
    ap (λ (xs : List Observation). xs ++ losses_of outstation rows (picture_after_loss outstation rows picture))
    (row_again outstation row x)
    ∙ loss_again outstation rows picture

-- ---- the log with a loss

-- what a row shows by a log and what comes after it
abbrev shown_then : List Observation → List Observation → Row → Observation
shown_then log more row = last_observation (row_object row) (shown_by log row) more

last-append : (object : ObjectKey) (shown : Observation) (log more : List Observation)
    → last_observation object (last_observation object shown log) more ≡ last_observation object shown (log ++ more)
last-append object shown [] more = refl
last-append object shown (y ∷ log) more =
    last-append object (cond (same_object (object_of y) object) (without_time y) shown) log more

picture_then : (rows : List Row) (log more : List Observation)
    → map (shown_then log more) rows ≡ picture_of rows (log ++ more)
picture_then [] log more = refl
picture_then (row ∷ rows) log more =
    ap (λ (x : Observation). x ∷ map (shown_then log more) rows) (last-append (row_object row) (opening row) log more)
    ∙ ap (λ (xs : List Observation). shown_by (log ++ more) row ∷ xs) (picture_then rows log more)

shown_object : (log : List Observation) (row : Row) → object_of (shown_by log row) ≡ row_object row
shown_object log row = last_observation-object (row_object row) (opening row) log refl

-- the loss of a row isn't shown of another object
skips_row : (outstation : ℕ) (object : ObjectKey) (shown : Observation) (row : Row) (x : Observation) (more : List Observation)
    → same_object (object_of x) object ≡ false
    → last_observation object shown (losses_of_row outstation row x ++ more) ≡ last_observation object shown more
skips_row outstation object shown row x more apart = go (is_lost_with outstation row x)
  where
    go : (b : Bool)
        → last_observation object shown (cond b (lost x ∷ []) [] ++ more) ≡ last_observation object shown more
    go true = ap (λ (t : Bool). last_observation object (cond t (without_time (lost x)) shown) more) apart
    go false = refl

-- nor is that of rows none of which is of the object
skips_rows : (outstation : ℕ) (object : ObjectKey) (shown : Observation) (rows : List Row) (log : List Observation)
    → is_fresh object rows ≡ true
    → last_observation object shown (losses_of outstation rows (picture_of rows log)) ≡ shown
skips_rows outstation object shown [] log fresh = refl
skips_rows outstation object shown (row ∷ rows) log fresh =
    let parts = and_parts (not (same_object object (row_object row))) (is_fresh object rows) fresh in
    let other : same_object object (row_object row) ≡ false = not-true (same_object object (row_object row)) parts.0 in
    let apart : same_object (object_of (shown_by log row)) object ≡ false =
    ap (λ (a : ObjectKey). same_object a object) (shown_object log row) ∙ other_object object (row_object row) other in
    skips_row outstation object shown row (shown_by log row) (losses_of outstation rows (picture_of rows log)) apart
    ∙ skips_rows outstation object shown rows log parts.1

-- rows that a fresh row stands before don't show its loss
rows_skip : (outstation : ℕ) (first : Row) (x : Observation) (more : List Observation) (rows : List Row)
    (log : List Observation) → is_fresh (row_object first) rows ≡ true
    → object_of x ≡ row_object first
    → map (shown_then log (losses_of_row outstation first x ++ more)) rows ≡ map (shown_then log more) rows
rows_skip outstation first x more [] log fresh e = refl
rows_skip outstation first x more (row ∷ rows) log fresh e =
    let parts = and_parts (not (same_object (row_object first) (row_object row))) (is_fresh (row_object first) rows) fresh in
    let other : same_object (row_object first) (row_object row) ≡ false = not-true (same_object (row_object first) (row_object row)) parts.0 in
    let apart : same_object (object_of x) (row_object row) ≡ false = ap (λ (a : ObjectKey). same_object a (row_object row)) e ∙ other in
    ap (λ (y : Observation). y ∷ map (shown_then log (losses_of_row outstation first x ++ more)) rows)
    (skips_row outstation (row_object row) (shown_by log row) first x more apart)
    ∙ ap (λ (ys : List Observation). shown_then log more row ∷ ys)
    (rows_skip outstation first x more rows log parts.1 e)

-- a row shows its own loss, where what comes after it isn't shown there
row_shows : (outstation : ℕ) (row : Row) (x : Observation) (more : List Observation) → object_of x ≡ row_object row
    → ((shown : Observation) → last_observation (row_object row) shown more ≡ shown)
    → shown_after_loss outstation row x ≡ last_observation (row_object row) x (losses_of_row outstation row x ++ more)
row_shows outstation row x more e none = go (is_lost_with outstation row x)
  where
    go : (b : Bool) → cond b (lost x) x ≡ last_observation (row_object row) x (cond b (lost x ∷ []) [] ++ more)
    go true = sym (ap (λ (t : Bool). last_observation (row_object row) (cond t (without_time (lost x)) x) more)
        (eq-same_object (object_of x) (row_object row) e) ∙ none (lost x))
    go false = sym (none x)

rows_show : (outstation : ℕ) (rows : List Row) (log : List Observation) → is_single rows ≡ true
    → picture_after_loss outstation rows (picture_of rows log)
    ≡ map (shown_then log (losses_of outstation rows (picture_of rows log))) rows
rows_show outstation [] log single = refl
rows_show outstation (row ∷ rows) log single =
    let parts = and_parts (is_fresh (row_object row) rows) (is_single rows) single in
    let x : Observation = shown_by log row in
    let more : List Observation = losses_of outstation rows (picture_of rows log) in
    ap (λ (y : Observation). y ∷ picture_after_loss outstation rows (picture_of rows log))
    (row_shows outstation row x more (shown_object log row)
    (λ (shown : Observation). skips_rows outstation (row_object row) shown rows log parts.0))
    ∙ ap (λ (ys : List Observation). last_observation (row_object row) x (losses_of_row outstation row x ++ more) ∷ ys)
    (rows_show outstation rows log parts.1
    ∙ sym (rows_skip outstation row x more rows log parts.0 (shown_object log row)))

pub loss_in_log : (outstation : ℕ) (rows : List Row) (controls : List Control) (log : List Observation)
    → HasSingleAddresses rows controls
    → picture_after_loss outstation rows (picture_of rows log)
    ≡ picture_of rows (log ++ losses_of outstation rows (picture_of rows log))
loss_in_log outstation rows controls log single =
    rows_show outstation rows log (is_single-true rows controls single)
    ∙ picture_then rows log (losses_of outstation rows (picture_of rows log))
