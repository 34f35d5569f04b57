-- A picture of rows stays one, and a report changes the place of its row alone.
use Rattle.std.proofs.Common.{◌≡◌, ℕ, zero, suc, ◌+◌, ◌-◌, List, [], ◌∷◌, map, Option}
use Rattle.std.proofs.Common.{Some, None, refl, sym, ap, subst, ◌∙◌, inl, inr, arith}
use Rattle.std.specs.Prelude.{slice_get, option_map}
use Rattle.std.specs.List.{AllByRecursion}
use Rattle.std.proofs.lemmas.Bool.{cases_Bool}
use Rattle.gw_model.specs.declared.point.PointKey.{PointKey}
use Rattle.gw_model.specs.declared.point.Report.{Report}
use Rattle.gw_model.specs.declared.point.Stamp.TheVariants.{Untimed}
use Rattle.gw_entries.specs.declared.row.Row.{Row}
use Rattle.gw_model.specs.declared.observation.Observation.{Observation}
use Rattle.gw_model.specs.declared.point.ObjectKey.{ObjectKey}
use Rattle.gw_model.specs.Keys.{object_of, same_key}
use Rattle.gw_map.specs.Settings.{row_from, row_object}
use Rattle.gw_translate.specs.Image.{image_of, is_news_of}
use Rattle.gw_model.specs.Places.{change}
use Rattle.gw_model.specs.Clocks.{Clocks}
use Rattle.gw_picture.specs.Opening.{opening}
use Rattle.gw_picture.specs.Picture.{without_time, news_by_row, news_of_report, picture_by_row, picture_after_report, picture_after}
use Rattle.gw_picture.specs.Rows.{IsPictureOf, ShowsImage}
use Rattle.gw_picture.proofs.Lists.{some_is, change-here, change-there, change-same, change-maps, map-get}
use Rattle.gw_picture.proofs.Images.{image_object, no_news}
use Rattle.gw_picture.proofs.Logs.{row_from-le, pair, pair_is}

abbrev pub IsUntimed : Observation → Type 0
IsUntimed x = x.stamp ≡ Untimed

-- ---- at first

opening_objects : (rows : List Row) → map object_of (map opening rows) ≡ map row_object rows
opening_objects [] = refl
opening_objects (row ∷ rows) = ap (λ (ns : List ObjectKey). row_object row ∷ ns) (opening_objects rows)

opening_untimed : (rows : List Row) → AllByRecursion IsUntimed (map opening rows)
opening_untimed [] = tt
opening_untimed (row ∷ rows) = (refl, opening_untimed rows)

pub opening_is_picture : (rows : List Row) → IsPictureOf rows (map opening rows)
opening_is_picture rows = record { objects = opening_objects rows; untimed = opening_untimed rows }

-- ---- what is at a row's place

row_from-get : (k n : ℕ) (key : PointKey) (rows : List Row) (row : Row) → row_from k key rows ≡ Some (n, row)
    → slice_get rows (n - k) ≡ Some row
row_from-get k n key [] row found = absurd cc
row_from-get k n key (r ∷ rows) row found =
    elim (cases_Bool (same_key r.key key)) [
      | inl here ↦
          (let at : pair k r ≡ pair n row = rw here at found in
          let none : n - k ≡ 0 = omega (arith, (pair_is k n r row at).0) in
          rw none (ap (λ (y : Row). Some y) (pair_is k n r row at).1))
      | inr there ↦
          (let at : row_from (k + 1) key rows ≡ Some (n, row) = rw there at found in
          let more : n - k ≡ suc (n - (k + 1)) = omega (arith, row_from-le (k + 1) n key rows row at) in
          rw more (row_from-get (k + 1) n key rows row at))
    ]

pub row_at : (key : PointKey) (rows : List Row) (n : ℕ) (row : Row) → row_from 0 key rows ≡ Some (n, row)
    → slice_get rows n ≡ Some row
row_at key rows n row found =
    let zero_off : n - 0 ≡ n = omega arith in
    rw zero_off at (row_from-get 0 n key rows row found)

pub all_get : (P : Observation → Type 0) (xs : List Observation) (n : ℕ) (y : Observation) → AllByRecursion P xs
    → slice_get xs n ≡ Some y → P y
all_get P [] n y all e = absurd cc
all_get P (x ∷ xs) zero y all e = subst P (some_is x y e) all.0
all_get P (x ∷ xs) (suc n) y all e = all_get P xs n y all.1 e

pub all_change : (P : Observation → Type 0) (n : ℕ) (x : Observation) (xs : List Observation) → P x
    → AllByRecursion P xs → AllByRecursion P (change n (λ _. x) xs)
all_change P n x [] p all = tt
all_change P zero x (y ∷ xs) p all = (p, all.1)
all_change P (suc n) x (y ∷ xs) p all = (all.0, all_change P n x xs p all.1)

-- the object of what the picture shows at a row's place, if it shows something
place_object : (rows : List Row) (picture : List Observation) (n : ℕ) (row : Row) → IsPictureOf rows picture
    → slice_get rows n ≡ Some row
    → option_map object_of (slice_get picture n) ≡ Some (row_object row)
place_object rows picture n row is e =
    sym (map-get object_of picture n)
    ∙ (ap (λ (ns : List ObjectKey). slice_get ns n) is.objects ∙ (map-get row_object rows n ∙ ap (option_map row_object) e))

pub record Shown (picture : List Observation) (n : ℕ) (row : Row) : Type 0 where
  pub last : Observation
  pub at : slice_get picture n ≡ Some last
  pub object : object_of last ≡ row_object row
  pub stamp : last.stamp ≡ Untimed

shown_of : (rows : List Row) (picture : List Observation) (n : ℕ) (row : Row) (last : Option Observation)
    → IsPictureOf rows picture → slice_get picture n ≡ last
    → option_map object_of last ≡ Some (row_object row) → Shown picture n row
shown_of rows picture n row None is at e = absurd cc
shown_of rows picture n row (Some x) is at e = record {
  last = x;
  at = at;
  object = some_is (object_of x) (row_object row) e;
  stamp = all_get IsUntimed picture n x is.untimed at;
}

shown : (rows : List Row) (picture : List Observation) (r : Report) (n : ℕ) (row : Row) → IsPictureOf rows picture
    → row_from 0 r.key rows ≡ Some (n, row) → Shown picture n row
shown rows picture r n row is found = shown_of rows picture n row (slice_get picture n) is refl
    (place_object rows picture n row is (row_at r.key rows n row found))

-- ---- a report

keeps_at : (clocks : Clocks) (rows : List Row) (picture : List Observation) (r : Report) (found : Option (ℕ × Row))
    → IsPictureOf rows picture → row_from 0 r.key rows ≡ found
    → IsPictureOf rows (picture_by_row clocks picture r found)
keeps_at clocks rows picture r None is e = is
keeps_at clocks rows picture r (Some p) is e =
    let x : Observation = without_time (image_of clocks p.1 r) in
    let here : Shown picture p.0 p.1 = shown rows picture r p.0 p.1 is e in
    record {
      objects =
          change-maps object_of p.0 x picture (λ (y : Observation) at. image_object clocks p.1 r ∙ (sym here.object
          ∙ ap object_of (some_is here.last y (sym here.at ∙ at))))
          ∙ is.objects;
      untimed = all_change IsUntimed p.0 x picture refl is.untimed;
    }

pub keeps_picture : (clocks : Clocks) (rows : List Row) (picture : List Observation) (r : Report) → IsPictureOf rows picture
    → IsPictureOf rows (picture_after_report clocks rows picture r)
keeps_picture clocks rows picture r is = keeps_at clocks rows picture r (row_from 0 r.key rows) is refl

pub reports_keep_picture : (clocks : Clocks) (rows : List Row) (picture : List Observation) (rs : List Report)
    → IsPictureOf rows picture → IsPictureOf rows (picture_after clocks rows picture rs)
reports_keep_picture clocks rows picture [] is = is
reports_keep_picture clocks rows picture (r ∷ rs) is = reports_keep_picture clocks rows
    (picture_after_report clocks rows picture r) rs (keeps_picture clocks rows picture r is)

none_at : (clocks : Clocks) (rows : List Row) (picture : List Observation) (r : Report) (found : Option (ℕ × Row))
    → IsPictureOf rows picture → row_from 0 r.key rows ≡ found
    → news_by_row clocks picture r found ≡ [] → picture_by_row clocks picture r found ≡ picture
none_at clocks rows picture r None is e none = refl
none_at clocks rows picture r (Some p) is e none =
    let image : Observation = image_of clocks p.1 r in
    let here : Shown picture p.0 p.1 = shown rows picture r p.0 p.1 is e in
    elim (cases_Bool (is_news_of r here.last image)) [
      | inl news ↦ (let some : image ∷ [] ≡ [] = rw (here.at, news) at none in absurd cc)
      | inr old ↦
          (let before : here.last ≡ without_time image =
          no_news r here.last image old (here.object ∙ sym (image_object clocks p.1 r)) here.stamp in
          change-same p.0 (without_time image) picture (here.at ∙ ap (λ (x : Observation). Some x) before))
    ]

pub no_news_no_change : (clocks : Clocks) (rows : List Row) (picture : List Observation) (r : Report)
    → IsPictureOf rows picture → news_of_report clocks rows picture r ≡ []
    → picture_after_report clocks rows picture r ≡ picture
no_news_no_change clocks rows picture r is none = none_at clocks rows picture r (row_from 0 r.key rows) is refl none

head_is : (x y : Observation) → x ∷ [] ≡ y ∷ [] → x ≡ y
head_is x y e = cc

news_shown_at : (clocks : Clocks) (rows : List Row) (picture : List Observation) (r : Report) (x : Observation)
    (found : Option (ℕ × Row)) → IsPictureOf rows picture → row_from 0 r.key rows ≡ found
    → news_by_row clocks picture r found ≡ x ∷ []
    → ShowsImage clocks rows r x picture (picture_by_row clocks picture r found)
news_shown_at clocks rows picture r x None is e news = absurd cc
news_shown_at clocks rows picture r x (Some p) is e news =
    let image : Observation = image_of clocks p.1 r in
    let here : Shown picture p.0 p.1 = shown rows picture r p.0 p.1 is e in
    elim (cases_Bool (is_news_of r here.last image)) [
      | inl new ↦
          (let one : image ∷ [] ≡ x ∷ [] = rw (here.at, new) at news in
          let same : x ≡ image = sym (head_is image x one) in
          record {
            place = p.0;
            row = p.1;
            found = e;
            image = same;
            here = change-here p.0 (λ _. without_time image) picture
                ∙ (ap (option_map (λ (y : Observation). without_time image)) here.at
                ∙ ap (λ (y : Observation). Some (without_time y)) (sym same));
            elsewhere = λ n ne. change-there p.0 n (λ _. without_time image) picture (λ at. ne (sym at));
          })
      | inr old ↦ (let none : [] ≡ x ∷ [] = rw (here.at, old) at news in absurd cc)
    ]

pub news_changes_row : (clocks : Clocks) (rows : List Row) (picture : List Observation) (r : Report) (x : Observation)
    → IsPictureOf rows picture → news_of_report clocks rows picture r ≡ x ∷ []
    → ShowsImage clocks rows r x picture (picture_after_report clocks rows picture r)
news_changes_row clocks rows picture r x is news =
    news_shown_at clocks rows picture r x (row_from 0 r.key rows) is refl news
