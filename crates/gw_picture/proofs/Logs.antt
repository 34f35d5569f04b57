-- The picture that is kept is the picture of the log.
use Rattle.std.proofs.Common.{◌≡◌, ℕ, suc, ◌+◌, ◌-◌, ◌≤◌, Bool, true, false, not, cond, List, [], ◌∷◌}
use Rattle.std.proofs.Common.{◌++◌, Option, Some, None, refl, sym, ap, subst, ◌∙◌, append_assoc, arith, inl, inr}
use Rattle.std.specs.Prelude.{slice_get}
use Rattle.std.proofs.lemmas.Bool.{and_parts, cases_Bool, not-true}
use Rattle.std.proofs.lemmas.List.{append-nil}
use Rattle.gw_model.specs.declared.point.PointKey.{PointKey}
use Rattle.gw_model.specs.declared.point.Report.{Report}
use Rattle.gw_model.specs.declared.point.Stamp.TheVariants.{Untimed}
use Rattle.gw_entries.specs.declared.row.Row.{Row}
use Rattle.gw_model.specs.declared.observation.Observation.{Observation}
use Rattle.gw_model.specs.declared.point.ObjectKey.{ObjectKey}
use Rattle.gw_model.specs.Keys.{object_of, same_key, same_object}
use Rattle.gw_model.proofs.Same.{eq-same_object, other_object, same_object-true}
use Rattle.gw_entries.specs.declared.control.Control.{Control}
use Rattle.gw_map.specs.Settings.{row_from, row_object, HasSingleAddresses}
use Rattle.gw_translate.specs.Image.{image_of, is_news_of}
use Rattle.gw_model.specs.Places.{change}
use Rattle.gw_model.specs.Clocks.{Clocks}
use Rattle.gw_picture.specs.Opening.{opening}
use Rattle.gw_picture.specs.Picture.{without_time, news_by_row, news_of_report, picture_by_row}
use Rattle.gw_picture.specs.Picture.{picture_after_report, news_of, picture_after}
use Rattle.gw_picture.specs.Log.{last_observation, picture_of}
use Rattle.gw_picture.proofs.Addresses.{is_fresh, is_single, is_single-true}
use Rattle.gw_picture.proofs.Lists.{some_is, change-same}
use Rattle.gw_picture.proofs.Images.{image_object, no_news}

-- ---- the look-up of a row

abbrev some : {A : Type 0} → A → Option A
some x = Some x

abbrev both : ℕ → Row → ℕ × Row
both n row = (n, row)

abbrev pub pair : ℕ → Row → Option (ℕ × Row)
pair n row = Some (n, row)

pub pair_is : (m n : ℕ) (r s : Row) → pair m r ≡ pair n s → (m ≡ n) × (r ≡ s)
pair_is m n r s e =
    let p : both m r ≡ both n s = some_is (both m r) (both n s) e in
    (ap (λ (q : ℕ × Row). q.0) p, ap (λ (q : ℕ × Row). q.1) p)

pub row_from-le : (k n : ℕ) (key : PointKey) (rows : List Row) (row : Row) → row_from k key rows ≡ Some (n, row) → k ≤ n
row_from-le k n key [] row e = absurd cc
row_from-le k n key (r ∷ rows) row e =
    elim (cases_Bool (same_key r.key key)) [
      | inl here ↦ (let found : pair k r ≡ pair n row = rw here at e in omega (arith, (pair_is k n r row found).0))
      | inr there ↦ (let found : row_from (k + 1) key rows ≡ Some (n, row) = rw there at e in
          omega (arith, row_from-le (k + 1) n key rows row found))
    ]

-- a row that is found has another object than one that is fresh
fresh_object : (k n : ℕ) (key : PointKey) (first : Row) (rows : List Row) (row : Row)
    → is_fresh (row_object first) rows ≡ true → row_from k key rows ≡ Some (n, row)
    → same_object (row_object first) (row_object row) ≡ false
fresh_object k n key first [] row fresh e = absurd cc
fresh_object k n key first (r ∷ rows) row fresh e =
    let parts = and_parts (not (same_object (row_object first) (row_object r))) (is_fresh (row_object first) rows) fresh in
    let other : same_object (row_object first) (row_object r) ≡ false = not-true (same_object (row_object first) (row_object r)) parts.0 in
    elim (cases_Bool (same_key r.key key)) [
      | inl here ↦ (let found : pair k r ≡ pair n row = rw here at e in
          subst (λ (x : Row). same_object (row_object first) (row_object x) ≡ false) (pair_is k n r row found).1 other)
      | inr there ↦ (let found : row_from (k + 1) key rows ≡ Some (n, row) = rw there at e in
          fresh_object (k + 1) n key first rows row parts.1 found)
    ]

-- ---- what was shown last

last_observation-push : (object : ObjectKey) (shown : Observation) (log : List Observation) (x : Observation)
    → last_observation object shown (log ++ x ∷ [])
    ≡ cond (same_object (object_of x) object) (without_time x) (last_observation object shown log)
last_observation-push object shown [] x = refl
last_observation-push object shown (y ∷ log) x =
    last_observation-push object (cond (same_object (object_of y) object) (without_time y) shown) log x

pick_object : (b : Bool) (y shown : Observation) (object : ObjectKey) → (b ≡ true → object_of y ≡ object)
    → object_of shown ≡ object → object_of (cond b (without_time y) shown) ≡ object
pick_object true y shown object here e = here refl
pick_object false y shown object here e = e

pub last_observation-object : (object : ObjectKey) (shown : Observation) (log : List Observation) → object_of shown ≡ object
    → object_of (last_observation object shown log) ≡ object
last_observation-object object shown [] e = e
last_observation-object object shown (y ∷ log) e =
    last_observation-object object (cond (same_object (object_of y) object) (without_time y) shown) log
    (pick_object (same_object (object_of y) object) y shown object (same_object-true (object_of y) object) e)

pick_stamp : (b : Bool) (y shown : Observation) → shown.stamp ≡ Untimed
    → (cond b (without_time y) shown).stamp ≡ Untimed
pick_stamp true y shown e = refl
pick_stamp false y shown e = e

last_observation-stamp : (object : ObjectKey) (shown : Observation) (log : List Observation) → shown.stamp ≡ Untimed
    → (last_observation object shown log).stamp ≡ Untimed
last_observation-stamp object shown [] e = e
last_observation-stamp object shown (y ∷ log) e = last_observation-stamp object
    (cond (same_object (object_of y) object) (without_time y) shown) log (pick_stamp (same_object (object_of y) object) y shown e)

-- ---- one more observation in the log

-- what a row shows by a log
abbrev pub shown_by : List Observation → Row → Observation
shown_by log row = last_observation (row_object row) (opening row) log

same_elsewhere : (log : List Observation) (x : Observation) (row : Row) → same_object (object_of x) (row_object row) ≡ false
    → shown_by (log ++ x ∷ []) row ≡ shown_by log row
same_elsewhere log x row e = last_observation-push (row_object row) (opening row) log x ∙ rw e refl

shown_here : (log : List Observation) (x : Observation) (row : Row) → object_of x ≡ row_object row
    → shown_by (log ++ x ∷ []) row ≡ without_time x
shown_here log x row e =
    last_observation-push (row_object row) (opening row) log x ∙ rw (eq-same_object (object_of x) (row_object row) e) refl

-- rows that a fresh row stands before keep what they show when an observation at its object comes
fresh_same : (log : List Observation) (x : Observation) (first : Row) (rows : List Row)
    → is_fresh (row_object first) rows ≡ true → object_of x ≡ row_object first
    → picture_of rows (log ++ x ∷ []) ≡ picture_of rows log
fresh_same log x first [] fresh e = refl
fresh_same log x first (r ∷ rows) fresh e =
    let parts = and_parts (not (same_object (row_object first) (row_object r))) (is_fresh (row_object first) rows) fresh in
    let other : same_object (row_object first) (row_object r) ≡ false = not-true (same_object (row_object first) (row_object r)) parts.0 in
    let there : same_object (object_of x) (row_object r) ≡ false = ap (λ (a : ObjectKey). same_object a (row_object r)) e ∙ other in
    ap (λ (y : Observation). y ∷ picture_of rows (log ++ x ∷ [])) (same_elsewhere log x r there)
    ∙ ap (λ (ys : List Observation). shown_by log r ∷ ys) (fresh_same log x first rows parts.1 e)

-- the picture with the observation at its row is the picture of the log with it
picture_of-push : (k n : ℕ) (key : PointKey) (rows : List Row) (row : Row) (log : List Observation) (x : Observation)
    → is_single rows ≡ true → row_from k key rows ≡ Some (n, row)
    → object_of x ≡ row_object row
    → change (n - k) (λ _. without_time x) (picture_of rows log) ≡ picture_of rows (log ++ x ∷ [])
picture_of-push k n key [] row log x map_is found e = absurd cc
picture_of-push k n key (r ∷ rows) row log x map_is found e =
    let parts = and_parts (is_fresh (row_object r) rows) (is_single rows) map_is in
    elim (cases_Bool (same_key r.key key)) [
      | inl here ↦
          (let at : pair k r ≡ pair n row = rw here at found in
          let none : n - k ≡ 0 = omega (arith, (pair_is k n r row at).0) in
          let e' : object_of x ≡ row_object r = e ∙ ap (λ (y : Row). row_object y) (sym (pair_is k n r row at).1) in
          rw none (ap (λ (ys : List Observation). without_time x ∷ ys) (sym (fresh_same log x r rows parts.0 e'))
          ∙ ap (λ (y : Observation). y ∷ picture_of rows (log ++ x ∷ [])) (sym (shown_here log x r e'))))
      | inr there ↦
          (let at : row_from (k + 1) key rows ≡ Some (n, row) = rw there at found in
          let more : n - k ≡ suc (n - (k + 1)) = omega (arith, row_from-le (k + 1) n key rows row at) in
          let apart : same_object (row_object r) (row_object row) ≡ false = fresh_object (k + 1) n key r rows row parts.0 at in
          let elsewhere : same_object (object_of x) (row_object r) ≡ false =
          ap (λ (a : ObjectKey). same_object a (row_object r)) e ∙ other_object (row_object r) (row_object row) apart in
          rw more (ap (λ (ys : List Observation). shown_by log r ∷ ys)
          (picture_of-push (k + 1) n key rows row log x parts.1 at e)
          ∙ ap (λ (y : Observation). y ∷ picture_of rows (log ++ x ∷ [])) (sym (same_elsewhere log x r elsewhere))))
    ]

-- what the picture has at a row that is found
picture_of-get : (k n : ℕ) (key : PointKey) (rows : List Row) (row : Row) (log : List Observation)
    → row_from k key rows ≡ Some (n, row)
    → slice_get (picture_of rows log) (n - k) ≡ Some (shown_by log row)
picture_of-get k n key [] row log found = absurd cc
picture_of-get k n key (r ∷ rows) row log found =
    elim (cases_Bool (same_key r.key key)) [
      | inl here ↦
          (let at : pair k r ≡ pair n row = rw here at found in
          let none : n - k ≡ 0 = omega (arith, (pair_is k n r row at).0) in
          rw none (ap (λ (y : Row). some (shown_by log y)) (pair_is k n r row at).1))
      | inr there ↦
          (let at : row_from (k + 1) key rows ≡ Some (n, row) = rw there at found in
          let more : n - k ≡ suc (n - (k + 1)) = omega (arith, row_from-le (k + 1) n key rows row at) in
          rw more (picture_of-get (k + 1) n key rows row log at))
    ]

-- ---- reports

one_report : (clocks : Clocks) (rows : List Row) (log : List Observation) (r : Report) (found : Option (ℕ × Row))
    → is_single rows ≡ true → row_from 0 r.key rows ≡ found
    → picture_by_row clocks (picture_of rows log) r found
    ≡ picture_of rows (log ++ news_by_row clocks (picture_of rows log) r found)
one_report clocks rows log r None map_is e = ap (picture_of rows) (sym (append-nil log))
one_report clocks rows log r (Some p) map_is e =
    let row = p.1 in
    let image : Observation = image_of clocks row r in
    let zero_off : p.0 - 0 ≡ p.0 = omega arith in
    let get : slice_get (picture_of rows log) p.0 ≡ Some (shown_by log row) =
    rw zero_off at (picture_of-get 0 p.0 r.key rows row log e) in
    elim (cases_Bool (is_news_of r (shown_by log row) image)) [
      | inl news ↦
          (let push : change p.0 (λ _. without_time image) (picture_of rows log) ≡ picture_of rows (log ++ image ∷ []) =
          rw zero_off at (picture_of-push 0 p.0 r.key rows row log image map_is e (image_object clocks row r)) in
          let observation : news_by_row clocks (picture_of rows log) r (Some p) ≡ image ∷ [] = rw (get, news) refl in
          push ∙ ap (λ (xs : List Observation). picture_of rows (log ++ xs)) (sym observation))
      | inr none ↦
          (let before : shown_by log row ≡ without_time image =
          no_news r (shown_by log row) image none (last_observation-object (row_object row) (opening row) log refl
          ∙ sym (image_object clocks row r)) (last_observation-stamp (row_object row) (opening row) log refl) in
          let observation : news_by_row clocks (picture_of rows log) r (Some p) ≡ [] = rw (get, none) refl in
          change-same p.0 (without_time image) (picture_of rows log) (get ∙ ap (λ (x : Observation). some x) before)
          ∙ (ap (picture_of rows) (sym (append-nil log))
          ∙ ap (λ (xs : List Observation). picture_of rows (log ++ xs)) (sym observation)))
    ]

pub report_in_log : (clocks : Clocks) (rows : List Row) (controls : List Control) (log : List Observation) (r : Report)
    → HasSingleAddresses rows controls
    → picture_after_report clocks rows (picture_of rows log) r
    ≡ picture_of rows (log ++ news_of_report clocks rows (picture_of rows log) r)
report_in_log clocks rows controls log r single =
    one_report clocks rows log r (row_from 0 r.key rows) (is_single-true rows controls single) refl

-- of reports taken in turn
pub reports_in_log : (clocks : Clocks) (rows : List Row) (controls : List Control) (log : List Observation)
    (rs : List Report) → HasSingleAddresses rows controls
    → picture_after clocks rows (picture_of rows log) rs
    ≡ picture_of rows (log ++ news_of clocks rows (picture_of rows log) rs)
reports_in_log clocks rows controls log [] single = ap (picture_of rows) (sym (append-nil log))
reports_in_log clocks rows controls log (r ∷ rs) single =
    let xs : List Observation = news_of_report clocks rows (picture_of rows log) r in
    let one : picture_after_report clocks rows (picture_of rows log) r ≡ picture_of rows (log ++ xs) =
    report_in_log clocks rows controls log r single in
    let others : picture_after clocks rows (picture_of rows (log ++ xs)) rs
    ≡ picture_of rows ((log ++ xs) ++ news_of clocks rows (picture_of rows (log ++ xs)) rs) =
    reports_in_log clocks rows controls (log ++ xs) rs single in
    ap (λ (p : List Observation). picture_after clocks rows p rs) one
    ∙ (others
    ∙ (ap (picture_of rows) (append_assoc log xs (news_of clocks rows (picture_of rows (log ++ xs)) rs))
    ∙ ap (λ (p : List Observation). picture_of rows (log ++ (xs ++ news_of clocks rows p rs))) (sym one)))
