-- Last values: what is known after lists of observations, and what a picture shows; and what waits in a line.
use Rattle.std.proofs.Common.{◌≡◌, ℕ, zero, suc, Bool, true, false, ◌&&◌, ◌||◌, ◌==◌, cond, List, []}
use Rattle.std.proofs.Common.{◌∷◌, ◌++◌, Option, Some, None, refl, sym, ap, subst, ◌∙◌, inl, inr}
use Rattle.std.specs.Prelude.{slice_get, option_map, not, filter}
use Rattle.std.specs.List.{AllByRecursion, flat_map, list_any}
use Rattle.std.proofs.lemmas.Bool.{and_from, and_parts, cases_Bool, eq-eqb, eqb-true, true≢false, not-true}
use Rattle.gw_model.specs.declared.observation.Observation.{Observation}
use Rattle.gw_model.specs.declared.point.ObjectKey.{ObjectKey}
use Rattle.gw_model.specs.Keys.{object_of, same_object}
use Rattle.gw_model.specs.Values.{is_total}
use Rattle.gw_model.proofs.Same.{same_object-true, eq-same_object, other_object}
use Rattle.gw_entries.specs.declared.row.Row.{Row}
use Rattle.gw_map.specs.Settings.{Setup, row_object}
use Rattle.gw_picture.specs.Opening.{opening}
use Rattle.gw_picture.specs.Picture.{without_time}
use Rattle.gw_picture.specs.Log.{last_observation, picture_of}
use Rattle.gw_picture.proofs.Addresses.{is_fresh, is_single}
use Rattle.gw_picture.proofs.Lists.{some_is, map-get}
use Rattle.gw_picture.proofs.Logs.{shown_by, last_observation-object}
use Rattle.iec_command.specs.declared.command.Action.{Action}
use Rattle.gw_answers.specs.Interrogations.{is_asked_by, rows_under}
use Rattle.gw_station.proofs.All.{all-append}
use Rattle.law_clients.specs.Mirror.{Known, known_of, last_known, last_value, KnowsPicture}

-- ---- what is known after more

last_known-append : (object : ObjectKey) (known : Option Known) (xs ys : List Observation)
    → last_known object known (xs ++ ys) ≡ last_known object (last_known object known xs) ys
last_known-append object known [] ys = refl
last_known-append object known (x ∷ xs) ys =
    last_known-append object (cond (same_object (object_of x) object) (Some (known_of x)) known) xs ys

last_observation-append : (object : ObjectKey) (shown : Observation) (xs ys : List Observation)
    → last_observation object shown (xs ++ ys) ≡ last_observation object (last_observation object shown xs) ys
last_observation-append object shown [] ys = refl
last_observation-append object shown (x ∷ xs) ys =
    last_observation-append object (cond (same_object (object_of x) object) (without_time x) shown) xs ys

-- what is shown is known, unless it is a total
abbrev pub IsKnown : Observation → Option Known → Type 0
IsKnown shown known = is_total shown.value ≡ false → known ≡ Some (known_of shown)

-- news change alike what is shown and what is known
known_more : (object : ObjectKey) (shown : Observation) (known : Option Known) (xs : List Observation)
    → IsKnown shown known
    → IsKnown (last_observation object shown xs) (last_known object known xs)
known_more object shown known [] is = is
known_more object shown known (x ∷ xs) is =
    known_more object (cond (same_object (object_of x) object) (without_time x) shown)
    (cond (same_object (object_of x) object) (Some (known_of x)) known) xs
    (one (same_object (object_of x) object))
  where
    one : (here : Bool) → IsKnown (cond here (without_time x) shown) (cond here (Some (known_of x)) known)
    one true = λ _. refl
    one false = is

-- ---- what is known, with more in between

-- at an object it is what is known of it
abbrev AgreesWith : ObjectKey → Known → Observation → Type 0
AgreesWith object known x = object_of x ≡ object → known_of x ≡ known

-- what is known in the end is so too where it was known before
known_before : (object : ObjectKey) (known : Known) (before : Option Known) (xs : List Observation)
    → last_known object before xs ≡ Some known
    → last_known object (Some known) xs ≡ Some known
known_before object known before [] e = refl
known_before object known before (x ∷ xs) e =
    by (same_object (object_of x) object) (known_before object known before xs) e
  where
    by : (here : Bool) → (last_known object before xs ≡ Some known → last_known object (Some known) xs ≡ Some known)
        → last_known object (cond here (Some (known_of x)) before) xs ≡ Some known
        → last_known object (cond here (Some (known_of x)) (Some known)) xs ≡ Some known
    by true behind e = e
    by false behind e = behind e

-- what agrees with it may come before
known_inserted : (object : ObjectKey) (known : Known) (before : Option Known) (rs xs : List Observation)
    → AllByRecursion (AgreesWith object known) rs
    → last_known object before xs ≡ Some known → last_known object before (rs ++ xs) ≡ Some known
known_inserted object known before [] xs all e = e
known_inserted object known before (r ∷ rs) xs all e =
    known_inserted object known (cond (same_object (object_of r) object) (Some (known_of r)) before) rs xs all.1
    (by (same_object (object_of r) object) refl)
  where
    by : (here : Bool) → same_object (object_of r) object ≡ here
        → last_known object (cond here (Some (known_of r)) before) xs ≡ Some known
    by true is =
        ap (λ (k : Known). last_known object (Some k) xs) (all.0 (same_object-true (object_of r) object is))
        ∙ known_before object known before xs e
    by false is = e

-- what is known stays so by what agrees with it
known_still : (object : ObjectKey) (known : Known) (xs : List Observation) → AllByRecursion (AgreesWith object known) xs
    → last_known object (Some known) xs ≡ Some known
known_still object known [] all = refl
known_still object known (x ∷ xs) all =
    by (same_object (object_of x) object) refl (known_still object known xs all.1)
  where
    by : (here : Bool) → same_object (object_of x) object ≡ here → last_known object (Some known) xs ≡ Some known
        → last_known object (cond here (Some (known_of x)) (Some known)) xs ≡ Some known
    by true is behind =
        ap (λ (k : Known). last_known object (Some k) xs) (all.0 (same_object-true (object_of x) object is)) ∙ behind
    by false is behind = behind

-- ---- what a picture shows

fresh_get : (object : ObjectKey) (rows : List Row) (n : ℕ) (row : Row) → is_fresh object rows ≡ true
    → slice_get rows n ≡ Some row
    → row_object row ≡ object → ⊥
fresh_get object [] n row fresh get same = absurd cc
fresh_get object (r ∷ rows) zero row fresh get same =
    let apart = not-true (same_object object (row_object r)) (and_parts (not (same_object object (row_object r)))
    (is_fresh object rows) fresh).0 in
    true≢false (sym (eq-same_object object (row_object r) (sym same ∙ ap row_object (sym (some_is r row get)))) ∙ apart)
fresh_get object (r ∷ rows) (suc n) row fresh get same =
    fresh_get object rows n row (and_parts (not (same_object object (row_object r))) (is_fresh object rows) fresh).1 get
    same

-- no two rows have one object
same_row : (rows : List Row) (m n : ℕ) (r row : Row) → is_single rows ≡ true → slice_get rows m ≡ Some r
    → slice_get rows n ≡ Some row
    → row_object r ≡ row_object row → r ≡ row
same_row [] m n r row single gm gn same = absurd cc
same_row (x ∷ rows) zero zero r row single gm gn same = sym (some_is x r gm) ∙ some_is x row gn
same_row (x ∷ rows) zero (suc n) r row single gm gn same =
    let fresh = (and_parts (is_fresh (row_object x) rows) (is_single rows) single).0 in
    absurd (fresh_get (row_object x) rows n row fresh gn (sym same ∙ ap row_object (sym (some_is x r gm))))
same_row (x ∷ rows) (suc m) zero r row single gm gn same =
    let fresh = (and_parts (is_fresh (row_object x) rows) (is_single rows) single).0 in
    absurd (fresh_get (row_object x) rows m r fresh gm (same ∙ ap row_object (sym (some_is x row gn))))
same_row (x ∷ rows) (suc m) (suc n) r row single gm gn same =
    same_row rows m n r row (and_parts (is_fresh (row_object x) rows) (is_single rows) single).1 gm gn same

-- it is what the picture of a log shows of the row with its object
abbrev pub IsShown : List Row → List Observation → Observation → Type 0
IsShown rows log x = (n : ℕ) (row : Row) → slice_get rows n ≡ Some row → object_of x ≡ row_object row
    → x ≡ shown_by log row

-- so is all that the picture shows
pub shown_is : (rows : List Row) (log : List Observation) (m : ℕ) (x : Observation) → is_single rows ≡ true
    → slice_get (picture_of rows log) m ≡ Some x → IsShown rows log x
shown_is rows log m x single get n row at same = by (slice_get rows m) refl (sym (map-get (shown_by log) rows m) ∙ get)
  where
    by : (found : Option Row) → slice_get rows m ≡ found → option_map (shown_by log) found ≡ Some x
        → x ≡ shown_by log row
    by None gm e = absurd cc
    by (Some r) gm e =
        let is : shown_by log r ≡ x = some_is (shown_by log r) x e in
        let object : row_object r ≡ row_object row =
        sym (last_observation-object (row_object r) (opening r) log refl)
        ∙ (ap (λ (y : Observation). object_of y) is ∙ same) in
        sym is ∙ ap (shown_by log) (same_row rows m n r row single gm at object)

all_filtered : (P : Observation → Type 0) (p : Observation → Bool) (xs : List Observation)
    → ((m : ℕ) (x : Observation) → slice_get xs m ≡ Some x → P x) → AllByRecursion P (filter p xs)
all_filtered P p [] each = tt
all_filtered P p (x ∷ xs) each =
    let rest = all_filtered P p xs (λ m y get. each (suc m) y get) in
    elim (cases_Bool (p x)) [
      | inl is ↦ rw is (each 0 x refl, rest)
      | inr isnt ↦ rw isnt rest
    ]

pub filtered_shown : (rows : List Row) (log : List Observation) (p : Observation → Bool) → is_single rows ≡ true
    → AllByRecursion (IsShown rows log) (filter p (picture_of rows log))
filtered_shown rows log p single = all_filtered (IsShown rows log) p
    (picture_of rows log) (λ m x get. shown_is rows log m x single get)

-- an object without a row isn't in the picture
elsewhere : (object : ObjectKey) (rows : List Row) (log : List Observation) (p : Observation → Bool)
    (known : Option Known)
    → is_fresh object rows ≡ true → last_known object known (filter p (picture_of rows log)) ≡ known
elsewhere object [] log p known fresh = refl
elsewhere object (r ∷ rows) log p known fresh =
    let parts = and_parts (not (same_object object (row_object r))) (is_fresh object rows) fresh in
    let rest = elsewhere object rows log p known parts.1 in
    let x : Observation = shown_by log r in
    let is : object_of x ≡ row_object r = last_observation-object (row_object r) (opening r) log refl in
    let apart : same_object (object_of x) object ≡ false =
    ap (λ (a : ObjectKey). same_object a object) is
    ∙ other_object object (row_object r) (not-true (same_object object (row_object r)) parts.0) in
    elim (cases_Bool (p x)) [
      | inl there ↦
          rw there (ap (λ (here : Bool). last_known object (cond here (Some (known_of x)) known)
          (filter p (picture_of rows log))) apart ∙ rest)
      | inr out ↦ rw out rest
    ]

-- a row that passes a test is known by all those that do
pub shown_last : (rows : List Row) (log : List Observation) (p : Observation → Bool) (n : ℕ) (row : Row)
    (known : Option Known)
    → is_single rows ≡ true → slice_get rows n ≡ Some row → p (shown_by log row) ≡ true
    → last_known (row_object row) known (filter p (picture_of rows log)) ≡ Some (known_of (shown_by log row))
shown_last [] log p n row known single get passes = absurd cc
shown_last (r ∷ rows) log p zero row known single get passes =
    subst (λ (x : Row). p (shown_by log x) ≡ true
    → last_known (row_object x) known (filter p (picture_of (r ∷ rows) log)) ≡ Some (known_of (shown_by log x)))
    (some_is r row get) here passes
  where
    here : p (shown_by log r) ≡ true
        → last_known (row_object r) known (filter p (picture_of (r ∷ rows) log)) ≡ Some (known_of (shown_by log r))
    here is =
        let x : Observation = shown_by log r in
        let at : same_object (object_of x) (row_object r) ≡ true = eq-same_object (object_of x) (row_object r)
        (last_observation-object (row_object r) (opening r) log refl) in
        rw is (ap (λ (same : Bool). last_known (row_object r) (cond same (Some (known_of x)) known)
        (filter p (picture_of rows log))) at
        ∙ elsewhere (row_object r) rows log p (Some (known_of x))
        (and_parts (is_fresh (row_object r) rows) (is_single rows) single).0)
shown_last (r ∷ rows) log p (suc n) row known single get passes =
    let more = (and_parts (is_fresh (row_object r) rows) (is_single rows) single).1 in
    let x : Observation = shown_by log r in
    elim (cases_Bool (p x)) [
      | inl is ↦ rw is (shown_last rows log p n row
          (cond (same_object (object_of x) (row_object row)) (Some (known_of x)) known) more get passes)
      | inr isnt ↦ rw isnt (shown_last rows log p n row known more get passes)
    ]

-- ---- what is asked under addresses

-- what the picture shows agrees with what it shows of a row
agree : (rows : List Row) (log : List Observation) (n : ℕ) (row : Row) (xs : List Observation)
    → slice_get rows n ≡ Some row → AllByRecursion (IsShown rows log) xs
    → AllByRecursion (AgreesWith (row_object row) (known_of (shown_by log row))) xs
agree rows log n row [] get all = tt
agree rows log n row (x ∷ xs) get all =
    (λ same. ap known_of (all.0 n row get same), agree rows log n row xs get all.1)

-- the picture shows all that is asked
pub asked_shown : (asked : List ℕ) (action : Action) (rows : List Row) (log : List Observation)
    → is_single rows ≡ true
    → AllByRecursion (IsShown rows log) (flat_map (rows_under action (picture_of rows log)) asked)
asked_shown [] action rows log single = tt
asked_shown (common ∷ asked) action rows log single =
    all-append (IsShown rows log) (rows_under action (picture_of rows log) common)
    (flat_map (rows_under action (picture_of rows log)) asked)
    (filtered_shown rows log (λ x. x.common == common && is_asked_by action x) single)
    (asked_shown asked action rows log single)

-- a row under one of the addresses is known by all that is asked under them
pub asked_last : (asked : List ℕ) (action : Action) (rows : List Row) (log : List Observation) (n : ℕ) (row : Row)
    (known : Option Known)
    → is_single rows ≡ true → slice_get rows n ≡ Some row
    → list_any (λ common. common == row.common_address) asked ≡ true → is_asked_by action (shown_by log row) ≡ true
    → last_known (row_object row) known (flat_map (rows_under action (picture_of rows log)) asked)
    ≡ Some (known_of (shown_by log row))
asked_last [] action rows log n row known single get among is = absurd (true≢false (sym among))
asked_last (common ∷ asked) action rows log n row known single get among is =
    last_known-append object known mine others
    ∙ by (common == row.common_address) refl among
    (λ more. asked_last asked action rows log n row (last_known object known mine) single get more is)
  where
    object : ObjectKey
    object = row_object row

    x : Observation
    x = shown_by log row

    mine : List Observation
    mine = rows_under action (picture_of rows log) common

    others : List Observation
    others = flat_map (rows_under action (picture_of rows log)) asked

    under_it : common ≡ row.common_address → x.common == common ≡ true
    under_it same = eq-eqb x.common common
        (ap (λ (o : ObjectKey). o.common_address) (last_observation-object object (opening row) log refl) ∙ sym same)

    last : common ≡ row.common_address → last_known object known mine ≡ Some (known_of x)
    last same = shown_last rows log (λ y. y.common == common && is_asked_by action y) n row known single get
        (and_from (x.common == common) (is_asked_by action x) (under_it same) is)

    still : last_known object (Some (known_of x)) others ≡ Some (known_of x)
    still = known_still object (known_of x) others
        (agree rows log n row others get (asked_shown asked action rows log single))

    by : (here : Bool) → common == row.common_address ≡ here
        → here || list_any (λ c. c == row.common_address) asked ≡ true
        → (list_any (λ c. c == row.common_address) asked ≡ true
        → last_known object (last_known object known mine) others ≡ Some (known_of x))
        → last_known object (last_known object known mine) others ≡ Some (known_of x)
    by true same among behind =
        ap (λ (k : Option Known). last_known object k others) (last (eqb-true common row.common_address same)) ∙ still
    by false other among behind = behind among

-- ---- what is known of all rows

-- what the picture of a log shows under these addresses is known by a list, but for totals
abbrev pub Knows : List Row → List ℕ → List Observation → List Observation → Type 0
Knows rows asked log known = (n : ℕ) (row : Row) → slice_get rows n ≡ Some row
    → list_any (λ common. common == row.common_address) asked ≡ true
    → IsKnown (shown_by log row) (last_value (row_object row) known)

pub knows_news : (rows : List Row) (asked : List ℕ) (log known xs : List Observation) → Knows rows asked log known
    → Knows rows asked (log ++ xs) (known ++ xs)
knows_news rows asked log known xs knows n row get among =
    let before = last_observation-append (row_object row) (opening row) log xs in
    rw (before, last_known-append (row_object row) None known xs)
    (known_more (row_object row) (shown_by log row) (last_value (row_object row) known) xs (knows n row get among))

-- what the picture shows may come in between
pub knows_inserted : (rows : List Row) (asked : List ℕ) (log front rs back : List Observation)
    → AllByRecursion (IsShown rows log) rs → Knows rows asked log (front ++ back)
    → Knows rows asked log (front ++ (rs ++ back))
knows_inserted rows asked log front rs back all knows n row get among whole =
    let object : ObjectKey = row_object row in
    let before : Option Known = last_value object front in
    last_known-append object None front (rs ++ back)
    ∙ known_inserted object (known_of (shown_by log row)) before rs back (agree rows log n row rs get all)
    (sym (last_known-append object None front back) ∙ knows n row get among whole)

pub knows_picture : (setup : Setup) (asked : List ℕ) (log known : List Observation)
    → Knows setup.rows asked log known → KnowsPicture setup asked (picture_of setup.rows log) known
knows_picture setup asked log known knows n row x at get among whole =
    let shown : Some (shown_by log row) ≡ Some x =
    sym (ap (option_map (shown_by log)) at) ∙ (sym (map-get (shown_by log) setup.rows n) ∙ get) in
    let is : shown_by log row ≡ x = some_is (shown_by log row) x shown in
    knows n row at among (ap (λ (y : Observation). is_total y.value) is ∙ whole)
    ∙ ap (λ (y : Observation). Some (known_of y)) is
