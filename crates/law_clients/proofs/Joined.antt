-- News join those of which none was dropped since a mark, and what is put out drops none.
use Rattle.std.proofs.Common.{◌≡◌, ℕ, zero, suc, ◌+◌, ◌-◌, ◌≤◌, true, false, cond, List, [], ◌∷◌}
use Rattle.std.proofs.Common.{◌++◌, map, length, take, drop, refl, sym, ap, ◌∙◌, append_assoc, arith, inl, inr}
use Rattle.std.proofs.lemmas.Bool.{cases_Bool}
use Rattle.std.proofs.lemmas.List.{append-nil, length-append, take-append-le, drop-append-le}
use Rattle.gw_model.specs.declared.observation.Observation.{Observation}
use Rattle.law_clients.specs.Fates.{Fate, Queued, PutOut, Dropped, Element, is_queued, is_dropped, dropped_fate}
use Rattle.law_clients.specs.Fates.{lapse_first, lapse, use_up, items_of, fates_with_news, fates_with_put_out}
use Rattle.law_clients.proofs.Settled.{queued, items_of-append, length-lapse}

-- ---- what lapses

-- an element that isn't dropped when it lapses stays as it is, and so does one that isn't queued
spared : (f : Fate) (x : Observation) (xs : List Observation) → cond (is_dropped (dropped_fate f)) (x ∷ xs) xs ≡ []
    → (dropped_fate f ≡ f) × (xs ≡ [])
spared Queued x xs e = absurd cc
spared PutOut x xs e = (refl, e)
spared Dropped x xs e = absurd cc

settled : (f : Fate) (x : Observation) (xs : List Observation) → cond (is_queued f) (x ∷ xs) xs ≡ []
    → (dropped_fate f ≡ f) × (xs ≡ [])
settled Queued x xs e = absurd cc
settled PutOut x xs e = (refl, e)
settled Dropped x xs e = (refl, e)

as_it_is : (e : Element) (es fs : List Element) → dropped_fate e.fate ≡ e.fate → es ≡ fs
    → record e { fate = dropped_fate e.fate } ∷ es ≡ e ∷ fs
as_it_is e es fs same rest = ap (λ (f : Fate). record e { fate = f } ∷ es) same
    ∙ ap (λ (gs : List Element). e ∷ gs) rest

-- where none is dropped, all stay as they are
all_stay : (n : ℕ) (es : List Element) → items_of is_dropped (lapse_first n es) ≡ [] → lapse_first n es ≡ es
all_stay zero es none = refl
all_stay (suc n) [] none = refl
all_stay (suc n) (e ∷ es) none =
    let parts = spared e.fate e.item (items_of is_dropped (lapse_first n es)) none in
    as_it_is e (lapse_first n es) es parts.0 (all_stay n es parts.1)

-- so they do where those before the mark aren't queued
settled_stay : (n since : ℕ) (es : List Element) → items_of is_queued (take since es) ≡ []
    → items_of is_dropped (drop since (lapse_first n es)) ≡ []
    → lapse_first n es ≡ es
settled_stay n zero es front none = all_stay n es none
settled_stay zero (suc since) es front none = refl
settled_stay (suc n) (suc since) [] front none = refl
settled_stay (suc n) (suc since) (e ∷ es) front none =
    let parts = settled e.fate e.item (items_of is_queued (take since es)) front in
    as_it_is e (lapse_first n es) es parts.0 (settled_stay n since es parts.1 none)

lapsed_behind : (n since k : ℕ) (es : List Element) → k ≡ n - since
    → drop since (lapse_first n es) ≡ lapse_first k (drop since es)
lapsed_behind n zero k es e = let same : n ≡ k = omega (arith, e) in ap (λ (i : ℕ). lapse_first i es) same
lapsed_behind zero (suc since) k es e = let none : 0 ≡ k = omega (arith, e) in
    ap (λ (i : ℕ). lapse_first i (drop (suc since) es)) none
lapsed_behind (suc n) (suc since) zero [] e = refl
lapsed_behind (suc n) (suc since) (suc k) [] e = refl
lapsed_behind (suc n) (suc since) k (x ∷ es) e = lapsed_behind n since k es (omega (arith, e))

-- ---- news that come

-- of a list in front of another none is dropped, where none is of both
front_none : (es fs : List Element) → items_of is_dropped (es ++ fs) ≡ [] → items_of is_dropped es ≡ []
front_none es fs none = go (items_of is_dropped es) (sym (items_of-append is_dropped es fs) ∙ none)
  where
    go : (xs : List Observation) → xs ++ items_of is_dropped fs ≡ [] → xs ≡ []
    go [] e = refl
    go (x ∷ xs) e = absurd cc

-- one of the news came
abbrev one_more : ℕ → List Element → Observation → List Element
one_more limit es x = lapse limit es ++ queued x ∷ []

one_more_behind : (limit since : ℕ) (es : List Element) (x : Observation) → since ≤ length es
    → drop since (one_more limit es x) ≡ drop since (lapse limit es) ++ queued x ∷ []
one_more_behind limit since es x within =
    drop-append-le since (lapse limit es) (queued x ∷ [])
    (omega (arith, within, length-lapse (length es + 1 - limit) es))

one_more_within : (limit since : ℕ) (es : List Element) (x : Observation) → since ≤ length es
    → since ≤ length (one_more limit es x)
one_more_within limit since es x within =
    omega (arith, within, length-append (lapse limit es) (queued x ∷ []), length-lapse (length es + 1 - limit) es)

-- behind a mark since which none is dropped then, news join, and all others stay
pub joins_behind : (limit since : ℕ) (es : List Element) (xs : List Observation) → since ≤ length es
    → items_of is_dropped (drop since (fates_with_news limit es xs)) ≡ []
    → drop since (fates_with_news limit es xs) ≡ drop since es ++ map queued xs
joins_behind limit since es [] within none = sym (append-nil (drop since es))
joins_behind limit since es (x ∷ xs) within none =
    let rest = joins_behind limit since (one_more limit es x) xs (one_more_within limit since es x within) none in
    let behind = one_more_behind limit since es x within in
    let lapsed = lapsed_behind (length es + 1 - limit) since (length es + 1 - limit - since) es refl in
    let before : items_of is_dropped (drop since (lapse limit es)) ≡ [] =
    front_none (drop since (lapse limit es)) (queued x ∷ [])
    (ap (items_of is_dropped) (sym behind)
    ∙ front_none (drop since (one_more limit es x)) (map queued xs) (ap (items_of is_dropped) (sym rest) ∙ none)) in
    let stay : drop since (lapse limit es) ≡ drop since es =
    lapsed ∙ all_stay (length es + 1 - limit - since) (drop since es)
    (ap (items_of is_dropped) (sym lapsed) ∙ before) in
    rest
    ∙ (ap (λ (fs : List Element). fs ++ map queued xs) (behind ∙ ap (λ (fs : List Element). fs ++ queued x ∷ []) stay)
    ∙ append_assoc (drop since es) (queued x ∷ []) (map queued xs))

-- none is dropped before, where none is later
pub none_before : (limit since : ℕ) (es : List Element) (xs : List Observation) → since ≤ length es
    → items_of is_dropped (drop since (fates_with_news limit es xs)) ≡ [] → items_of is_dropped (drop since es) ≡ []
none_before limit since es xs within none =
    front_none (drop since es) (map queued xs) (ap (items_of is_dropped)
    (sym (joins_behind limit since es xs within none)) ∙ none)

-- so they join the whole, where those before the mark aren't queued
pub joins : (limit since : ℕ) (es : List Element) (xs : List Observation) → since ≤ length es
    → items_of is_queued (take since es) ≡ []
    → items_of is_dropped (drop since (fates_with_news limit es xs)) ≡ []
    → fates_with_news limit es xs ≡ es ++ map queued xs
joins limit since es [] within front none = sym (append-nil es)
joins limit since es (x ∷ xs) within front none =
    let more : List Element = one_more limit es x in
    let behind : items_of is_dropped (drop since more) ≡ [] =
    none_before limit since more xs (one_more_within limit since es x within) none in
    let before : items_of is_dropped (drop since (lapse limit es)) ≡ [] =
    front_none (drop since (lapse limit es)) (queued x ∷ [])
    (ap (items_of is_dropped) (sym (one_more_behind limit since es x within)) ∙ behind) in
    let stay : more ≡ es ++ queued x ∷ [] =
    ap (λ (fs : List Element). fs ++ queued x ∷ []) (settled_stay (length es + 1 - limit) since es front before) in
    let now : List Element = es ++ queued x ∷ [] in
    let front_now : items_of is_queued (take since now) ≡ [] =
    ap (items_of is_queued) (take-append-le since es (queued x ∷ []) within) ∙ front in
    let fates_now : fates_with_news limit more xs ≡ fates_with_news limit now xs =
    ap (λ (fs : List Element). fates_with_news limit fs xs) stay in
    let rest = joins limit since now xs (omega (arith, within, length-append es (queued x ∷ []))) front_now
    (ap (λ (fs : List Element). items_of is_dropped (drop since fs)) (sym fates_now) ∙ none) in
    fates_now ∙ (rest ∙ append_assoc es (queued x ∷ []) (map queued xs))

-- none before the mark is queued later, where none was
never_queued : (f : Fate) → is_queued (dropped_fate f) ≡ false
never_queued Queued = refl
never_queued PutOut = refl
never_queued Dropped = refl

lapsed_front : (n since : ℕ) (es : List Element) → items_of is_queued (take since es) ≡ []
    → items_of is_queued (take since (lapse_first n es)) ≡ []
lapsed_front zero since es front = front
lapsed_front (suc n) zero es front = refl
lapsed_front (suc n) (suc since) [] front = refl
lapsed_front (suc n) (suc since) (e ∷ es) front =
    let parts = settled e.fate e.item (items_of is_queued (take since es)) front in
    rw (never_queued e.fate) (lapsed_front n since es parts.1)

pub came_front : (limit since : ℕ) (es : List Element) (xs : List Observation) → since ≤ length es
    → items_of is_queued (take since es) ≡ []
    → items_of is_queued (take since (fates_with_news limit es xs)) ≡ []
came_front limit since es [] within front = front
came_front limit since es (x ∷ xs) within front =
    let lapsed : List Element = lapse limit es in
    let still : take since (one_more limit es x) ≡ take since lapsed =
    take-append-le since lapsed (queued x ∷ []) (omega (arith, within, length-lapse (length es + 1 - limit) es)) in
    came_front limit since (one_more limit es x) xs (one_more_within limit since es x within)
    (ap (items_of is_queued) still ∙ lapsed_front (length es + 1 - limit) since es front)

-- ---- what is put out

put_out_item : (f : Fate) → is_queued f ≡ true → is_dropped f ≡ false
put_out_item Queued e = refl
put_out_item PutOut e = absurd cc
put_out_item Dropped e = absurd cc

-- none more is dropped
used_dropped : (since : ℕ) (es : List Element) → items_of is_dropped (drop since (use_up es))
    ≡ items_of is_dropped (drop since es)
used_dropped zero [] = refl
used_dropped (suc since) [] = refl
used_dropped zero (e ∷ es) = elim (cases_Bool (is_queued e.fate)) [
  | inl is ↦ rw (is, put_out_item e.fate is) refl
  | inr isnt ↦ rw isnt (ap (λ (xs : List Observation). cond (is_dropped e.fate) (e.item ∷ xs) xs)
      (used_dropped zero es))
]
used_dropped (suc since) (e ∷ es) = elim (cases_Bool (is_queued e.fate)) [
  | inl is ↦ rw is refl
  | inr isnt ↦ rw isnt (used_dropped since es)
]

-- nor queued before the mark
used_front : (since : ℕ) (es : List Element) → items_of is_queued (take since es) ≡ []
    → items_of is_queued (take since (use_up es)) ≡ []
used_front zero es front = refl
used_front (suc since) [] front = refl
used_front (suc since) (e ∷ es) front = elim (cases_Bool (is_queued e.fate)) [
  | inl is ↦ absurd (some_queued (rw is at front))
  | inr isnt ↦ rw isnt (rw isnt (used_front since es (rw isnt at front)))
]
  where
    some_queued : e.item ∷ items_of is_queued (take since es) ≡ [] → ⊥
    some_queued queued = absurd cc

pub gone_dropped : (since : ℕ) (es : List Element) (ys : List Observation)
    → items_of is_dropped (drop since (fates_with_put_out es ys)) ≡ items_of is_dropped (drop since es)
gone_dropped since es [] = refl
gone_dropped since es (y ∷ ys) = gone_dropped since (use_up es) ys ∙ used_dropped since es

pub gone_front : (since : ℕ) (es : List Element) (ys : List Observation) → items_of is_queued (take since es) ≡ []
    → items_of is_queued (take since (fates_with_put_out es ys)) ≡ []
gone_front since es [] front = front
gone_front since es (y ∷ ys) front = gone_front since (use_up es) ys (used_front since es front)
