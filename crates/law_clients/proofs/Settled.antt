-- Fates: elements that are settled, put out or dropped, and then those queued.
use Rattle.std.proofs.Common.{◌≡◌, ℕ, zero, suc, ◌+◌, ◌-◌, ◌≤◌, ◌<◌, Bool, false, List, [], ◌∷◌}
use Rattle.std.proofs.Common.{◌++◌, map, length, take, drop, refl, sym, ap, ◌∙◌, append_assoc, arith, inl, inr}
use Rattle.std.proofs.lemmas.Bool.{cases_Bool}
use Rattle.std.proofs.lemmas.List.{append-nil, length-append, length-drop, length-take-le, map-append}
use Rattle.circular_buffer.specs.Buffer.{keep_last}
use Rattle.gw_model.specs.declared.observation.Observation.{Observation}
use Rattle.gw_station.proofs.Queues.{drop-front, kept_on, kept_all}
use Rattle.law_clients.specs.Fates.{Fate, Queued, PutOut, Dropped, Element, is_queued, is_put_out, is_dropped, is_kept}
use Rattle.law_clients.specs.Fates.{dropped_fate, lapse_first, lapse, use_up, items_of, fates_with_news, fates_with_put_out}

abbrev pub queued : Observation → Element
queued x = record { item = x; fate = Queued }

abbrev pub put : Observation → Element
put x = record { item = x; fate = PutOut }

abbrev pub drops : Observation → Element
drops x = record { item = x; fate = Dropped }

-- none of them is queued
abbrev pub AreSettled : List Element → Type 0
AreSettled [] = Unit {0}
AreSettled (e ∷ es) = (is_queued e.fate ≡ false) × AreSettled es

-- settled ones, and then a queue
abbrev pub before_queue : List Element → List Observation → List Element
before_queue settled queue = settled ++ map queued queue

-- the oldest of the queue is put out
use_up-settled : (settled : List Element) (x : Observation) (rest : List Element) → AreSettled settled
    → use_up (settled ++ queued x ∷ rest) ≡ settled ++ put x ∷ rest
use_up-settled [] x rest all = refl
use_up-settled (e ∷ es) x rest all = rw all.0 (ap (λ (zs : List Element). e ∷ zs) (use_up-settled es x rest all.1))

pub settled_more : (settled : List Element) (xs : List Observation) → AreSettled settled
    → AreSettled (settled ++ map put xs)
settled_more [] [] all = tt
settled_more [] (x ∷ xs) all = (refl, settled_more [] xs tt)
settled_more (e ∷ es) xs all = (all.0, settled_more es xs all.1)

pub queue_shrinks : (settled : List Element) (xs queue : List Observation) → AreSettled settled
    → fates_with_put_out (before_queue settled (xs ++ queue)) xs ≡ before_queue (settled ++ map put xs) queue
queue_shrinks settled [] queue all =
    ap (λ (es : List Element). es ++ map queued queue) (sym (append-nil settled))
queue_shrinks settled (x ∷ xs) queue all =
    ap (λ (es : List Element). fates_with_put_out es xs)
    (use_up-settled settled x (map queued (xs ++ queue)) all
    ∙ sym (append_assoc settled (put x ∷ []) (map queued (xs ++ queue))))
    ∙ (queue_shrinks (settled ++ put x ∷ []) xs queue (settled_more settled (x ∷ []) all)
    ∙ ap (λ (es : List Element). es ++ map queued queue) (append_assoc settled (put x ∷ []) (map put xs)))

-- ---- the observations by their fates

pub items_of-append : (p : Fate → Bool) (es fs : List Element) → items_of p (es ++ fs) ≡ items_of p es ++ items_of p fs
items_of-append p [] fs = refl
items_of-append p (e ∷ es) fs =
    elim (cases_Bool (p e.fate)) [
      | inl is ↦ rw is (ap (λ (xs : List Observation). e.item ∷ xs) (items_of-append p es fs))
      | inr isnt ↦ rw isnt (items_of-append p es fs)
    ]

queue_is_kept : (queue : List Observation) → items_of is_kept (map queued queue) ≡ queue
queue_is_kept [] = refl
queue_is_kept (x ∷ queue) = ap (λ (xs : List Observation). x ∷ xs) (queue_is_kept queue)

queue_is_queued : (queue : List Observation) → items_of is_queued (map queued queue) ≡ queue
queue_is_queued [] = refl
queue_is_queued (x ∷ queue) = ap (λ (xs : List Observation). x ∷ xs) (queue_is_queued queue)

none_of_queue_dropped : (queue : List Observation) → items_of is_dropped (map queued queue) ≡ []
none_of_queue_dropped [] = refl
none_of_queue_dropped (x ∷ queue) = none_of_queue_dropped queue

no_settled_queued : (settled : List Element) → AreSettled settled → items_of is_queued settled ≡ []
no_settled_queued [] all = refl
no_settled_queued (e ∷ es) all = rw all.0 (no_settled_queued es all.1)

kept_if_put_out : (f : Fate) → is_queued f ≡ false → is_kept f ≡ is_put_out f
kept_if_put_out Queued e = absurd cc
kept_if_put_out PutOut e = refl
kept_if_put_out Dropped e = refl

settled_kept : (settled : List Element) → AreSettled settled → items_of is_kept settled ≡ items_of is_put_out settled
settled_kept [] all = refl
settled_kept (e ∷ es) all =
    let same = kept_if_put_out e.fate all.0 in
    elim (cases_Bool (is_put_out e.fate)) [
      | inl is ↦ rw (same, is) (ap (λ (xs : List Observation). e.item ∷ xs) (settled_kept es all.1))
      | inr isnt ↦ rw (same, isnt) (settled_kept es all.1)
    ]

pub kept_in : (settled : List Element) (queue : List Observation) → AreSettled settled
    → items_of is_kept (before_queue settled queue) ≡ items_of is_put_out settled ++ queue
kept_in settled queue all =
    items_of-append is_kept settled (map queued queue)
    ∙ (ap (λ (xs : List Observation). xs ++ items_of is_kept (map queued queue)) (settled_kept settled all)
    ∙ ap (λ (xs : List Observation). items_of is_put_out settled ++ xs) (queue_is_kept queue))

pub queued_in : (settled : List Element) (queue : List Observation) → AreSettled settled
    → items_of is_queued (before_queue settled queue) ≡ queue
queued_in settled queue all =
    items_of-append is_queued settled (map queued queue)
    ∙ (ap (λ (xs : List Observation). xs ++ items_of is_queued (map queued queue)) (no_settled_queued settled all)
    ∙ queue_is_queued queue)

pub dropped_in : (settled : List Element) (queue : List Observation)
    → items_of is_dropped (before_queue settled queue) ≡ items_of is_dropped settled
dropped_in settled queue =
    items_of-append is_dropped settled (map queued queue)
    ∙ (ap (λ (xs : List Observation). items_of is_dropped settled ++ xs) (none_of_queue_dropped queue)
    ∙ append-nil (items_of is_dropped settled))

-- those that were put out, and no others
all_put : (xs : List Observation) → items_of is_put_out (map put xs) ≡ xs
all_put [] = refl
all_put (x ∷ xs) = ap (λ (ys : List Observation). x ∷ ys) (all_put xs)

none_dropped : (xs : List Observation) → items_of is_dropped (map put xs) ≡ []
none_dropped [] = refl
none_dropped (x ∷ xs) = none_dropped xs

pub put_out_more : (settled : List Element) (xs : List Observation)
    → items_of is_put_out (settled ++ map put xs) ≡ items_of is_put_out settled ++ xs
put_out_more settled xs =
    items_of-append is_put_out settled (map put xs)
    ∙ ap (λ (ys : List Observation). items_of is_put_out settled ++ ys) (all_put xs)

pub dropped_same : (settled : List Element) (xs : List Observation)
    → items_of is_dropped (settled ++ map put xs) ≡ items_of is_dropped settled
dropped_same settled xs =
    items_of-append is_dropped settled (map put xs)
    ∙ (ap (λ (ys : List Observation). items_of is_dropped settled ++ ys) (none_dropped xs)
    ∙ append-nil (items_of is_dropped settled))

-- ---- news that come

-- what is settled stays as it is
settled_stays : (e : Element) → is_queued e.fate ≡ false → record e { fate = dropped_fate e.fate } ≡ e
settled_stays e all = ap (λ (f : Fate). record e { fate = f }) (go e.fate all)
  where
    go : (f : Fate) → is_queued f ≡ false → dropped_fate f ≡ f
    go Queued is = absurd cc
    go PutOut is = refl
    go Dropped is = refl

-- of the first n those that are settled stay as they are
lapse-settled : (n k : ℕ) (settled rest : List Element) → AreSettled settled → k ≡ n - length settled
    → lapse_first n (settled ++ rest) ≡ settled ++ lapse_first k rest
lapse-settled n k [] rest all e = let same : n ≡ k = omega (arith, e) in ap (λ (i : ℕ). lapse_first i rest) same
lapse-settled zero k (e ∷ es) rest all is = let none : 0 ≡ k = omega (arith, is) in
    ap (λ (i : ℕ). e ∷ (es ++ lapse_first i rest)) none
lapse-settled (suc n) k (e ∷ es) rest all is =
    let one = settled_stays e all.0 in
    let others = lapse-settled n k es rest all.1 (omega (arith, is)) in
    cc

-- the oldest of a queue are dropped
lapse-queue : (n : ℕ) (queue : List Observation)
    → lapse_first n (map queued queue) ≡ map drops (take n queue) ++ map queued (drop n queue)
lapse-queue zero queue = refl
lapse-queue (suc n) [] = refl
lapse-queue (suc n) (x ∷ queue) = ap (λ (es : List Element). drops x ∷ es) (lapse-queue n queue)

dropped_are_settled : (settled : List Element) (xs : List Observation) → AreSettled settled
    → AreSettled (settled ++ map drops xs)
dropped_are_settled [] [] all = tt
dropped_are_settled [] (x ∷ xs) all = (refl, dropped_are_settled [] xs tt)
dropped_are_settled (e ∷ es) xs all = (all.0, dropped_are_settled es xs all.1)

none_put : (xs : List Observation) → items_of is_put_out (map drops xs) ≡ []
none_put [] = refl
none_put (x ∷ xs) = none_put xs

all_dropped : (xs : List Observation) → items_of is_dropped (map drops xs) ≡ xs
all_dropped [] = refl
all_dropped (x ∷ xs) = ap (λ (ys : List Observation). x ∷ ys) (all_dropped xs)

-- news joined a queue of which so many may wait: some more are settled
pub record Grown (limit : ℕ) (settled : List Element) (queue xs : List Observation) : Type 0 where
  pub more : List Element
  pub all : AreSettled more
  pub told : fates_with_news limit (before_queue settled queue) xs ≡ before_queue more (keep_last limit (queue ++ xs))
  pub put_out : items_of is_put_out more ≡ items_of is_put_out settled
  pub dropped : length (items_of is_dropped more) ≡ length
      (items_of is_dropped settled) + (length (queue ++ xs) - limit)

-- one came
grown_one : (limit : ℕ) (settled : List Element) (queue : List Observation) (x : Observation) → 0 < limit
    → AreSettled settled → Grown limit settled queue (x ∷ [])
grown_one limit settled queue x some all =
    let n : ℕ = length queue + 1 - limit in
    let es : List Element = before_queue settled queue in
    let size : length es ≡ length settled + length queue =
    length-append settled (map queued queue) ∙ ap (λ (k : ℕ). length settled + k) (map_length queue) in
    let over : length es + 1 - limit - length settled ≡ n = omega (arith, size) in
    let few : n ≤ length queue = omega (arith, some) in
    let kept : keep_last limit (queue ++ x ∷ []) ≡ drop n queue ++ x ∷ [] =
    ap (λ (k : ℕ). drop k (queue ++ x ∷ [])) (omega (arith, length-append queue (x ∷ [])))
    ∙ sym (drop-front 0 n n queue (x ∷ []) few (omega arith)) in
    let lapsed : lapse limit es ≡ settled ++ (map drops (take n queue) ++ map queued (drop n queue)) =
    lapse-settled (length es + 1 - limit) n settled (map queued queue) all (sym over)
    ∙ ap (λ (fs : List Element). settled ++ fs) (lapse-queue n queue) in
    let more : List Element = settled ++ map drops (take n queue) in
    record {
      more = more;
      all = dropped_are_settled settled (take n queue) all;
      told = ap (λ (fs : List Element). fs ++ queued x ∷ []) lapsed
          ∙ (ap (λ (fs : List Element). fs ++ queued x ∷ [])
          (sym (append_assoc settled (map drops (take n queue)) (map queued (drop n queue))))
          ∙ (append_assoc more (map queued (drop n queue)) (queued x ∷ [])
          ∙ ap (λ (fs : List Element). more ++ fs) (sym (map-append queued (drop n queue) (x ∷ []))
          ∙ ap (map queued) (sym kept))));
      put_out = items_of-append is_put_out settled (map drops (take n queue))
          ∙ (ap (λ (ys : List Observation). items_of is_put_out settled ++ ys) (none_put (take n queue))
          ∙ append-nil (items_of is_put_out settled));
      dropped =
          let ds : List Observation = items_of is_dropped settled in
          omega (
            arith,
            ap length (items_of-append is_dropped settled (map drops (take n queue))
                ∙ ap (λ (ys : List Observation). ds ++ ys) (all_dropped (take n queue))),
            length-append ds (take n queue),
            length-take-le n queue few,
            length-append queue (x ∷ []),
          );
    }
  where
    map_length : (xs : List Observation) → length (map queued xs) ≡ length xs
    map_length [] = refl
    map_length (y ∷ ys) = ap suc (map_length ys)

pub grown : (limit : ℕ) (settled : List Element) (queue xs : List Observation) → 0 < limit → length queue ≤ limit
    → AreSettled settled → Grown limit settled queue xs
grown limit settled queue [] some few all = record {
  more = settled;
  all = all;
  told = ap (before_queue settled) (sym (ap (keep_last limit) (append-nil queue) ∙ kept_all limit queue few));
  put_out = refl;
  dropped = omega (arith, length-append queue [], few);
}
grown limit settled queue (x ∷ xs) some few all =
    let one = grown_one limit settled queue x some all in
    let kept : List Observation = keep_last limit (queue ++ x ∷ []) in
    let rest = grown limit one.more kept xs some (omega
    (arith, length-drop (length (queue ++ x ∷ []) - limit) (queue ++ x ∷ []))) one.all in
    let whole : keep_last limit (kept ++ xs) ≡ keep_last limit (queue ++ x ∷ xs) =
    kept_on limit (queue ++ x ∷ []) xs ∙ ap (keep_last limit) (append_assoc queue (x ∷ []) xs) in
    record {
      more = rest.more;
      all = rest.all;
      told = ap (λ (es : List Element). fates_with_news limit es xs) one.told
          ∙ (rest.told ∙ ap (before_queue rest.more) whole);
      put_out = rest.put_out ∙ one.put_out;
      dropped = omega (
        arith,
        rest.dropped,
        one.dropped,
        length-append queue (x ∷ []),
        length-append queue (x ∷ xs),
        length-append kept xs,
        length-drop (length (queue ++ x ∷ []) - limit) (queue ++ x ∷ []),
      );
    }

-- ---- how many there are

pub length-lapse : (n : ℕ) (es : List Element) → length (lapse_first n es) ≡ length es
length-lapse zero es = refl
length-lapse (suc n) [] = refl
length-lapse (suc n) (e ∷ es) = ap suc (length-lapse n es)

length-use_up : (es : List Element) → length (use_up es) ≡ length es
length-use_up [] = refl
length-use_up (e ∷ es) = elim (cases_Bool (is_queued e.fate))
    [ inl is ↦ rw is refl | inr isnt ↦ rw isnt (ap suc (length-use_up es)) ]

pub length-came : (limit : ℕ) (es : List Element) (xs : List Observation)
    → length (fates_with_news limit es xs) ≡ length es + length xs
length-came limit es [] = omega arith
length-came limit es (x ∷ xs) =
    let lapsed : List Element = lapse_first (length es + 1 - limit) es in
    omega (
      arith,
      length-came limit (lapsed ++ record { item = x; fate = Queued } ∷ []) xs,
      length-append lapsed
          (record { item = x; fate = Queued } ∷ []),
      length-lapse (length es + 1 - limit) es,
    )

pub length-gone : (es : List Element) (xs : List Observation) → length (fates_with_put_out es xs) ≡ length es
length-gone es [] = refl
length-gone es (x ∷ xs) = length-gone (use_up es) xs ∙ length-use_up es

-- ---- the queue

take_items : (n : ℕ) (queue : List Observation) → items_of is_queued (take n (map queued queue)) ≡ take n queue
take_items zero queue = refl
take_items (suc n) [] = refl
take_items (suc n) (x ∷ queue) = ap (λ (xs : List Observation). x ∷ xs) (take_items n queue)

drop_items : (n : ℕ) (queue : List Observation) → items_of is_queued (drop n (map queued queue)) ≡ drop n queue
drop_items zero queue = queued_in [] queue tt
drop_items (suc n) [] = refl
drop_items (suc n) (x ∷ queue) = drop_items n queue

pub take_queued : (n m : ℕ) (settled : List Element) (queue : List Observation) → AreSettled settled
    → m ≡ n - length settled
    → items_of is_queued (take n (before_queue settled queue)) ≡ take m queue
take_queued n m [] queue all e = let same : n ≡ m = omega (arith, e) in
    take_items n queue ∙ ap (λ (i : ℕ). take i queue) same
take_queued zero m (s ∷ settled) queue all e = let none : 0 ≡ m = omega (arith, e) in ap (λ (i : ℕ). take i queue) none
take_queued (suc n) m (s ∷ settled) queue all e = rw all.0 (take_queued n m settled queue all.1 (omega (arith, e)))

pub drop_queued : (n m : ℕ) (settled : List Element) (queue : List Observation) → AreSettled settled
    → m ≡ n - length settled
    → items_of is_queued (drop n (before_queue settled queue)) ≡ drop m queue
drop_queued n m [] queue all e = let same : n ≡ m = omega (arith, e) in
    drop_items n queue ∙ ap (λ (i : ℕ). drop i queue) same
drop_queued zero m (s ∷ settled) queue all e = let none : 0 ≡ m = omega (arith, e) in
    queued_in (s ∷ settled) queue all ∙ ap (λ (i : ℕ). drop i queue) none
drop_queued (suc n) m (s ∷ settled) queue all e = drop_queued n m settled queue all.1 (omega (arith, e))
