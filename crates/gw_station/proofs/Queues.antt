-- News that come one after the other, and news that come at once.
use Rattle.std.proofs.Common.{◌≡◌, ℕ, zero, suc, ◌+◌, ◌-◌, ◌≤◌, Bool, true, false, List, []}
use Rattle.std.proofs.Common.{◌∷◌, ◌++◌, length, drop, refl, sym, ap, ◌∙◌, append_assoc, arith}
use Rattle.std.proofs.lemmas.List.{append-nil, length-append, length-drop}
use Rattle.circular_buffer.specs.Buffer.{keep_last}
use Rattle.gw_model.specs.declared.observation.Observation.{Observation}
use Rattle.gw_station.specs.Client.{Client, is_started, queue_with, overflow, client_with_news}

-- n are left out, and then m, which are k in all
pub drop-front : (m n k : ℕ) (xs ys : List Observation) → n ≤ length xs → k ≡ n + m
    → drop m (drop n xs ++ ys) ≡ drop k (xs ++ ys)
drop-front m zero k xs ys le all = ap (λ (i : ℕ). drop i (xs ++ ys)) (omega (arith, all))
drop-front m (suc n) k [] ys le all = absurd (omega (arith, le))
drop-front m (suc n) zero (x ∷ xs) ys le all = absurd (omega (arith, all))
drop-front m (suc n) (suc k) (x ∷ xs) ys le all = drop-front m n k xs ys (omega (arith, le)) (omega (arith, all))

-- what is kept of what was kept and comes is kept of all
pub kept_on : (limit : ℕ) (xs ys : List Observation)
    → keep_last limit (keep_last limit xs ++ ys) ≡ keep_last limit (xs ++ ys)
kept_on limit xs ys =
    let n : ℕ = length xs - limit in
    let m : ℕ = length (drop n xs ++ ys) - limit in
    let all : n + m ≡ length (xs ++ ys) - limit =
    omega (arith, length-append (drop n xs) ys, length-drop n xs, length-append xs ys) in
    drop-front m n (length (xs ++ ys) - limit) xs ys (omega arith) (sym all)

-- where no more wait than may, nothing is dropped
pub kept_all : (limit : ℕ) (xs : List Observation) → length xs ≤ limit → keep_last limit xs ≡ xs
kept_all limit xs few = let none : length xs - limit ≡ 0 = omega (arith, few) in ap (λ (n : ℕ). drop n xs) none

queue-nil : (limit : ℕ) (started : Bool) (queue : List Observation) → length queue ≤ limit
    → queue_with [] limit started queue ≡ queue
queue-nil limit true queue few = ap (keep_last limit) (append-nil queue) ∙ kept_all limit queue few
queue-nil limit false queue few = refl

overflow-nil : (limit : ℕ) (started : Bool) (queue : List Observation) → length queue ≤ limit
    → overflow [] limit started queue ≡ 0
overflow-nil limit true queue few = omega (arith, length-append queue [], few)
overflow-nil limit false queue few = refl

queue-twice : (limit : ℕ) (xs ys : List Observation) (started : Bool) (queue : List Observation)
    → queue_with ys limit started (queue_with xs limit started queue) ≡ queue_with (xs ++ ys) limit started queue
queue-twice limit xs ys true queue = kept_on limit (queue ++ xs) ys ∙ ap (keep_last limit) (append_assoc queue xs ys)
queue-twice limit xs ys false queue = refl

overflow-twice : (limit : ℕ) (xs ys : List Observation) (started : Bool) (queue : List Observation)
    → overflow xs limit started queue + overflow ys limit started (queue_with xs limit started queue)
    ≡ overflow (xs ++ ys) limit started queue
overflow-twice limit xs ys true queue =
    let zs : List Observation = queue ++ xs in
    omega (
      arith,
      length-append queue xs,
      length-append (drop (length zs - limit) zs) ys,
      length-drop (length zs - limit) zs,
      length-append queue (xs ++ ys),
      length-append xs ys,
    )
overflow-twice limit xs ys false queue = refl

pub of_all : (c : Client) (queue more : List Observation) (n m i j : ℕ) → queue ≡ more → n ≡ m → i ≡ j
    → record c { queue = queue; dropped = n; older = i } ≡ record c { queue = more; dropped = m; older = j }
of_all c queue more n m i j eq en ei = rw (eq, en, ei) refl

-- no news change nothing
pub came-nil : (c : Client) → length c.queue ≤ c.limit → client_with_news [] c ≡ c
came-nil c few =
    let started : Bool = is_started c.stage in
    let none = overflow-nil c.limit started c.queue few in
    of_all c (queue_with [] c.limit started c.queue) c.queue (c.dropped + overflow [] c.limit started c.queue) c.dropped
    (c.older - overflow [] c.limit started c.queue) c.older
    (queue-nil c.limit started c.queue few) (omega (arith, none)) (omega (arith, none))

-- some news, and then others
pub came-twice : (xs ys : List Observation) (c : Client)
    → client_with_news ys (client_with_news xs c) ≡ client_with_news (xs ++ ys) c
came-twice xs ys c =
    let started : Bool = is_started c.stage in
    let kept : List Observation = queue_with xs c.limit started c.queue in
    let both = overflow-twice c.limit xs ys started c.queue in
    of_all c (queue_with ys c.limit started kept) (queue_with (xs ++ ys) c.limit started c.queue)
    (c.dropped + overflow xs c.limit started c.queue + overflow ys c.limit started kept)
    (c.dropped + overflow (xs ++ ys) c.limit started c.queue)
    (c.older - overflow xs c.limit started c.queue - overflow ys c.limit started kept)
    (c.older - overflow (xs ++ ys) c.limit started c.queue)
    (queue-twice c.limit xs ys started c.queue) (omega (arith, both)) (omega (arith, both))

-- no more wait than may
pub came_within : (xs : List Observation) (c : Client) → length c.queue ≤ c.limit
    → length (client_with_news xs c).queue ≤ c.limit
came_within xs c few = by (is_started c.stage)
  where
    by : (started : Bool) → length (queue_with xs c.limit started c.queue) ≤ c.limit
    by true = omega (arith, length-drop (length (c.queue ++ xs) - c.limit) (c.queue ++ xs))
    by false = few
