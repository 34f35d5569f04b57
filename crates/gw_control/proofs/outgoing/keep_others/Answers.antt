use Rattle.std.proofs.Common.{◌≡◌, ℕ, zero, suc, ◌+◌, ◌-◌, ◌<◌, ◌≤◌, Bool, true}
use Rattle.std.proofs.Common.{false, cond, not, List, [], ◌∷◌, ◌++◌, drop, length, take}
use Rattle.std.proofs.Common.{Some, refl, sym, ap, ◌∙◌, arith, append_assoc, length-append}
use Rattle.std.specs.Prelude.{slice_get}
use Rattle.std.specs.List.{filter}
use Rattle.std.proofs.lemmas.Bool.{eq-eqb, ne_eqb}
use Rattle.std.proofs.lemmas.List.{append-nil, length-drop}
use Rattle.circular_buffer.specs.Buffer.{Buffer, buffer, keep_last}
use Rattle.gw_control.specs.declared.accepted.Accepted.{Accepted}
use Rattle.gw_control.specs.Orders.{is_of_others}
use Rattle.gw_control.proofs.outgoing.keep_others.Goals as goal
use Rattle.gw_control.proofs.outgoing.keep_others.Goals.{in-Some+then-accepted-client, in-Some+else-accepted-client, in_default}

-- the next one is the first, and behind it is what it leaves
next : (p : Accepted → Bool) (i : ℕ) (xs ks : List Accepted) (x : Accepted) → i < length xs
    → slice_get (drop i xs ++ ks) 0 ≡ Some x
    → (drop i xs ++ ks ≡ x ∷ (drop (suc i) xs ++ ks))
    × (filter p (take (suc i) xs) ≡ filter p (take i xs) ++ filter p (x ∷ []))
next p i [] ks x lt e = absurd (omega (arith, lt))
next p zero (y ∷ xs) ks x lt e =
    let same : y ≡ x = cc in
    (ap (λ (z : Accepted). z ∷ (xs ++ ks)) same, ap (λ (z : Accepted). filter p (z ∷ [])) same)
next p (suc i) (y ∷ xs) ks x lt e =
    let rest = next p i xs ks x (omega (arith, lt)) e in (rest.0, more rest.1 (p y))
  where
    more : filter p (take (suc i) xs) ≡ filter p (take i xs) ++ filter p (x ∷ []) → (b : Bool)
        → cond b (y ∷ filter p (take (suc i) xs)) (filter p (take (suc i) xs))
        ≡ cond b (y ∷ filter p (take i xs)) (filter p (take i xs)) ++ filter p (x ∷ [])
    more same true = ap (λ (zs : List Accepted). y ∷ zs) same
    more same false = same

-- the first goes to the end, if it stays
turned : (p : Accepted → Bool) (i : ℕ) (xs items : List Accepted) (x : Accepted) → i < length xs
    → items ≡ drop i xs ++ filter p (take i xs) → slice_get items 0 ≡ Some x
    → drop 1 items ++ filter p (x ∷ []) ≡ drop (i + 1) xs ++ filter p (take (i + 1) xs)
turned p i xs items x lt is e =
    let ks : List Accepted = filter p (take i xs) in
    let both = next p i xs ks x lt (ap (λ (l : List Accepted). slice_get l 0) (sym is) ∙ e) in
    let one : suc i ≡ i + 1 = omega arith in
    ap (λ (l : List Accepted). drop 1 l ++ filter p (x ∷ [])) (is ∙ both.0)
    ∙ (append_assoc (drop (suc i) xs) ks (filter p (x ∷ []))
    ∙ (ap (λ (l : List Accepted). drop (suc i) xs ++ l) (sym both.1)
    ∙ ap (λ (n : ℕ). drop n xs ++ filter p (take n xs)) one))

-- which there is
there : (i : ℕ) (xs ks : List Accepted) → i < length xs
    → (x : Accepted) × (slice_get (drop i xs ++ ks) 0 ≡ Some x)
there i [] ks lt = absurd (omega (arith, lt))
there zero (x ∷ xs) ks lt = (x, refl)
there (suc i) (x ∷ xs) ks lt = there i xs ks (omega (arith, lt))

-- where there was a first, one more fits behind the others
fits : (n : ℕ) (items : List Accepted) (x y : Accepted) → slice_get items 0 ≡ Some y → length items ≤ n
    → length (drop 1 items ++ x ∷ []) ≤ n
fits n [] x y e few = absurd cc
fits n (z ∷ items) x y e few = omega (arith, length-append items (x ∷ []), few)

kept_all : (n : ℕ) (xs : List Accepted) → length xs ≤ n → keep_last n xs ≡ xs
kept_all n xs few = let none : length xs - n ≡ 0 = omega (arith, few) in ap (λ (k : ℕ). drop k xs) none

pub loop-preserved : goal.loop-preserved
loop-preserved c =
    let client : ℕ = c.args.client in
    let old : List Accepted = c.args.waiting.now.items in
    let i : ℕ = c.loop.counter in
    let items : List Accepted = c.loop.waiting.items in
    let room : ℕ = c.loop.waiting.capacity in
    let lt : i < length old = omega (arith, c.loop-test.true, c.len-end.ensures.len) in
    let few : length items ≤ room =
    omega (arith, c.loop.invariant.fewer, c.loop.invariant.capacity, c.len-end.ensures.len, c.len-end.ensures.within.0) in
    elim c.match-pop_front.branch [
      | in-Some+then-accepted-client w ↦
          let x : Accepted = w.in-Some.accepted in
          let e : slice_get items 0 ≡ Some x = sym c.pop_front.ensures.value ∙ w.in-Some.is in
          let pushed = w.waiting-is ∙ (w.push_back.ensures.items
          ∙ ap (λ (b : Buffer Accepted). buffer (keep_last b.capacity (b.items ++ x ∷ [])) b.capacity)
          c.pop_front.ensures.items) in
          let now : c.match-pop_front.waiting.items ≡ drop 1 items ++ x ∷ [] =
          ap (λ (b : Buffer Accepted). b.items) pushed
          ∙ kept_all room (drop 1 items ++ x ∷ []) (fits room items x x e few) in
          let stays : x ∷ [] ≡ filter (is_of_others client) (x ∷ []) =
          sym (ap (λ (own : Bool). cond (not own) (x ∷ []) []) (ne_eqb x.client client w.if-accepted-client.true)) in
          record {
            items =
                now ∙ (ap (λ (l : List Accepted). drop 1 items ++ l) stays
                ∙ turned (is_of_others client) i old items x lt c.loop.invariant.items e);
            fewer = omega (arith, ap length now, fits (length old) items x x e c.loop.invariant.fewer);
            capacity = ap (λ (b : Buffer Accepted). b.capacity) pushed ∙ c.loop.invariant.capacity;
          }
      | in-Some+else-accepted-client w ↦
          let x : Accepted = w.in-Some.accepted in
          let e : slice_get items 0 ≡ Some x = sym c.pop_front.ensures.value ∙ w.in-Some.is in
          let popped = w.waiting-is ∙ c.pop_front.ensures.items in
          let goes : [] ≡ filter (is_of_others client) (x ∷ []) =
          sym (ap (λ (own : Bool). cond (not own) (x ∷ []) []) (eq-eqb x.client client w.if-accepted-client.false)) in
          record {
            items =
                ap (λ (b : Buffer Accepted). b.items) popped
                ∙ (sym (append-nil (drop 1 items))
                ∙ (ap (λ (l : List Accepted). drop 1 items ++ l) goes
                ∙ turned (is_of_others client) i old items x lt c.loop.invariant.items e));
            fewer =
                omega (
                  arith,
                  ap (λ (b : Buffer Accepted). length b.items) popped,
                  length-drop 1 items,
                  c.loop.invariant.fewer,
                );
            capacity = ap (λ (b : Buffer Accepted). b.capacity) popped ∙ c.loop.invariant.capacity;
          }
      | in_default w ↦
          let first = there i old (filter (is_of_others client) (take i old)) lt in
          absurd (w.in_default.not-Some first.0 (c.pop_front.ensures.value
          ∙ (ap (λ (l : List Accepted). slice_get l 0) c.loop.invariant.items ∙ first.1)))
    ]
