-- How many orders of a number there are, that wait or are under way.
use Rattle.std.proofs.Common.{◌≡◌, ℕ, zero, suc, ◌+◌, ◌≤◌, Bool, true, false, cond, List, []}
use Rattle.std.proofs.Common.{◌∷◌, ◌++◌, map, Option, Some, None, option_map, refl, ap, ◌∙◌, arith}
use Rattle.std.specs.Prelude.{◌==◌, slice_get}
use Rattle.std.specs.List.{filter}
use Rattle.std.proofs.lemmas.Bool.{eq-eqb}
use Rattle.gw_model.specs.Places.{change}
use Rattle.gw_control.specs.declared.accepted.Accepted.{Accepted}
use Rattle.gw_control.specs.declared.accepted.UnderWay.{UnderWay}
use Rattle.gw_control.specs.Moves.{one_if}
use Rattle.gw_control.specs.Orders.{Outgoing, is_of_others, left_by, outgoing_after_end, outgoing_after_taking, outgoing_with}

-- ---- towards one outstation

abbrev pub waiting_at : Option Outgoing → List Accepted
waiting_at None = []
waiting_at (Some q) = q.waiting

abbrev pub under_way_at : Option Outgoing → Option UnderWay
under_way_at None = None
under_way_at (Some q) = q.under_way

abbrev pub held_waiting : ℕ → List Accepted → ℕ
held_waiting n [] = 0
held_waiting n (x ∷ xs) = one_if (x.order.number == n) + held_waiting n xs

abbrev pub held_under_way : ℕ → Option UnderWay → ℕ
held_under_way n None = 0
held_under_way n (Some way) = one_if (way.accepted.order.number == n)

abbrev pub held_at : ℕ → Option Outgoing → ℕ
held_at n q = held_waiting n (waiting_at q) + held_under_way n (under_way_at q)

pub held_way : (n : ℕ) (q : Option Outgoing) (way : UnderWay) → under_way_at q ≡ Some way
    → way.accepted.order.number ≡ n → 1 ≤ held_at n q
held_way n q way is same =
    let one : held_under_way n (under_way_at q) ≡ 1 =
    ap (held_under_way n) is ∙ ap one_if (eq-eqb way.accepted.order.number n same) in
    omega (arith, one)

-- ---- all outstations

abbrev pub held : ℕ → List Outgoing → ℕ
held n [] = 0
held n (q ∷ qs) = held_at n (Some q) + held n qs

pub held_within : (n o : ℕ) (qs : List Outgoing) → held_at n (slice_get qs o) ≤ held n qs
held_within n o [] = omega arith
held_within n zero (q ∷ qs) = omega arith
held_within n (suc o) (q ∷ qs) = omega (arith, held_within n o qs)

-- one outstation changes
pub held_changed : (n o a b : ℕ) (f : Outgoing → Outgoing) (qs : List Outgoing)
    → a + held_at n (option_map f (slice_get qs o)) ≤ held_at n (slice_get qs o) + b
    → a + held n (change o f qs) ≤ held n qs + b
held_changed n o a b f [] k = omega (arith, k)
held_changed n zero a b f (q ∷ qs) k = omega (arith, k)
held_changed n (suc o) a b f (q ∷ qs) k = omega (arith, held_changed n o a b f qs k)

pub held_mapped : (n : ℕ) (f : Outgoing → Outgoing) (qs : List Outgoing)
    → ((q : Outgoing) → held_at n (Some (f q)) ≤ held_at n (Some q)) → held n (map f qs) ≤ held n qs
held_mapped n f [] k = omega arith
held_mapped n f (q ∷ qs) k = omega (arith, k q, held_mapped n f qs k)

pub held_nowhere : (n : ℕ) (qs : List Outgoing) → ((o : ℕ) → held_at n (slice_get qs o) ≡ 0) → held n qs ≡ 0
held_nowhere n [] k = refl
held_nowhere n (q ∷ qs) k =
    let here : held_at n (Some q) ≡ 0 = k 0 in
    let rest : held n qs ≡ 0 = held_nowhere n qs (λ o. k (suc o)) in omega (arith, here, rest)

-- ---- what changes them

taken : (n : ℕ) (ws : List Accepted) (u : Option UnderWay)
    → held_at n (Some (outgoing_after_taking (record { waiting = ws; under_way = u })))
    ≤ held_at n (Some (record { waiting = ws; under_way = u }))
taken n ws (Some way) = omega arith
taken n [] None = omega arith
taken n (x ∷ xs) None = omega arith

pub held_taking : (n : ℕ) (q : Option Outgoing) → held_at n (option_map outgoing_after_taking q) ≤ held_at n q
held_taking n None = omega arith
held_taking n (Some q) = taken n q.waiting q.under_way

some_waiting : (n : ℕ) (keep : Accepted → Bool) (xs : List Accepted)
    → held_waiting n (filter keep xs) ≤ held_waiting n xs
some_waiting n keep [] = omega arith
some_waiting n keep (x ∷ xs) = by (some_waiting n keep xs) (keep x)
  where
    by : held_waiting n (filter keep xs) ≤ held_waiting n xs → (b : Bool)
        → held_waiting n (cond b (x ∷ filter keep xs) (filter keep xs)) ≤ held_waiting n (x ∷ xs)
    by fewer true = omega (arith, fewer)
    by fewer false = omega (arith, fewer)

left_under_way : (n c : ℕ) (u : Option UnderWay) → held_under_way n (option_map (left_by c) u) ≡ held_under_way n u
left_under_way n c None = refl
left_under_way n c (Some way) = refl

pub held_leaving : (n c : ℕ) (q : Outgoing) → held_at n (Some (outgoing_after_end c q)) ≤ held_at n (Some q)
held_leaving n c q = omega (arith, some_waiting n (is_of_others c) q.waiting, left_under_way n c q.under_way)

one_waits : (n : ℕ) (xs : List Accepted) (x : Accepted)
    → held_waiting n (xs ++ x ∷ []) ≡ held_waiting n xs + one_if (x.order.number == n)
one_waits n [] x = omega arith
one_waits n (y ∷ ys) x = omega (arith, one_waits n ys x)

pub held_ordering : (n : ℕ) (x : Accepted) (q : Option Outgoing)
    → held_at n (option_map (outgoing_with x) q) ≤ held_at n q + one_if (x.order.number == n)
held_ordering n x None = omega arith
held_ordering n x (Some q) = omega (arith, one_waits n q.waiting x)
