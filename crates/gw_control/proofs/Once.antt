-- An order has at most one outcome.
use Rattle.std.specs.Prelude.{is_some, replicate, slice_get}
use Rattle.std.specs.List.{filter}
use Rattle.std.proofs.Common.{◌≡◌, ℕ, zero, suc, ◌+◌, ◌<◌, ◌≤◌, ◌==◌, Bool, true, false, cond, not, ◌&&◌}
use Rattle.std.proofs.Common.{nat_lt, List, [], ◌∷◌, ◌++◌, map, length, Option, Some, None, refl, sym, ap, arith}
use Rattle.std.proofs.lemmas.Bool.{eqb-true, ltb-true, ltb-false}
use Rattle.std.proofs.lemmas.Bool.Decides.{nat_tests}
use Rattle.gw_model.specs.First.{when}
use Rattle.gw_model.specs.Places.{change}
use Rattle.gw_model.specs.declared.control.Act.{Act}
use Rattle.gw_model.specs.declared.control.Ended.{Ended}
use Rattle.gw_entries.specs.declared.control.Control.{Control}
use Rattle.gw_map.specs.Settings.{Setup}
use Rattle.gw_control.specs.declared.asked.AskedCommand.{AskedCommand}
use Rattle.gw_control.specs.declared.accepted.Accepted.{Accepted}
use Rattle.gw_control.specs.declared.accepted.UnderWay.{UnderWay}
use Rattle.gw_control.specs.Intents.{control_for}
use Rattle.gw_control.specs.Selections.{is_select}
use Rattle.gw_control.specs.Orders.{Outgoing, is_named, is_of_others, nothing_outgoing, numbers_of}
use Rattle.gw_control.specs.Orders.{outcome_by, outcome_of, outgoing_after_end, outgoing_after_ended}
use Rattle.gw_control.specs.Orders.{outgoing_after_lost, outgoing_after_taking, outgoing_with, Rise}
use Rattle.gw_control.specs.Controls.{Controls, accepted_by, act_accepted, controls_after_at, controls_ordering}
use Rattle.gw_control.specs.Controls.{controls_selecting, controls_unselecting, is_deactivation, is_selectable}
use Rattle.gw_control.specs.Controls.{no_controls, outcome_ended_at, standing_at, AreInOrder}
use Rattle.gw_control.specs.Moves.{Move, Comes, Takes, Ends, Loses, Leaves, after_move, has_number}
use Rattle.gw_control.specs.Moves.{is_oldest, one_if, outcomes_by, outcomes_told, IsSoundControls}
use Rattle.gw_control.proofs.Keeps.{rise_within}
use Rattle.gw_control.proofs.Sounds.{none_sound, stays_sound}

-- ---- how many orders have a number

abbrev among : ℕ → List ℕ → ℕ
among n [] = 0
among n (m ∷ ms) = one_if (m == n) + among n ms

abbrev held_in : ℕ → Outgoing → ℕ
held_in n o = among n (numbers_of o)

abbrev held : ℕ → List Outgoing → ℕ
held n [] = 0
held n (o ∷ os) = held_in n o + held n os

not_above : (m n : ℕ) → m < n → one_if (m == n) ≡ 0
not_above m n lt = let differs : (m == n) ≡ false = grind (arith, nat_tests) in ap one_if differs

none_above : (low high n : ℕ) (ms : List ℕ) → high < n → Rise low high ms → among n ms ≡ 0
none_above low high n [] lt r = refl
none_above low high n (m ∷ ms) lt r =
    let within : m ≤ high = rise_within m high ms r.1 in
    let here : one_if (m == n) ≡ 0 = not_above m n (omega arith) in
    let there : among n ms ≡ 0 = none_above m high n ms lt r.1 in
    omega arith

none_held_above : (count n : ℕ) (os : List Outgoing) → count < n → AreInOrder count os → held n os ≡ 0
none_held_above count n [] lt all = refl
none_held_above count n (o ∷ os) lt all =
    let here : held_in n o ≡ 0 = none_above 0 count n (numbers_of o) lt all.0.rise in
    let there : held n os ≡ 0 = none_held_above count n os lt all.1 in
    omega arith

-- ---- one outstation

waiting_more : (n : ℕ) (x : Accepted) (ws : List Accepted)
    → among n (map (λ y. y.order.number) (ws ++ x ∷ [])) ≡ among n (map (λ y. y.order.number) ws) + one_if
    (x.order.number == n)
waiting_more n x [] = omega arith
waiting_more n x (w ∷ ws) = let rest = waiting_more n x ws in omega (arith, rest)

held_more : (n : ℕ) (x : Accepted) (ws : List Accepted) (u : Option UnderWay)
    → held_in n (outgoing_with x (record { waiting = ws; under_way = u })) ≡ held_in n
    (record { waiting = ws; under_way = u }) + one_if (x.order.number == n)
held_more n x ws None = waiting_more n x ws
held_more n x ws (Some u) = omega (arith, waiting_more n x ws)

held_taking : (n : ℕ) (ws : List Accepted) (u : Option UnderWay)
    → held_in n (outgoing_after_taking (record { waiting = ws; under_way = u })) ≤ held_in n
    (record { waiting = ws; under_way = u })
held_taking n ws (Some u) = omega arith
held_taking n [] None = omega arith
held_taking n (x ∷ xs) None = omega arith

-- an outcome uses up an order
and_less : (b told : Bool) → one_if (b && told) ≤ one_if b
and_less true true = omega arith
and_less true false = omega arith
and_less false told = omega arith

and_none : (b : Bool) → one_if (b && false) ≡ 0
and_none true = refl
and_none false = refl

held_ending : (n : ℕ) (ended : Ended) (ws : List Accepted) (u : Option UnderWay)
    → one_if ((ended.number == n) && is_some (outcome_by ended u)) + held_in n
    (outgoing_after_ended ended (record { waiting = ws; under_way = u }))
    ≤ held_in n (record { waiting = ws; under_way = u })
held_ending n ended ws None = omega (arith, and_none (ended.number == n))
held_ending n ended ws (Some u) = by_name (is_named ended u) refl
  where
    by_name : (named : Bool) → is_named ended u ≡ named
        → one_if ((ended.number == n) && is_some (when (named && not u.left) (outcome_of ended.done u.accepted)))
        + held_in n (record { waiting = ws; under_way = cond named None (Some u) })
        ≤ held_in n (record { waiting = ws; under_way = Some u })
    by_name true e =
        let same : u.accepted.order.number ≡ ended.number = eqb-true _ _ e in
        let alike : one_if (ended.number == n) ≡ one_if (u.accepted.order.number == n) = ap
        (λ (k : ℕ). one_if (k == n)) (sym same) in
        omega (
          arith,
          alike,
          and_less (ended.number == n)
              (is_some (when (not u.left) (outcome_of ended.done u.accepted))),
        )
    by_name false e = omega (arith, and_none (ended.number == n))

held_losing : (n : ℕ) (ws : List Accepted) (u : Option UnderWay)
    → one_if (has_number n (slice_get ws 0)) + held_in n (outgoing_after_lost (record { waiting = ws; under_way = u }))
    ≤ held_in n (record { waiting = ws; under_way = u })
held_losing n [] u = omega arith
held_losing n (x ∷ xs) None = omega arith
held_losing n (x ∷ xs) (Some u) = omega arith

some_of : (p : Accepted → Bool) (n : ℕ) (ws : List Accepted)
    → among n (map (λ y. y.order.number) (filter p ws)) ≤ among n (map (λ y. y.order.number) ws)
some_of p n [] = omega arith
some_of p n (x ∷ xs) = kept (some_of p n xs) (p x)
  where
    kept : among n (map (λ y. y.order.number) (filter p xs)) ≤ among n (map (λ y. y.order.number) xs) → (b : Bool)
        → among n (map (λ y. y.order.number) (cond b (x ∷ filter p xs) (filter p xs))) ≤ among n
        (map (λ y. y.order.number) (x ∷ xs))
    kept fewer true = omega (arith, fewer)
    kept fewer false = omega (arith, fewer)

held_leaving : (n client : ℕ) (ws : List Accepted) (u : Option UnderWay)
    → held_in n (outgoing_after_end client (record { waiting = ws; under_way = u })) ≤ held_in n
    (record { waiting = ws; under_way = u })
held_leaving n client ws None = some_of (is_of_others client) n ws
held_leaving n client ws (Some u) = omega (arith, some_of (is_of_others client) n ws)

-- ---- all outstations

all_ordering : (n p : ℕ) (x : Accepted) (os : List Outgoing)
    → held n (change p (outgoing_with x) os) ≤ held n os + one_if (x.order.number == n)
all_ordering n p x [] = omega arith
all_ordering n zero x (o ∷ os) = omega (arith, held_more n x o.waiting o.under_way)
all_ordering n (suc p) x (o ∷ os) = omega (arith, all_ordering n p x os)

all_taking : (n p : ℕ) (os : List Outgoing) → held n (change p outgoing_after_taking os) ≤ held n os
all_taking n p [] = omega arith
all_taking n zero (o ∷ os) = omega (arith, held_taking n o.waiting o.under_way)
all_taking n (suc p) (o ∷ os) = omega (arith, all_taking n p os)

all_ending : (n p : ℕ) (ended : Ended) (os : List Outgoing)
    → one_if ((ended.number == n) && is_some (outcome_ended_at ended (slice_get os p))) + held n
    (change p (outgoing_after_ended ended) os) ≤ held n os
all_ending n p ended [] = omega (arith, and_none (ended.number == n))
all_ending n zero ended (o ∷ os) = omega (arith, held_ending n ended o.waiting o.under_way)
all_ending n (suc p) ended (o ∷ os) = omega (arith, all_ending n p ended os)

all_losing : (n p : ℕ) (os : List Outgoing) → one_if (is_oldest n (slice_get os p)) + held n
    (change p outgoing_after_lost os) ≤ held n os
all_losing n p [] = omega arith
all_losing n zero (o ∷ os) = omega (arith, held_losing n o.waiting o.under_way)
all_losing n (suc p) (o ∷ os) = omega (arith, all_losing n p os)

all_leaving : (n client : ℕ) (os : List Outgoing) → held n (map (outgoing_after_end client) os) ≤ held n os
all_leaving n client [] = omega arith
all_leaving n client (o ∷ os) = omega (arith, held_leaving n client o.waiting o.under_way, all_leaving n client os)

-- ---- how many outcomes there may still be

abbrev budget : ℕ → Controls → ℕ
budget n v = cond (nat_lt v.ordered n) 1 (held n v.outgoing)

-- some are told, and the numbers go on as they did
spent : (count n told after before : ℕ) → told + after ≤ before → (count < n → before ≡ 0)
    → told + cond (nat_lt count n) 1 after ≤ cond (nat_lt count n) 1 before
spent count n told after before fewer none = by_number (nat_lt count n) refl
  where
    by_number : (b : Bool) → nat_lt count n ≡ b → told + cond b 1 after ≤ cond b 1 before
    by_number true e = let nothing : before ≡ 0 = none (ltb-true _ _ e) in omega (arith, fewer, nothing)
    by_number false e = fewer

pub one_at_most : (b : Bool) → one_if b ≤ 1
one_at_most true = omega arith
one_at_most false = omega arith

not_below : (m n : ℕ) → n < m → one_if (m == n) ≡ 0
not_below m n lt = let differs : (m == n) ≡ false = grind (arith, nat_tests) in ap one_if differs

-- one more number
raised : (count n after before : ℕ) → after ≤ before + one_if ((count + 1) == n) → (count < n → before ≡ 0)
    → cond (nat_lt (count + 1) n) 1 after ≤ cond (nat_lt count n) 1 before
raised count n after before fewer none = by_number (nat_lt (count + 1) n) (nat_lt count n) refl refl
  where
    by_number : (b d : Bool) → nat_lt (count + 1) n ≡ b → nat_lt count n ≡ d → cond b 1 after ≤ cond d 1 before
    by_number true true e f = omega arith
    by_number true false e f = let above : count + 1 < n = ltb-true _ _ e in let below : n ≤ count = ltb-false _ _ f
        in absurd (omega arith)
    by_number false true e f =
        let nothing : before ≡ 0 = none (ltb-true _ _ f) in omega
        (arith, fewer, nothing, one_at_most ((count + 1) == n))
    by_number false false e f =
        let below : n ≤ count = ltb-false _ _ f in
        let other : one_if ((count + 1) == n) ≡ 0 = not_below (count + 1) n (omega arith) in
        omega (arith, fewer, other)

ordering_spends : (n : ℕ) (a : AskedCommand) (control : Control) (act : Option Act) (v : Controls)
    → AreInOrder v.ordered v.outgoing
    → budget n (controls_ordering a control act v) ≤ budget n v
ordering_spends n a control None v k = omega arith
ordering_spends n a control (Some act) v k =
    raised v.ordered n _ _ (all_ordering n control.outstation (accepted_by a control act (v.ordered + 1)) v.outgoing)
    (λ lt. none_held_above v.ordered n v.outgoing lt k)

command_spends : (setup : Setup) (n : ℕ) (a : AskedCommand) (found : Option (ℕ × Control)) (v : Controls)
    → AreInOrder v.ordered v.outgoing
    → budget n (controls_after_at setup a found v) ≤ budget n v
command_spends setup n a None v k = omega arith
command_spends setup n a (Some found) v k = by_kind (is_deactivation a) (is_select a.command.action)
    (is_selectable a found.1 (standing_at setup a.moment found.0 v))
  where
    by_kind : (deactivation select selectable : Bool) → budget n
        (cond deactivation (controls_unselecting a found.0 v)
        (cond select (cond selectable (controls_selecting a found.0 v) v)
        (controls_ordering a found.1 (act_accepted a found.1 (standing_at setup a.moment found.0 v) v)
        (controls_unselecting a found.0 v)))) ≤ budget n v
    by_kind true select selectable = omega arith
    by_kind false true true = omega arith
    by_kind false true false = omega arith
    by_kind false false selectable =
        ordering_spends n a found.1 (act_accepted a found.1 (standing_at setup a.moment found.0 v) v)
        (controls_unselecting a found.0 v) k

move_spends : (setup : Setup) (n : ℕ) (m : Move) (v : Controls) → AreInOrder v.ordered v.outgoing
    → outcomes_by n m v + budget n (after_move setup m v) ≤ budget n v
move_spends setup n (Comes a) v k = omega (arith, command_spends setup n a (control_for setup a.command) v k)
move_spends setup n (Takes outstation) v k =
    spent v.ordered n 0 _ _ (omega (arith, all_taking n outstation v.outgoing))
    (λ lt. none_held_above v.ordered n v.outgoing lt k)
move_spends setup n (Ends outstation ended) v k =
    spent v.ordered n _ _ _ (all_ending n outstation ended v.outgoing)
    (λ lt. none_held_above v.ordered n v.outgoing lt k)
move_spends setup n (Loses outstation) v k =
    spent v.ordered n _ _ _ (all_losing n outstation v.outgoing) (λ lt. none_held_above v.ordered n v.outgoing lt k)
move_spends setup n (Leaves client) v k =
    spent v.ordered n 0 _ _ (omega (arith, all_leaving n client v.outgoing))
    (λ lt. none_held_above v.ordered n v.outgoing lt k)

told_within : (setup : Setup) (n : ℕ) (ms : List Move) (v : Controls) → IsSoundControls setup v
    → outcomes_told setup n ms v ≤ budget n v
told_within setup n [] v k = omega arith
told_within setup n (m ∷ ms) v k =
    omega (
      arith,
      move_spends setup n m v k.orders,
      told_within setup n ms (after_move setup m v)
          (stays_sound setup m v k),
    )

pub none_held : (n count : ℕ) → held n (replicate count nothing_outgoing) ≡ 0
none_held n zero = refl
none_held n (suc count) = omega (arith, none_held n count)

pub outcomes_once : (setup : Setup) (n : ℕ) (moves : List Move) → outcomes_told setup n moves (no_controls setup) ≤ 1
outcomes_once setup n moves =
    omega (arith, told_within setup n moves (no_controls setup) (none_sound setup 0), within (nat_lt 0 n))
  where
    within : (b : Bool) → cond b 1 (held n (replicate (length setup.outstations) nothing_outgoing)) ≤ 1
    within true = omega arith
    within false = omega (arith, none_held n (length setup.outstations))
