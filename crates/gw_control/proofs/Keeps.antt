-- What becomes of orders keeps them in order: at most 16 wait for an outstation, and their numbers rise.
use Rattle.std.specs.Prelude.{◌==◌, is_none, replicate, slice_get, IfSome}
use Rattle.std.specs.List.{filter}
use Rattle.std.proofs.Common.{◌≡◌, ℕ, zero, suc, ◌+◌, ◌<◌, ◌≤◌, Bool, true, false, cond, not, ◌&&◌, List, []}
use Rattle.std.proofs.Common.{◌∷◌, ◌++◌, map, length, Option, Some, None, option_map, refl, ap, arith, length-append}
use Rattle.std.proofs.lemmas.Bool.{and_parts, eqb-true}
use Rattle.std.proofs.lemmas.Bool.Decides.{nat_tests}
use Rattle.gw_model.specs.First.{when, first_of}
use Rattle.gw_model.specs.Places.{change}
use Rattle.gw_model.specs.declared.control.Act.{Act}
use Rattle.gw_model.specs.declared.control.Ended.{Ended}
use Rattle.gw_entries.specs.declared.control.Control.{Control}
use Rattle.gw_control.specs.declared.asked.AskedCommand.{AskedCommand}
use Rattle.gw_control.specs.declared.accepted.Accepted.{Accepted}
use Rattle.gw_control.specs.declared.accepted.UnderWay.{UnderWay}
use Rattle.gw_control.specs.declared.selection.Selection.{Selection}
use Rattle.gw_control.specs.Intents.{intent_of}
use Rattle.gw_control.specs.Selections.{asks_same, is_own, is_selected, is_taken}
use Rattle.gw_control.specs.Orders.{Outgoing, is_full, is_named, is_of_others, nothing_outgoing, numbers_of}
use Rattle.gw_control.specs.Orders.{outgoing_after_end, outgoing_after_ended, outgoing_after_lost}
use Rattle.gw_control.specs.Orders.{outgoing_after_taking, outgoing_with, IsInOrder, Rise}
use Rattle.gw_control.specs.declared.refusal.Refusal.{Refusal}
use Rattle.gw_control.specs.declared.refusal.Refusal.TheVariants.{OutstationDown, SelectedByAnother, NoPlace}
use Rattle.gw_control.specs.Controls.{Controls, act_accepted, act_by, act_unless, confirmed_if, element_refusal}
use Rattle.gw_control.specs.Controls.{is_full_at, is_order, selection_refusal, AreInOrder, IsAccepted, IsSelectedFor}
use Rattle.gw_control.proofs.Places.{all_alike, all_changed, all_mapped}

-- ---- numbers that rise

pub rise_within : (low high : ℕ) (ns : List ℕ) → Rise low high ns → low ≤ high
rise_within low high [] r = r
rise_within low high (n ∷ ns) r = let below : n ≤ high = rise_within n high ns r.1 in let above : low < n = r.0 in
    omega arith

-- from less on
rise_from : (less low high : ℕ) (ns : List ℕ) → less ≤ low → Rise low high ns → Rise less high ns
rise_from less low high [] le r = omega (arith, r)
rise_from less low high (n ∷ ns) le r = let above : low < n = r.0 in (omega arith, r.1)

-- up to more
rise_to : (low high more : ℕ) (ns : List ℕ) → high ≤ more → Rise low high ns → Rise low more ns
rise_to low high more [] le r = omega (arith, r)
rise_to low high more (n ∷ ns) le r = (r.0, rise_to n high more ns le r.1)

-- without the first
rise_rest : (low high n : ℕ) (ns : List ℕ) → Rise low high (n ∷ ns) → Rise low high ns
rise_rest low high n ns r = let above : low < n = r.0 in rise_from low n high ns (omega arith) r.1

-- ---- the numbers of orders that wait

-- with the next one at the end
more_rise : (low high : ℕ) (x : Accepted) (xs : List Accepted) → x.order.number ≡ high + 1
    → Rise low high (map (λ y. y.order.number) xs) → Rise low (high + 1) (map (λ y. y.order.number) (xs ++ x ∷ []))
more_rise low high x [] is r = (omega (arith, r), omega (arith, is))
more_rise low high x (y ∷ ys) is r = (r.0, more_rise y.order.number high x ys is r.1)

-- some of them
some_rise : (p : Accepted → Bool) (low high : ℕ) (xs : List Accepted)
    → Rise low high (map (λ y. y.order.number) xs) → Rise low high (map (λ y. y.order.number) (filter p xs))
some_rise p low high [] r = r
some_rise p low high (x ∷ xs) r = kept (some_rise p x.order.number high xs r.1) (p x)
  where
    kept : Rise x.order.number high (map (λ y. y.order.number) (filter p xs)) → (b : Bool)
        → Rise low high (map (λ y. y.order.number) (cond b (x ∷ filter p xs) (filter p xs)))
    kept rest true = (r.0, rest)
    kept rest false = let above : low < x.order.number = r.0 in rise_from low x.order.number high _ (omega arith) rest

some_fewer : (p : Accepted → Bool) (xs : List Accepted) → length (filter p xs) ≤ length xs
some_fewer p [] = omega arith
some_fewer p (x ∷ xs) = kept (some_fewer p xs) (p x)
  where
    kept : length (filter p xs) ≤ length xs → (b : Bool)
        → length (cond b (x ∷ filter p xs) (filter p xs)) ≤ length (x ∷ xs)
    kept fewer true = omega arith
    kept fewer false = omega arith

-- ---- one outstation

pub nothing_in_order : (count : ℕ) → IsInOrder count nothing_outgoing
nothing_in_order count = record { few = omega arith; rise = omega arith }

-- more orders in all
raised : (count : ℕ) (o : Outgoing) → IsInOrder count o → IsInOrder (count + 1) o
raised count o k = record { few = k.few; rise = rise_to 0 count (count + 1) (numbers_of o) (omega arith) k.rise }

-- one more waits
pushed : (count : ℕ) (x : Accepted) (ws : List Accepted) (u : Option UnderWay) → x.order.number ≡ count + 1
    → is_full (record { waiting = ws; under_way = u }) ≡ false
    → IsInOrder count (record { waiting = ws; under_way = u })
    → IsInOrder (count + 1) (outgoing_with x (record { waiting = ws; under_way = u }))
pushed count x ws u is room k = record { few = fits; rise = rises u k.rise }
  where
    few : length ws < 16
    few = grind (arith, nat_tests, room)

    fits : length (ws ++ x ∷ []) ≤ 16
    fits = omega (arith, length-append ws (x ∷ []), few)

    rises : (u : Option UnderWay) → Rise 0 count (numbers_of (record { waiting = ws; under_way = u }))
        → Rise 0 (count + 1) (numbers_of (record { waiting = ws ++ x ∷ []; under_way = u }))
    rises None r = more_rise 0 count x ws is r
    rises (Some u) r = (r.0, more_rise u.accepted.order.number count x ws is r.1)

taken : (count : ℕ) (ws : List Accepted) (u : Option UnderWay)
    → IsInOrder count (record { waiting = ws; under_way = u })
    → IsInOrder count (outgoing_after_taking (record { waiting = ws; under_way = u }))
taken count ws (Some u) k = k
taken count [] None k = k
taken count (x ∷ xs) None k = record { few = omega (arith, k.few); rise = k.rise }

ended_by : (count : ℕ) (ended : Ended) (ws : List Accepted) (u : Option UnderWay)
    → IsInOrder count (record { waiting = ws; under_way = u })
    → IsInOrder count (outgoing_after_ended ended (record { waiting = ws; under_way = u }))
ended_by count ended ws None k = k
ended_by count ended ws (Some u) k = over (is_named ended u)
  where
    over : (b : Bool) → IsInOrder count (record { waiting = ws; under_way = cond b None (Some u) })
    over true = record { few = k.few; rise = rise_rest 0 count _ _ k.rise }
    over false = k

lost : (count : ℕ) (ws : List Accepted) (u : Option UnderWay) → IsInOrder count (record { waiting = ws; under_way = u })
    → IsInOrder count (outgoing_after_lost (record { waiting = ws; under_way = u }))
lost count [] u k = k
lost count (x ∷ xs) None k = record { few = omega (arith, k.few); rise = rise_rest 0 count _ _ k.rise }
lost count (x ∷ xs) (Some u) k =
    record { few = omega (arith, k.few); rise = (k.rise.0, rise_rest _ count _ _ k.rise.1) }

left : (count client : ℕ) (ws : List Accepted) (u : Option UnderWay)
    → IsInOrder count (record { waiting = ws; under_way = u })
    → IsInOrder count (outgoing_after_end client (record { waiting = ws; under_way = u }))
left count client ws None k = record {
  few = omega (arith, some_fewer (is_of_others client) ws, k.few);
  rise = some_rise (is_of_others client) 0 count ws k.rise;
}
left count client ws (Some u) k = record {
  few = omega (arith, some_fewer (is_of_others client) ws, k.few);
  rise = (k.rise.0, some_rise (is_of_others client) u.accepted.order.number count ws k.rise.1);
}

-- ---- all outstations

pub nothing_keeps : (count n : ℕ) → AreInOrder count (replicate n nothing_outgoing)
nothing_keeps count n = all_alike (IsInOrder count) n nothing_outgoing (nothing_in_order count)

pub ordering_keeps : (count n : ℕ) (x : Accepted) (os : List Outgoing) → x.order.number ≡ count + 1
    → is_full_at (slice_get os n) ≡ false → AreInOrder count os → AreInOrder (count + 1) (change n (outgoing_with x) os)
ordering_keeps count n x [] is room all = tt
ordering_keeps count zero x (o ∷ os) is room all =
    (pushed count x o.waiting o.under_way is room all.0, all_raised count os all.1)
  where
    all_raised : (count : ℕ) (os : List Outgoing) → AreInOrder count os → AreInOrder (count + 1) os
    all_raised count [] all = tt
    all_raised count (o ∷ os) all = (raised count o all.0, all_raised count os all.1)
ordering_keeps count (suc n) x (o ∷ os) is room all = (raised count o all.0, ordering_keeps count n x os is room all.1)

pub taking_keeps : (count n : ℕ) (os : List Outgoing) → AreInOrder count os
    → AreInOrder count (change n outgoing_after_taking os)
taking_keeps count n os all =
    all_changed (IsInOrder count) outgoing_after_taking (λ o k. taken count o.waiting o.under_way k) n os all

pub ended_keeps : (count n : ℕ) (ended : Ended) (os : List Outgoing) → AreInOrder count os
    → AreInOrder count (change n (outgoing_after_ended ended) os)
ended_keeps count n ended os all =
    all_changed (IsInOrder count) (outgoing_after_ended ended) (λ o k. ended_by count ended o.waiting o.under_way k) n
    os all

pub lost_keeps : (count n : ℕ) (os : List Outgoing) → AreInOrder count os
    → AreInOrder count (change n outgoing_after_lost os)
lost_keeps count n os all =
    all_changed (IsInOrder count) outgoing_after_lost (λ o k. lost count o.waiting o.under_way k) n os all

pub end_keeps : (count client : ℕ) (os : List Outgoing) → AreInOrder count os
    → AreInOrder count (map (outgoing_after_end client) os)
end_keeps count client os all =
    all_mapped (IsInOrder count) (outgoing_after_end client) (λ o k. left count client o.waiting o.under_way k) os all

-- ---- an execute that is accepted

allowed : (r s : Refusal) (a b c d e : Bool) (act : Option Act) (x : Act)
    → act_unless (first_of (when a r ∷ when b OutstationDown ∷ when c SelectedByAnother ∷ when d s
    ∷ when e NoPlace ∷ [])) act ≡ Some x
    → (act ≡ Some x) × (b ≡ false) × (c ≡ false) × (d ≡ false) × (e ≡ false)
allowed r s true b c d e act x is = absurd (let none : ⊥ = cc in none)
allowed r s false true c d e act x is = absurd (let none : ⊥ = cc in none)
allowed r s false false true d e act x is = absurd (let none : ⊥ = cc in none)
allowed r s false false false true e act x is = absurd (let none : ⊥ = cc in none)
allowed r s false false false false true act x is = absurd (let none : ⊥ = cc in none)
allowed r s false false false false false act x is = (is, refl, refl, refl, refl)

so : (b : Bool) → not b ≡ false → b ≡ true
so true e = refl
so false e = absurd (let none : ⊥ = cc in none)

then : (b d : Bool) → (b && not d) ≡ false → b ≡ true → d ≡ true
then true d e f = so d e
then false d e f = absurd (let none : ⊥ = cc in none)

free_of : (a : AskedCommand) (standing : Option Selection) → is_taken a standing ≡ false
    → IfSome standing (λ selection. selection.client ≡ a.client)
free_of a None e = tt
free_of a (Some s) e = eqb-true s.client a.client (so (s.client == a.client) e)

selected_for : (a : AskedCommand) (standing : Option Selection) → is_selected a standing ≡ true
    → IsSelectedFor a.client a.session a.command.action standing
selected_for a None e = absurd (let none : ⊥ = cc in none)
selected_for a (Some s) e =
    let parts = and_parts (is_own a (Some s)) (asks_same s.action a.command.action) e in
    let own = and_parts (s.client == a.client) (s.session == a.session) parts.0 in
    record {
      selection = s;
      stands = refl;
      is_its = eqb-true s.client a.client own.0;
      is_of_session = eqb-true s.session a.session own.1;
      is_same = parts.1;
    }

pub accepted : (a : AskedCommand) (control : Control) (standing : Option Selection) (v : Controls) (act : Act)
    → act_accepted a control standing v ≡ Some act → IsAccepted a control standing v act
accepted a control standing v act is =
    let k = allowed (element_refusal a.command.action control.operates) (selection_refusal a standing)
    (is_none (act_by a control)) (not a.up) (is_taken a standing)
    (control.select && not (is_selected a standing)) (is_full_at (slice_get v.outgoing control.outstation))
    (act_by a control) act is in
    record {
      intent = ap (option_map (intent_of control)) k.0;
      up = so a.up k.1;
      free = free_of a standing k.2;
      selected = λ wants. selected_for a standing (then control.select (is_selected a standing) k.3 wants);
      place = k.4;
    }

-- ---- what is answered otherwise is no order

pub confirmed_no_order : (told : Bool) → is_order (confirmed_if told) ≡ false
confirmed_no_order true = refl
confirmed_no_order false = refl
