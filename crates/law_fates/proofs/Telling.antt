-- What clients are told of orders is what became of them.
use Rattle.std.proofs.Common.{◌≡◌, ℕ, zero, suc, ◌≤◌, ◌<◌, Bool, true, false, cond, not, ◌&&◌, List, []}
use Rattle.std.proofs.Common.{◌∷◌, ◌++◌, drop, length, map, Option, Some, None, refl, sym, ap, subst, ◌∙◌, arith}
use Rattle.std.specs.Prelude.{slice_get}
use Rattle.std.specs.List.{AllByRecursion, filter}
use Rattle.std.specs.Option.{option_to_list}
use Rattle.std.proofs.lemmas.Bool.{eq-eqb, ne_eqb}
use Rattle.gw_model.specs.First.{when}
use Rattle.gw_model.specs.declared.control.Ended.{Ended}
use Rattle.gw_picture.proofs.Lists.{change-here, some_is}
use Rattle.gw_control.specs.declared.accepted.Accepted.{Accepted}
use Rattle.gw_control.specs.declared.accepted.UnderWay.{UnderWay}
use Rattle.gw_control.specs.declared.answer.Outcome.{Outcome}
use Rattle.gw_control.specs.Controls.{Controls, controls_after_lost, outcome_ended_at, outcome_lost_at, AreInOrder}
use Rattle.gw_control.specs.Orders.{Outgoing, is_named, is_numbered, numbers_of, outcome_by}
use Rattle.gw_control.specs.Orders.{outcome_of, outgoing_after_lost, IsInOrder, Rise}
use Rattle.dnp_master.specs.declared.fate.Fate.{Fate}
use Rattle.dnp_master.specs.declared.fate.Fate.TheVariants as fates
use Rattle.gw_steps.specs.declared.effects.OrderEnd.{OrderEnd}
use Rattle.gw_steps.specs.Controls.{outcome_ended, outcomes_lost}
use Rattle.gw_steps.specs.Effects.{end_at, is_of_leaving, let_go, lost_waiting, order_end}
use Rattle.law_fates.specs.Told.{is_done, is_left, is_left_at, is_let_go, is_told, told_by_end, told_by_outcome}
use Rattle.law_fates.proofs.Counts.{waiting_at, way_at, way_of}
use Rattle.law_fates.proofs.Lost.{left_waiting, shorter}
use Rattle.law_fates.proofs.Says.{Says}

-- ---- those of which somebody is told

abbrev pub told_ends : Controls → List OrderEnd → List (ℕ × Bool)
told_ends v xs = map told_by_end (filter (is_told v) xs)

abbrev pub told_outcomes : List Outcome → List (ℕ × Bool)
told_outcomes xs = map told_by_outcome xs

pub told_append : (v : Controls) (xs ys : List OrderEnd) → told_ends v (xs ++ ys) ≡ told_ends v xs ++ told_ends v ys
told_append v [] ys = refl
told_append v (x ∷ xs) ys = by (is_told v x) (told_append v xs ys)
  where
    by : (b : Bool) → told_ends v (xs ++ ys) ≡ told_ends v xs ++ told_ends v ys
        → map told_by_end (cond b (x ∷ filter (is_told v) (xs ++ ys)) (filter (is_told v) (xs ++ ys)))
        ≡ map told_by_end (cond b (x ∷ filter (is_told v) xs) (filter (is_told v) xs)) ++ told_ends v ys
    by true rest = ap (λ (zs : List (ℕ × Bool)). told_by_end x ∷ zs) rest
    by false rest = rest

-- ---- orders that are let go

gone : (v : Controls) (o : ℕ) (xs : List Accepted) → told_ends v (map (order_end o fates.LetGo) xs) ≡ []
gone v o [] = refl
gone v o (x ∷ xs) = gone v o xs

pub all_gone : (v : Controls) (leaving : List Bool) (i : ℕ) (qs : List Outgoing)
    → told_ends v (let_go leaving i qs) ≡ []
all_gone v leaving i [] = refl
all_gone v leaving i (q ∷ qs) =
    let xs : List Accepted = filter (is_of_leaving leaving) q.waiting in
    told_append v (map (order_end i fates.LetGo) xs) (let_go leaving (suc i) qs)
    ∙ (ap (λ (zs : List (ℕ × Bool)). zs ++ told_ends v (let_go leaving (suc i) qs)) (gone v i xs)
    ∙ all_gone v leaving (suc i) qs)

-- ---- the order that is under way

-- its end, by what is under way
abbrev end_way : ℕ → Fate → Ended → Option Accepted → List OrderEnd
end_way o fate e None = []
end_way o fate e (Some x) = option_to_list (when (is_numbered e.number x) (order_end o fate x))

end_by_way : (o : ℕ) (fate : Fate) (e : Ended) (q : Option Outgoing)
    → end_at o (Some fate) (Some e) q ≡ end_way o fate e (way_at q)
end_by_way o fate e None = refl
end_by_way o fate e (Some q) = by q.under_way
  where
    by : (u : Option UnderWay)
        → end_at o (Some fate) (Some e) (Some (record { waiting = q.waiting; under_way = u }))
        ≡ end_way o fate e (way_of u)
    by None = refl
    by (Some u) = refl

-- the same is told, by whether it goes with its session, was left, and is the one that ended
one_told : (x : OrderEnd) (y : Outcome) (v : Controls) (named goes left : Bool) → is_let_go x.fate ≡ goes → goes ≡ false
    → is_left_at x.order (slice_get v.outgoing x.outstation) ≡ left → told_by_end x ≡ told_by_outcome y
    → told_outcomes (option_to_list (when (named && not left) y)) ≡ told_ends v (option_to_list (when named x))
one_told x y v false goes left let_go stays leaves same = refl
one_told x y v true true left let_go stays leaves same = absurd (let no : ⊥ = cc in no)
one_told x y v true false true let_go stays leaves same = rw (let_go, leaves) refl
one_told x y v true false false let_go stays leaves same =
    rw (let_go, leaves) (ap (λ (z : ℕ × Bool). z ∷ []) (sym same))

way_told : (v : Controls) (o : ℕ) (fate : Fate) (e : Ended) (r : Option Outgoing) → is_let_go fate ≡ false
    → is_done fate ≡ e.done → slice_get v.outgoing o ≡ r
    → told_outcomes (option_to_list (outcome_ended_at e r)) ≡ told_ends v (end_way o fate e (way_at r))
way_told v o fate e None stays done at = refl
way_told v o fate e (Some q) stays done at = by q.under_way refl
  where
    by : (u : Option UnderWay) → q.under_way ≡ u
        → told_outcomes (option_to_list (outcome_by e u)) ≡ told_ends v (end_way o fate e (way_of u))
    by None is = refl
    by (Some u) is =
        let number : ℕ = u.accepted.order.number in
        one_told (order_end o fate u.accepted) (outcome_of e.done u.accepted) v (is_named e u) false u.left stays refl
        (ap (is_left_at number) at
        ∙ (ap (is_left number) is ∙ ap (λ (b : Bool). b && u.left) (eq-eqb number number refl)))
        (ap (λ (b : Bool). (u.accepted.client, b)) done)

-- where the orders that are under way are those of v
pub given_told : (v : Controls) (o : ℕ) (fate : Option Fate) (e : Option Ended) (q : Option Outgoing) → Says fate e
    → way_at (slice_get v.outgoing o) ≡ way_at q
    → told_outcomes (option_to_list (outcome_ended o e v)) ≡ told_ends v (end_at o fate e q)
given_told v o None None q says same = refl
given_told v o (Some fate) None q says same = refl
given_told v o None (Some e) q says same = absurd says
given_told v o (Some fate) (Some e) q says same =
    way_told v o fate e (slice_get v.outgoing o) says.0 says.1 refl
    ∙ sym (ap (told_ends v) (end_by_way o fate e q ∙ ap (end_way o fate e) (sym same)))

-- ---- orders that wait for an outstation that is lost

abbrev AreNotLeft : Option UnderWay → List Accepted → Type 0
AreNotLeft u xs = AllByRecursion (λ x. is_left x.order.number u ≡ false) xs

-- their numbers are above that of the one under way
above : (low high : ℕ) (u : UnderWay) (xs : List Accepted) → u.accepted.order.number ≤ low
    → Rise low high (map (λ x. x.order.number) xs) → AreNotLeft (Some u) xs
above low high u [] le rise = tt
above low high u (x ∷ xs) le rise =
    let over : low < x.order.number = rise.0 in (
      ap (λ (b : Bool). b && u.left) (ne_eqb u.accepted.order.number x.order.number (λ is. omega (arith, le, over, is))),
      above x.order.number high u xs (omega (arith, le, over)) rise.1,
    )

none_left : (xs : List Accepted) → AreNotLeft None xs
none_left [] = tt
none_left (x ∷ xs) = (refl, none_left xs)

not_left : (count : ℕ) (xs : List Accepted) (u : Option UnderWay)
    → Rise 0 count (numbers_of (record { waiting = xs; under_way = u })) → AreNotLeft u xs
not_left count xs None rise = none_left xs
not_left count xs (Some u) rise =
    above u.accepted.order.number count u xs (omega arith) rise.1

all_lost : (v : Controls) (o : ℕ) (q : Outgoing) (xs : List Accepted) → slice_get v.outgoing o ≡ Some q
    → AreNotLeft q.under_way xs
    → told_outcomes (map (outcome_of false) xs) ≡ told_ends v (map (order_end o fates.Lost) xs)
all_lost v o q [] at all = refl
all_lost v o q (x ∷ xs) at all =
    let stays : is_left_at x.order.number (slice_get v.outgoing o) ≡ false =
    ap (is_left_at x.order.number) at ∙ all.0 in
    rw stays (ap (λ (zs : List (ℕ × Bool)). (x.client, false) ∷ zs) (all_lost v o q xs at all.1))

-- one fails after the other
oldest_fails : (q : Option Outgoing)
    → option_to_list (outcome_lost_at q) ++ map (outcome_of false) (drop 1 (waiting_at q))
    ≡ map (outcome_of false) (waiting_at q)
oldest_fails None = refl
oldest_fails (Some q) = by q.waiting
  where
    by : (xs : List Accepted)
        → option_to_list (outcome_lost_at (Some (record { waiting = xs; under_way = q.under_way })))
        ++ map (outcome_of false) (drop 1 xs)
        ≡ map (outcome_of false) xs
    by [] = refl
    by (x ∷ xs) = refl

none_fails : (xs : List Accepted) → length xs ≤ 0 → [] ≡ map (outcome_of false) xs
none_fails [] few = refl
none_fails (x ∷ xs) few = absurd (omega (arith, few))

pub all_fail : (n o : ℕ) (v : Controls) → length (waiting_at (slice_get v.outgoing o)) ≤ n
    → outcomes_lost n o v ≡ map (outcome_of false) (waiting_at (slice_get v.outgoing o))
all_fail zero o v few = none_fails (waiting_at (slice_get v.outgoing o)) few
all_fail (suc n) o v few =
    let q : Option Outgoing = slice_get v.outgoing o in
    let next : Controls = controls_after_lost o v in
    let here : waiting_at (slice_get next.outgoing o) ≡ drop 1 (waiting_at q) =
    ap waiting_at (change-here o outgoing_after_lost v.outgoing) ∙ left_waiting q in
    ap (λ (ys : List Outcome). option_to_list (outcome_lost_at q) ++ ys)
    (all_fail n o next (subst (λ (xs : List Accepted). length xs ≤ n) (sym here) (shorter n (waiting_at q) few))
    ∙ ap (map (outcome_of false)) here)
    ∙ oldest_fails q

pub waiting_told : (count : ℕ) (v : Controls) (o : ℕ) (q : Option Outgoing) → slice_get v.outgoing o ≡ q
    → AreInOrder count v.outgoing
    → told_outcomes (map (outcome_of false) (waiting_at q)) ≡ told_ends v (lost_waiting o q)
waiting_told count v o None at order = refl
waiting_told count v o (Some q) at order =
    all_lost v o q q.waiting at (not_left count q.waiting q.under_way (in_order count o v.outgoing q at order).rise)
  where
    in_order : (count o : ℕ) (qs : List Outgoing) (q : Outgoing) → slice_get qs o ≡ Some q → AreInOrder count qs
        → IsInOrder count q
    in_order count o [] q at all = absurd (let no : ⊥ = cc in no)
    in_order count zero (x ∷ qs) q at all = subst (IsInOrder count) (some_is x q at) all.0
    in_order count (suc o) (x ∷ qs) q at all = in_order count o qs q at all.1
