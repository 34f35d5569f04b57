-- What is accepted holds its places until its outcome, or until its session ends.
use Rattle.std.specs.Prelude.{replicate, slice_get}
use Rattle.std.specs.List.{filter}
use Rattle.std.proofs.Common.{◌≡◌, ℕ, zero, suc, ◌+◌, ◌≤◌, ◌==◌, Bool, true, false, cond, not, ◌&&◌, ◌||◌}
use Rattle.std.proofs.Common.{List, [], ◌∷◌, ◌++◌, map, drop, length, Option, Some, None, refl, sym, ap, ◌∙◌, arith}
use Rattle.std.proofs.lemmas.Bool.{eqb-true}
use Rattle.gw_model.specs.First.{when}
use Rattle.gw_model.specs.Places.{change}
use Rattle.gw_model.specs.declared.control.Act.{Act}
use Rattle.gw_model.specs.declared.control.Ended.{Ended}
use Rattle.gw_entries.specs.declared.control.Control.{Control}
use Rattle.gw_map.specs.Settings.{Setup}
use Rattle.gw_control.specs.declared.asked.AskedCommand.{AskedCommand}
use Rattle.gw_control.specs.declared.accepted.Accepted.{Accepted}
use Rattle.gw_control.specs.declared.accepted.UnderWay.{UnderWay}
use Rattle.gw_control.specs.declared.selection.Selection.{Selection}
use Rattle.gw_control.specs.Intents.{control_for}
use Rattle.gw_control.specs.Selections.{is_own, is_select}
use Rattle.gw_control.specs.Orders.{Outgoing, is_named, is_of_others, nothing_outgoing, outcome_by}
use Rattle.gw_control.specs.Orders.{outcome_lost, outcome_of, outgoing_after_end, outgoing_after_ended}
use Rattle.gw_control.specs.Orders.{outgoing_after_lost, outgoing_after_taking, outgoing_with, places}
use Rattle.gw_control.specs.Controls.{Controls, accepted_by, act_accepted, answer_at, answer_of, answer_to_act}
use Rattle.gw_control.specs.Controls.{confirmed_if, controls_after_at, controls_after_command, controls_after_end}
use Rattle.gw_control.specs.Controls.{controls_after_ended, controls_after_lost, controls_after_taking}
use Rattle.gw_control.specs.Controls.{controls_ordering, controls_selecting, controls_unselecting}
use Rattle.gw_control.specs.Controls.{is_deactivation, is_full_at, is_order, is_selectable, no_controls_after}
use Rattle.gw_control.specs.Controls.{outcome_ended_at, outcome_lost_at, standing_at, AreInOrder}
use Rattle.gw_control.specs.Moves.{one_if, IsSoundControls}
use Rattle.gw_control.specs.Held.{controls_after_losses, is_of, orders_among, orders_in}
use Rattle.gw_control.specs.Held.{orders_of, outcomes_to, under_way_of, waiting_in, waiting_of}
use Rattle.gw_control.proofs.Keeps.{accepted, confirmed_no_order}

-- ---- one outstation

waiting_more : (c : ℕ) (x : Accepted) (ws : List Accepted)
    → waiting_of c (ws ++ x ∷ []) ≡ waiting_of c ws + one_if (is_of c x)
waiting_more c x [] = omega arith
waiting_more c x (w ∷ ws) = omega (arith, waiting_more c x ws)

taking : (c : ℕ) (ws : List Accepted) (u : Option UnderWay)
    → orders_in c (outgoing_after_taking (record { waiting = ws; under_way = u })) ≡ orders_in c
    (record { waiting = ws; under_way = u })
taking c ws (Some u) = refl
taking c [] None = refl
taking c (x ∷ xs) None = omega arith

ending : (c : ℕ) (ended : Ended) (ws : List Accepted) (u : Option UnderWay)
    → orders_in c (record { waiting = ws; under_way = u })
    ≡ orders_in c (outgoing_after_ended ended (record { waiting = ws; under_way = u }))
    + outcomes_to c (outcome_by ended u)
ending c ended ws None = omega arith
ending c ended ws (Some u) = by_name (is_named ended u) u.left
  where
    by_name : (named left : Bool)
        → waiting_of c ws + one_if (not left && is_of c u.accepted)
        ≡ waiting_of c ws + under_way_of c (cond named None (Some (record { accepted = u.accepted; left = left })))
        + outcomes_to c (when (named && not left) (outcome_of ended.done u.accepted))
    by_name true true = omega arith
    by_name true false = omega arith
    by_name false left = omega arith

losing : (c : ℕ) (ws : List Accepted) (u : Option UnderWay)
    → orders_in c (record { waiting = ws; under_way = u })
    ≡ orders_in c (outgoing_after_lost (record { waiting = ws; under_way = u }))
    + outcomes_to c (outcome_lost (record { waiting = ws; under_way = u }))
losing c [] u = omega arith
losing c (x ∷ xs) u = omega arith

-- ---- one outstation, when a session ends

others_wait : (c : ℕ) (ws : List Accepted) → waiting_of c (filter (is_of_others c) ws) ≡ 0
others_wait c [] = refl
others_wait c (x ∷ xs) = by_client (x.client == c) refl (others_wait c xs)
  where
    by_client : (own : Bool) → (x.client == c) ≡ own → waiting_of c (filter (is_of_others c) xs) ≡ 0
        → waiting_of c (cond (not own) (x ∷ filter (is_of_others c) xs) (filter (is_of_others c) xs)) ≡ 0
    by_client true e rest = rest
    by_client false e rest = let none : one_if (x.client == c) ≡ 0 = ap one_if e in omega (arith, none, rest)

left_own : (c : ℕ) (ws : List Accepted) (u : Option UnderWay)
    → orders_in c (outgoing_after_end c (record { waiting = ws; under_way = u })) ≡ 0
left_own c ws None = omega (arith, others_wait c ws)
left_own c ws (Some u) = omega (arith, others_wait c ws, none u.left (is_of c u.accepted))
  where
    none : (left own : Bool) → one_if (not (left || own) && own) ≡ 0
    none true own = refl
    none false true = refl
    none false false = refl

-- what one client asked no other did
of_one : (c d n : ℕ) → (c ≡ d → ⊥) → (n == c) ≡ true → one_if (n == d) ≡ 0
of_one c d n differ own = by_client (n == d) refl
  where
    by_client : (b : Bool) → (n == d) ≡ b → one_if b ≡ 0
    by_client true e = absurd (differ (sym (eqb-true n c own) ∙ eqb-true n d e))
    by_client false e = refl

others_stay : (c d : ℕ) → (c ≡ d → ⊥) → (ws : List Accepted)
    → waiting_of d (filter (is_of_others c) ws) ≡ waiting_of d ws
others_stay c d differ [] = refl
others_stay c d differ (x ∷ xs) = by_client (x.client == c) refl (others_stay c d differ xs)
  where
    by_client : (own : Bool) → (x.client == c) ≡ own
        → waiting_of d (filter (is_of_others c) xs) ≡ waiting_of d xs
        → waiting_of d (cond (not own) (x ∷ filter (is_of_others c) xs) (filter (is_of_others c) xs))
        ≡ waiting_of d (x ∷ xs)
    by_client true e rest = omega (arith, rest, of_one c d x.client differ e)
    by_client false e rest = omega (arith, rest)

left_other : (c d : ℕ) → (c ≡ d → ⊥) → (ws : List Accepted) (u : Option UnderWay)
    → orders_in d (outgoing_after_end c (record { waiting = ws; under_way = u })) ≡ orders_in d
    (record { waiting = ws; under_way = u })
left_other c d differ ws None = omega (arith, others_stay c d differ ws)
left_other c d differ ws (Some u) =
    omega (arith, others_stay c d differ ws, by_client (u.accepted.client == c) u.left refl)
  where
    by_client : (own left : Bool) → (u.accepted.client == c) ≡ own
        → one_if (not (left || own) && is_of d u.accepted) ≡ one_if (not left && is_of d u.accepted)
    by_client own true e = refl
    by_client true false e = sym (of_one c d u.accepted.client differ e)
    by_client false false e = refl

-- ---- all outstations

-- one more, where there is a place for it
among_more : (c n : ℕ) (x : Accepted) (os : List Outgoing) → is_full_at (slice_get os n) ≡ false
    → orders_among c (change n (outgoing_with x) os) ≡ orders_among c os + one_if (is_of c x)
among_more c n x [] place = absurd (let none : ⊥ = cc in none)
among_more c zero x (o ∷ os) place = omega (arith, waiting_more c x o.waiting)
among_more c (suc n) x (o ∷ os) place = omega (arith, among_more c n x os place)

among_taking : (c n : ℕ) (os : List Outgoing)
    → orders_among c (change n outgoing_after_taking os) ≡ orders_among c os
among_taking c n [] = refl
among_taking c zero (o ∷ os) = omega (arith, taking c o.waiting o.under_way)
among_taking c (suc n) (o ∷ os) = omega (arith, among_taking c n os)

among_ending : (c n : ℕ) (ended : Ended) (os : List Outgoing)
    → orders_among c os ≡ orders_among c (change n (outgoing_after_ended ended) os)
    + outcomes_to c (outcome_ended_at ended (slice_get os n))
among_ending c n ended [] = refl
among_ending c zero ended (o ∷ os) = omega (arith, ending c ended o.waiting o.under_way)
among_ending c (suc n) ended (o ∷ os) = omega (arith, among_ending c n ended os)

among_losing : (c n : ℕ) (os : List Outgoing)
    → orders_among c os ≡ orders_among c (change n outgoing_after_lost os)
    + outcomes_to c (outcome_lost_at (slice_get os n))
among_losing c n [] = refl
among_losing c zero (o ∷ os) = omega (arith, losing c o.waiting o.under_way)
among_losing c (suc n) (o ∷ os) = omega (arith, among_losing c n os)

among_own : (c : ℕ) (os : List Outgoing) → orders_among c (map (outgoing_after_end c) os) ≡ 0
among_own c [] = refl
among_own c (o ∷ os) = omega (arith, left_own c o.waiting o.under_way, among_own c os)

among_others : (c d : ℕ) → (c ≡ d → ⊥) → (os : List Outgoing)
    → orders_among d (map (outgoing_after_end c) os) ≡ orders_among d os
among_others c d differ [] = refl
among_others c d differ (o ∷ os) =
    omega (arith, left_other c d differ o.waiting o.under_way, among_others c d differ os)

among_none : (c n : ℕ) → orders_among c (replicate n nothing_outgoing) ≡ 0
among_none c zero = refl
among_none c (suc n) = omega (arith, among_none c n)

-- ---- commands

no_order : (b told : Bool) → told ≡ false → one_if (b && told) ≡ 0
no_order true told e = ap one_if e
no_order false told e = refl

-- what v accepts, in controls w with the same orders and as many of them before
ordering : (c : ℕ) (a : AskedCommand) (control : Control) (standing : Option Selection) (v w : Controls)
    (act : Option Act)
    → act_accepted a control standing v ≡ act → w.outgoing ≡ v.outgoing
    → orders_of c (controls_ordering a control act w)
    ≡ orders_of c w + one_if ((a.client == c) && is_order (answer_to_act w.ordered act))
ordering c a control standing v w None is same = omega (arith, no_order (a.client == c) false refl)
ordering c a control standing v w (Some act) is same =
    among_more c control.outstation (accepted_by a control act (w.ordered + 1)) w.outgoing
    (rw same (accepted a control standing v act is).place) ∙ ap (λ (b : Bool). orders_of c w + one_if b)
    (sym (and_true (a.client == c)))
  where
    and_true : (b : Bool) → (b && true) ≡ b
    and_true true = refl
    and_true false = refl

command : (setup : Setup) (c : ℕ) (a : AskedCommand) (found : Option (ℕ × Control)) (v : Controls)
    → orders_of c (controls_after_at setup a found v)
    ≡ orders_of c v + one_if ((a.client == c) && is_order (answer_at setup a found v))
command setup c a None v = omega (arith, no_order (a.client == c) false refl)
command setup c a (Some found) v =
    by_kind (is_deactivation a) (is_select a.command.action) (is_selectable a found.1 standing)
  where
    standing : Option Selection
    standing = standing_at setup a.moment found.0 v

    confirmed : (told : Bool) → orders_of c v ≡ orders_of c v + one_if
        ((a.client == c) && is_order (confirmed_if told))
    confirmed told = omega (arith, no_order (a.client == c) _ (confirmed_no_order told))

    by_kind : (deactivation select selectable : Bool) → orders_of c
        (cond deactivation (controls_unselecting a found.0 v)
        (cond select (cond selectable (controls_selecting a found.0 v) v)
        (controls_ordering a found.1 (act_accepted a found.1 standing v) (controls_unselecting a found.0 v))))
        ≡ orders_of c v + one_if ((a.client == c) && is_order
        (cond deactivation (confirmed_if (is_own a standing))
        (cond select (confirmed_if selectable) (answer_to_act v.ordered (act_accepted a found.1 standing v)))))
    by_kind true select selectable = confirmed (is_own a standing)
    by_kind false true true = confirmed true
    by_kind false true false = confirmed false
    by_kind false false selectable =
        ordering c a found.1 standing v (controls_unselecting a found.0 v) (act_accepted a found.1 standing v) refl refl

-- ---- how many hold places

pub none_held : (setup : Setup) (n c : ℕ) → orders_of c (no_controls_after n setup) ≡ 0
none_held setup n c = among_none c (length setup.outstations)

pub command_holds : (setup : Setup) (c : ℕ) (a : AskedCommand) (v : Controls)
    → orders_of c (controls_after_command setup a v)
    ≡ orders_of c v + one_if ((a.client == c) && is_order (answer_of setup a v))
command_holds setup c a v = command setup c a (control_for setup a.command) v

pub taking_holds : (c outstation : ℕ) (v : Controls) → orders_of c (controls_after_taking outstation v) ≡ orders_of c v
taking_holds c outstation v = among_taking c outstation v.outgoing

pub ended_frees : (c outstation : ℕ) (ended : Ended) (v : Controls)
    → orders_of c v ≡ orders_of c (controls_after_ended outstation ended v)
    + outcomes_to c (outcome_ended_at ended (slice_get v.outgoing outstation))
ended_frees c outstation ended v = among_ending c outstation ended v.outgoing

pub lost_frees : (c outstation : ℕ) (v : Controls)
    → orders_of c v ≡ orders_of c (controls_after_lost outstation v)
    + outcomes_to c (outcome_lost_at (slice_get v.outgoing outstation))
lost_frees c outstation v = among_losing c outstation v.outgoing

pub end_frees_own : (c : ℕ) (v : Controls) → orders_of c (controls_after_end c v) ≡ 0
end_frees_own c v = among_own c v.outgoing

pub end_keeps_others : (c d : ℕ) → (c ≡ d → ⊥) → (v : Controls) → orders_of d (controls_after_end c v) ≡ orders_of d v
end_keeps_others c d differ v = among_others c d differ v.outgoing

-- ---- an outstation that is lost

one_less : (n p : ℕ) (os : List Outgoing) → waiting_in (slice_get os p) ≤ suc n
    → waiting_in (slice_get (change p outgoing_after_lost os) p) ≤ n
one_less n p [] few = omega arith
one_less n zero (o ∷ os) few = shorter o.waiting few
  where
    shorter : (ws : List Accepted) → length ws ≤ suc n → length (drop 1 ws) ≤ n
    shorter [] few = omega arith
    shorter (x ∷ xs) few = omega (arith, few)
one_less n (suc p) (o ∷ os) few = one_less n p os few

-- where as many fail as wait, none waits any more
pub lost_empties : (n outstation : ℕ) (v : Controls) → waiting_in (slice_get v.outgoing outstation) ≤ n
    → waiting_in (slice_get (controls_after_losses n outstation v).outgoing outstation) ≡ 0
lost_empties zero outstation v few = omega (arith, few)
lost_empties (suc n) outstation v few =
    lost_empties n outstation (controls_after_lost outstation v) (one_less n outstation v.outgoing few)

few_wait : (count n : ℕ) (os : List Outgoing) → AreInOrder count os → waiting_in (slice_get os n) ≤ places
few_wait count n [] all = omega arith
few_wait count zero (o ∷ os) all = all.0.few
few_wait count (suc n) (o ∷ os) all = few_wait count n os all.1

none_fails : (o : Option Outgoing) → waiting_in o ≡ 0 → outcome_lost_at o ≡ None
none_fails None none = refl
none_fails (Some o) none = oldest o.waiting none
  where
    oldest : (ws : List Accepted) → length ws ≡ 0
        → outcome_lost (record { waiting = ws; under_way = o.under_way }) ≡ None
    oldest [] none = refl
    oldest (x ∷ xs) none = absurd (let none : ⊥ = cc in none)

-- once 16 failed
pub losses_end : (setup : Setup) (outstation : ℕ) (v : Controls) → IsSoundControls setup v
    → outcome_lost_at (slice_get (controls_after_losses places outstation v).outgoing outstation) ≡ None
losses_end setup outstation v k =
    none_fails _ (lost_empties places outstation v (few_wait v.ordered outstation v.outgoing k.orders))
