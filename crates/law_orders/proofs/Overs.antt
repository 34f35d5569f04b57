-- Orders that are over: the one under way, or all of an outstation that is lost.
use Rattle.std.proofs.Common.{◌≡◌, ℕ, zero, suc, ◌≤◌, Bool, true, false, cond, not, ◌&&◌, List, [], ◌∷◌}
use Rattle.std.proofs.Common.{◌++◌, length, map, Option, Some, None, option_map, refl, sym, ap, subst, ◌∙◌, arith}
use Rattle.std.specs.Prelude.{option_and_then, slice_get}
use Rattle.std.specs.List.{AllByRecursion, filter}
use Rattle.std.specs.Option.{option_to_list}
use Rattle.std.proofs.lemmas.List.{append-nil, map-append}
use Rattle.gw_model.specs.declared.control.Ended.{Ended}
use Rattle.gw_picture.proofs.Lists.{change-here}
use Rattle.gw_control.specs.declared.accepted.Accepted.{Accepted}
use Rattle.gw_control.specs.declared.accepted.UnderWay.{UnderWay}
use Rattle.gw_control.specs.declared.answer.Outcome.{Outcome}
use Rattle.gw_control.specs.Controls.{Controls, controls_after_lost}
use Rattle.gw_control.specs.Held.{controls_after_losses}
use Rattle.gw_control.specs.Orders.{Outgoing, is_named, outcome_at, outcome_lost, outcome_of, outgoing_after_lost, under_way_after}
use Rattle.gw_steps.specs.Controls.{outcome_ended, outcomes_lost}
use Rattle.gw_steps.specs.Runs.{Entry}
use Rattle.law_orders.specs.Marks.{marks}
use Rattle.law_orders.specs.ToldOnce.{was_done}
use Rattle.law_orders.proofs.Ends.{ended_at}
use Rattle.law_orders.proofs.Held.{under_way_at, waiting_at}
use Rattle.law_orders.specs.Pending.{Pending}
use Rattle.law_orders.specs.Outcomes.{Telling, telling_by, telling_of}
use Rattle.law_orders.proofs.Rows.{row_under_way, row_waiting, rows, rows_in}

-- an order that ended is the one under way
abbrev pub names_way : Option Ended → UnderWay → Bool
names_way None u = false
names_way (Some e) u = is_named e u

-- this is over: the order under way where it is named, and none that waits
pub record EndsWay (over : Pending → Bool) (e : Option Ended) (q : Option Outgoing) : Type 0 where
  pub waiting : AllByRecursion (λ x. over (row_waiting x) ≡ false) (waiting_at q)
  pub under_way : (u : UnderWay) → under_way_at q ≡ Some u → over (row_under_way u) ≡ names_way e u

-- ---- what goes on

all_go_on : (over : Pending → Bool) (xs : List Accepted) → AllByRecursion (λ x. over (row_waiting x) ≡ false) xs
    → map row_waiting xs ≡ filter (λ p. not (over p)) (map row_waiting xs)
all_go_on over [] all = refl
all_go_on over (x ∷ xs) all =
    rw all.0 (ap (λ (ps : List Pending). row_waiting x ∷ ps) (all_go_on over xs all.1))

way_goes_on : (over : Pending → Bool) (e : Option Ended) (u : UnderWay) (xs : List Accepted) (named : Bool)
    → over (row_under_way u) ≡ named → names_way e u ≡ named
    → AllByRecursion (λ x. over (row_waiting x) ≡ false) xs
    → rows (ended_at e (Some (record { waiting = xs; under_way = Some u })))
    ≡ filter (λ p. not (over p)) (row_under_way u ∷ map row_waiting xs)
way_goes_on over None u xs true is named all = absurd (let no : ⊥ = cc in no)
way_goes_on over None u xs false is named all =
    rw is (ap (λ (ps : List Pending). row_under_way u ∷ ps) (all_go_on over xs all))
way_goes_on over (Some e) u xs true is named all = rw (is, named) (all_go_on over xs all)
way_goes_on over (Some e) u xs false is named all =
    rw (is, named) (ap (λ (ps : List Pending). row_under_way u ∷ ps) (all_go_on over xs all))

nobody_ends : (e : Option Ended) (xs : List Accepted)
    → rows (ended_at e (Some (record { waiting = xs; under_way = None }))) ≡ map row_waiting xs
nobody_ends None xs = refl
nobody_ends (Some e) xs = refl

ends_in : (over : Pending → Bool) (e : Option Ended) (u : Option UnderWay) (xs : List Accepted)
    → EndsWay over e (Some (record { waiting = xs; under_way = u }))
    → rows (ended_at e (Some (record { waiting = xs; under_way = u }))) ≡ filter (λ p. not (over p)) (rows_in u xs)
ends_in over e None xs k = nobody_ends e xs ∙ all_go_on over xs k.waiting
ends_in over e (Some u) xs k = way_goes_on over e u xs (names_way e u) (k.under_way u refl) refl k.waiting

no_orders : (over : Pending → Bool) (e : Option Ended) → rows (ended_at e None) ≡ filter (λ p. not (over p)) []
no_orders over None = refl
no_orders over (Some e) = refl

pub rows_ended : (over : Pending → Bool) (e : Option Ended) (q : Option Outgoing) → EndsWay over e q
    → rows (ended_at e q) ≡ filter (λ p. not (over p)) (rows q)
rows_ended over e None k = no_orders over e
rows_ended over e (Some q) k = ends_in over e q.under_way q.waiting k

-- ---- what is told

abbrev pub outcome_in : Option Ended → Option Outgoing → Option Outcome
outcome_in None q = None
outcome_in (Some e) q = option_and_then (outcome_at e) q

pub outcome_there : (o : ℕ) (e : Option Ended) (v : Controls)
    → outcome_ended o e v ≡ outcome_in e (slice_get v.outgoing o)
outcome_there o None v = refl
outcome_there o (Some e) v = refl

-- the order under way is done or not as its marks say
abbrev pub SaysDone : List Entry → Option Ended → Option Outgoing → Type 0
SaysDone past None q = Unit {0}
SaysDone past (Some e) q = (u : UnderWay) → under_way_at q ≡ Some u → is_named e u ≡ true
    → e.done ≡ was_done (marks u.accepted.order.number past)

-- whether an order is told of
abbrev pub tells : (Pending → Bool) → Pending → Bool
tells over p = over p && not p.left

abbrev pub all_told : (Pending → Bool) → List Entry → List Pending → List Telling
all_told over past ps = map (telling_by past) (filter (tells over) ps)

none_told : (over : Pending → Bool) (past : List Entry) (xs : List Accepted)
    → AllByRecursion (λ x. over (row_waiting x) ≡ false) xs
    → all_told over past (map row_waiting xs) ≡ []
none_told over past [] all = refl
none_told over past (x ∷ xs) all = rw all.0 (none_told over past xs all.1)

-- the order under way, before others
way_told : (over : Pending → Bool) (past : List Entry) (e : Option Ended) (u : UnderWay) (xs : List Accepted)
    (ps : List Pending) (named left : Bool) → over (row_under_way u) ≡ named → names_way e u ≡ named → u.left ≡ left
    → SaysDone past e (Some (record { waiting = xs; under_way = Some u }))
    → map telling_of (option_to_list (outcome_in e (Some (record { waiting = xs; under_way = Some u }))))
    ++ all_told over past ps
    ≡ all_told over past (row_under_way u ∷ ps)
way_told over past None u xs ps true left is named gone says = absurd (let no : ⊥ = cc in no)
way_told over past None u xs ps false left is named gone says = rw is refl
way_told over past (Some e) u xs ps false left is named gone says = rw (is, named) refl
way_told over past (Some e) u xs ps true true is named gone says = rw (is, named, gone) refl
way_told over past (Some e) u xs ps true false is named gone says =
    rw (is, named, gone, sym (says u refl named)) refl

nobody_tells : (e : Option Ended) (xs : List Accepted)
    → outcome_in e (Some (record { waiting = xs; under_way = None })) ≡ None
nobody_tells None xs = refl
nobody_tells (Some e) xs = refl

told_in : (over : Pending → Bool) (past : List Entry) (e : Option Ended) (u : Option UnderWay) (xs : List Accepted)
    → EndsWay over e (Some (record { waiting = xs; under_way = u }))
    → SaysDone past e (Some (record { waiting = xs; under_way = u }))
    → map telling_of (option_to_list (outcome_in e (Some (record { waiting = xs; under_way = u }))))
    ≡ all_told over past (rows_in u xs)
told_in over past e None xs k says =
    ap (λ (x : Option Outcome). map telling_of (option_to_list x)) (nobody_tells e xs)
    ∙ sym (none_told over past xs k.waiting)
told_in over past e (Some u) xs k says =
    let first : List Telling =
    map telling_of (option_to_list (outcome_in e (Some (record { waiting = xs; under_way = Some u })))) in
    sym (append-nil first)
    ∙ (ap (λ (ys : List Telling). first ++ ys) (sym (none_told over past xs k.waiting))
    ∙ way_told over past e u xs (map row_waiting xs) (names_way e u) u.left (k.under_way u refl) refl refl says)

no_outcome : (e : Option Ended) → outcome_in e None ≡ None
no_outcome None = refl
no_outcome (Some e) = refl

pub rows_told : (over : Pending → Bool) (past : List Entry) (e : Option Ended) (q : Option Outgoing)
    → EndsWay over e q → SaysDone past e q
    → map telling_of (option_to_list (outcome_in e q))
    ≡ all_told over past (rows q)
rows_told over past e None k says =
    ap (λ (x : Option Outcome). map telling_of (option_to_list x)) (no_outcome e)
rows_told over past e (Some q) k says = told_in over past e q.under_way q.waiting k says

-- ---- an outstation is lost

abbrev lost_times : ℕ → Option Outgoing → Option Outgoing
lost_times zero q = q
lost_times (suc n) q = lost_times n (option_map outgoing_after_lost q)

abbrev outcomes_times : ℕ → Option Outgoing → List Outcome
outcomes_times zero q = []
outcomes_times (suc n) q =
    option_to_list (option_and_then outcome_lost q) ++ outcomes_times n (option_map outgoing_after_lost q)

losses_at : (n o : ℕ) (v : Controls)
    → slice_get (controls_after_losses n o v).outgoing o ≡ lost_times n (slice_get v.outgoing o)
losses_at zero o v = refl
losses_at (suc n) o v =
    losses_at n o (controls_after_lost o v) ∙ ap (lost_times n) (change-here o outgoing_after_lost v.outgoing)

lost_at : (n o : ℕ) (v : Controls) → outcomes_lost n o v ≡ outcomes_times n (slice_get v.outgoing o)
lost_at zero o v = refl
lost_at (suc n) o v =
    ap (λ (xs : List Outcome). option_to_list (option_and_then outcome_lost (slice_get v.outgoing o)) ++ xs)
    (lost_at n o (controls_after_lost o v)
    ∙ ap (outcomes_times n) (change-here o outgoing_after_lost v.outgoing))

emptied : (n : ℕ) (xs : List Accepted) → length xs ≤ n
    → rows (lost_times n (Some (record { waiting = xs; under_way = None }))) ≡ []
emptied zero [] few = refl
emptied zero (x ∷ xs) few = absurd (omega (arith, few))
emptied (suc n) [] few = emptied n [] (omega arith)
emptied (suc n) (x ∷ xs) few = emptied n xs (omega (arith, few))

nothing_lost : (n : ℕ) → rows (lost_times n None) ≡ []
nothing_lost zero = refl
nothing_lost (suc n) = nothing_lost n

all_fail : (n : ℕ) (u : Option UnderWay) (xs : List Accepted) → length xs ≤ n
    → outcomes_times n (Some (record { waiting = xs; under_way = u })) ≡ map (outcome_of false) xs
all_fail zero u [] few = refl
all_fail zero u (x ∷ xs) few = absurd (omega (arith, few))
all_fail (suc n) u [] few = all_fail n u [] (omega arith)
all_fail (suc n) u (x ∷ xs) few =
    ap (λ (ys : List Outcome). outcome_of false x ∷ ys) (all_fail n u xs (omega (arith, few)))

none_fails : (n : ℕ) → outcomes_times n None ≡ []
none_fails zero = refl
none_fails (suc n) = none_fails n

-- so many may wait
abbrev pub HasFew : ℕ → Option Outgoing → Type 0
HasFew n q = length (waiting_at q) ≤ n

lost_rows : (n : ℕ) (q : Option Outgoing) → under_way_at q ≡ None → HasFew n q → rows (lost_times n q) ≡ []
lost_rows n None none few = nothing_lost n
lost_rows n (Some q) none few =
    subst (λ (u : Option UnderWay). rows (lost_times n (Some (record { waiting = q.waiting; under_way = u }))) ≡ [])
    (sym none) (emptied n q.waiting few)

lost_outcomes : (n : ℕ) (q : Option Outgoing) → HasFew n q → outcomes_times n q ≡ map (outcome_of false) (waiting_at q)
lost_outcomes n None few = none_fails n
lost_outcomes n (Some q) few = all_fail n q.under_way q.waiting few

-- nothing is left
pub nothing_left : (n o : ℕ) (v : Controls) → under_way_at (slice_get v.outgoing o) ≡ None
    → HasFew n (slice_get v.outgoing o) → rows (slice_get (controls_after_losses n o v).outgoing o) ≡ []
nothing_left n o v none few =
    ap rows (losses_at n o v) ∙ lost_rows n (slice_get v.outgoing o) none few

-- all that wait fail
pub waiting_fail : (n o : ℕ) (v : Controls) → HasFew n (slice_get v.outgoing o)
    → outcomes_lost n o v ≡ map (outcome_of false) (waiting_at (slice_get v.outgoing o))
waiting_fail n o v few = lost_at n o v ∙ lost_outcomes n (slice_get v.outgoing o) few

-- the order under way ended where it is gone
pub gone_named : (e : Option Ended) (q : Option Outgoing) (u : UnderWay) → under_way_at q ≡ Some u
    → under_way_at (ended_at e q) ≡ None → names_way e u ≡ true
gone_named None q u at gone = absurd (let both : Some u ≡ None = sym at ∙ gone in let no : ⊥ = cc in no)
gone_named (Some e) None u at gone = absurd (let no : ⊥ = cc in no)
gone_named (Some e) (Some q) u at gone = by (is_named e u) (sym (ap (under_way_after e) at) ∙ gone)
  where
    by : (b : Bool) → cond b None (Some u) ≡ None → b ≡ true
    by true none = refl
    by false none = absurd (let no : ⊥ = cc in no)

-- ---- what is told of an outstation that is lost

waiting_told : (over : Pending → Bool) (past : List Entry) (xs : List Accepted) → ((p : Pending) → over p ≡ true)
    → AllByRecursion (λ x. marks x.order.number past ≡ []) xs
    → map telling_of (map (outcome_of false) xs) ≡ all_told over past (map row_waiting xs)
waiting_told over past [] all unmarked = refl
waiting_told over past (x ∷ xs) all unmarked =
    rw (all (row_waiting x), unmarked.0)
    (ap (λ (ys : List Telling). telling_of (outcome_of false x) ∷ ys) (waiting_told over past xs all unmarked.1))

lost_in : (over : Pending → Bool) (past : List Entry) (e : Option Ended) (u : Option UnderWay) (xs : List Accepted)
    → ((p : Pending) → over p ≡ true) → ((way : UnderWay) → u ≡ Some way → names_way e way ≡ true)
    → AllByRecursion (λ x. marks x.order.number past ≡ []) xs
    → SaysDone past e (Some (record { waiting = xs; under_way = u }))
    → map telling_of (option_to_list (outcome_in e (Some (record { waiting = xs; under_way = u }))))
    ++ map telling_of (map (outcome_of false) xs)
    ≡ all_told over past (rows_in u xs)
lost_in over past e None xs all named unmarked says =
    ap (λ (x : Option Outcome). map telling_of (option_to_list x) ++ map telling_of (map (outcome_of false) xs))
    (nobody_tells e xs)
    ∙ waiting_told over past xs all unmarked
lost_in over past e (Some u) xs all named unmarked says =
    let first : List Telling =
    map telling_of (option_to_list (outcome_in e (Some (record { waiting = xs; under_way = Some u })))) in
    ap (λ (ys : List Telling). first ++ ys) (waiting_told over past xs all unmarked)
    ∙ way_told over past e u xs (map row_waiting xs) true u.left (all (row_under_way u)) (named u refl) refl says

pub rows_lost : (over : Pending → Bool) (past : List Entry) (e : Option Ended) (q : Option Outgoing)
    → ((p : Pending) → over p ≡ true) → under_way_at (ended_at e q) ≡ None
    → AllByRecursion (λ x. marks x.order.number past ≡ []) (waiting_at q) → SaysDone past e q
    → map telling_of (option_to_list (outcome_in e q) ++ map (outcome_of false) (waiting_at q))
    ≡ all_told over past (rows q)
rows_lost over past e None all gone unmarked says =
    ap (λ (x : Option Outcome). map telling_of (option_to_list x ++ [])) (no_outcome e)
rows_lost over past e (Some q) all gone unmarked says =
    map-append telling_of (option_to_list (outcome_in e (Some q))) (map (outcome_of false) q.waiting)
    ∙ lost_in over past e q.under_way q.waiting all (λ way at. gone_named e (Some q) way at gone) unmarked says
