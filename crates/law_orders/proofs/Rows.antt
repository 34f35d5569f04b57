-- The orders of the state towards one outstation, as pending ones: the one under way, and then those that wait.
use Rattle.std.proofs.Common.{◌≡◌, ℕ, Bool, true, false, cond, not, ◌||◌, List, [], ◌∷◌}
use Rattle.std.proofs.Common.{◌++◌, map, Option, Some, None, option_map, refl, ap, ◌∙◌}
use Rattle.std.proofs.Math.Bool.{or-false}
use Rattle.std.specs.List.{AllByRecursion, filter}
use Rattle.gw_control.specs.declared.accepted.Accepted.{Accepted}
use Rattle.gw_control.specs.declared.accepted.UnderWay.{UnderWay}
use Rattle.gw_control.specs.Orders.{Outgoing, outgoing_with}
use Rattle.gw_steps.specs.Runs.{Entry}
use Rattle.law_orders.specs.Marks.{marks}
use Rattle.law_orders.proofs.Held.{under_way_at, waiting_at}
use Rattle.law_orders.specs.Pending.{Pending, after_sessions, is_marked, leaving, stays}

abbrev pub row_waiting : Accepted → Pending
row_waiting x = record { number = x.order.number; client = x.client; command = x.command; left = false }

abbrev pub row_under_way : UnderWay → Pending
row_under_way u =
    record { number = u.accepted.order.number; client = u.accepted.client; command = u.accepted.command; left = u.left }

abbrev pub rows_in : Option UnderWay → List Accepted → List Pending
rows_in None xs = map row_waiting xs
rows_in (Some u) xs = row_under_way u ∷ map row_waiting xs

abbrev pub rows : Option Outgoing → List Pending
rows q = rows_in (under_way_at q) (waiting_at q)

-- nothing was asked for those that wait, and something for the one under way
pub record Marked (past : List Entry) (q : Option Outgoing) : Type 0 where
  pub waiting : AllByRecursion (λ x. marks x.order.number past ≡ []) (waiting_at q)
  pub under_way : (u : UnderWay) → under_way_at q ≡ Some u → is_marked (marks u.accepted.order.number past) ≡ true

-- ---- truth

pub or_true : (b : Bool) → b || true ≡ true
or_true true = refl
or_true false = refl

or_either : (a b c : Bool) → (a || b) || c ≡ a || (b || c)
or_either true b c = refl
or_either false b c = refl

-- ---- no session ends

abbrev pub quiet : ℕ → Bool
quiet c = false

pub none_leaves : (past : List Entry) (ps : List Pending) → after_sessions quiet past ps ≡ ps
none_leaves past [] = refl
none_leaves past (p ∷ ps) =
    rw (or_true (is_marked (marks p.number past)), none_leaves past ps, or-false p.left) refl

-- ---- sessions end

-- an outstation's orders after these sessions end
abbrev pub outgoing_ending : (ℕ → Bool) → Outgoing → Outgoing
outgoing_ending ends q = record {
  waiting = filter (λ x. not (ends x.client)) q.waiting;
  under_way = option_map {U = UnderWay} (λ u. record u { left = u.left || ends u.accepted.client }) q.under_way;
}

waiting_leave : (ends : ℕ → Bool) (past : List Entry) (xs : List Accepted)
    → AllByRecursion (λ x. marks x.order.number past ≡ []) xs
    → map row_waiting (filter (λ x. not (ends x.client)) xs) ≡ after_sessions ends past (map row_waiting xs)
waiting_leave ends past [] all = refl
waiting_leave ends past (x ∷ xs) all = by (waiting_leave ends past xs all.1) (ends x.client) refl
  where
    by : map row_waiting (filter (λ y. not (ends y.client)) xs) ≡ after_sessions ends past (map row_waiting xs)
        → (b : Bool) → ends x.client ≡ b
        → map row_waiting (filter (λ y. not (ends y.client)) (x ∷ xs))
        ≡ after_sessions ends past (map row_waiting (x ∷ xs))
    by rest true is = rw (all.0, is) rest
    by rest false is = rw (all.0, is, is) (ap (λ (ps : List Pending). row_waiting x ∷ ps) rest)

one_leaves : (ends : ℕ → Bool) (past : List Entry) (u : Option UnderWay) (xs : List Accepted)
    → Marked past (Some (record { waiting = xs; under_way = u }))
    → rows (Some (outgoing_ending ends (record { waiting = xs; under_way = u })))
    ≡ after_sessions ends past (rows (Some (record { waiting = xs; under_way = u })))
one_leaves ends past None xs marked = waiting_leave ends past xs marked.waiting
one_leaves ends past (Some u) xs marked =
    rw (marked.under_way u refl)
    (ap (λ (ps : List Pending). row_under_way (record u { left = u.left || ends u.accepted.client }) ∷ ps)
    (waiting_leave ends past xs marked.waiting))

pub rows_leave : (ends : ℕ → Bool) (past : List Entry) (q : Option Outgoing) → Marked past q
    → rows (option_map (outgoing_ending ends) q) ≡ after_sessions ends past (rows q)
rows_leave ends past None marked = refl
rows_leave ends past (Some q) marked = one_leaves ends past q.under_way q.waiting marked

-- first those of some clients, then those of others
pub leave_both : (a b : ℕ → Bool) (past : List Entry) (ps : List Pending)
    → after_sessions b past (after_sessions a past ps) ≡ after_sessions (λ c. a c || b c) past ps
leave_both a b past [] = refl
leave_both a b past (p ∷ ps) =
    by (leave_both a b past ps) (is_marked (marks p.number past)) refl (a p.client) refl (b p.client) refl
  where
    by : after_sessions b past (after_sessions a past ps) ≡ after_sessions (λ c. a c || b c) past ps
        → (m : Bool) → is_marked (marks p.number past) ≡ m → (x : Bool) → a p.client ≡ x → (y : Bool) → b p.client ≡ y
        → after_sessions b past (after_sessions a past (p ∷ ps)) ≡ after_sessions (λ c. a c || b c) past (p ∷ ps)
    by rest true marked x is y is_too =
        rw (marked, marked)
        (ap (λ (qs : List Pending). leaving b (leaving a p) ∷ qs) rest
        ∙ ap (λ (l : Bool). record p { left = l } ∷ after_sessions (λ c. a c || b c) past ps)
        (or_either p.left (a p.client) (b p.client)))
    by rest false marked true is y is_too = rw (marked, is) rest
    by rest false marked false is true is_too = rw (marked, is, marked, is_too) rest
    by rest false marked false is false is_too =
        rw (marked, is, marked, is_too)
        (ap (λ (qs : List Pending). leaving b (leaving a p) ∷ qs) rest
        ∙ ap (λ (l : Bool). record p { left = l } ∷ after_sessions (λ c. a c || b c) past ps)
        (or_either p.left (a p.client) (b p.client)))

-- the same sessions
pub leave_alike : (a b : ℕ → Bool) (past : List Entry) (ps : List Pending) → ((c : ℕ) → a c ≡ b c)
    → after_sessions a past ps ≡ after_sessions b past ps
leave_alike a b past [] same = refl
leave_alike a b past (p ∷ ps) same = rw (same p.client) (by (leave_alike a b past ps same) (stays b past p))
  where
    by : after_sessions a past ps ≡ after_sessions b past ps → (keep : Bool)
        → map (leaving a) (cond keep (p ∷ filter (stays a past) ps) (filter (stays a past) ps))
        ≡ map (leaving b) (cond keep (p ∷ filter (stays b past) ps) (filter (stays b past) ps))
    by rest true = rw (same p.client) (ap (λ (qs : List Pending). leaving b p ∷ qs) rest)
    by rest false = rest

-- ---- an order more

map_with : (xs : List Accepted) (x : Accepted)
    → map row_waiting (xs ++ x ∷ []) ≡ map row_waiting xs ++ row_waiting x ∷ []
map_with [] x = refl
map_with (y ∷ ys) x = ap (λ (ps : List Pending). row_waiting y ∷ ps) (map_with ys x)

more_in : (u : Option UnderWay) (xs : List Accepted) (x : Accepted)
    → rows_in u (xs ++ x ∷ []) ≡ rows_in u xs ++ row_waiting x ∷ []
more_in None xs x = map_with xs x
more_in (Some u) xs x = ap (λ (ps : List Pending). row_under_way u ∷ ps) (map_with xs x)

pub rows_with : (x : Accepted) (q : Outgoing) → rows (Some (outgoing_with x q)) ≡ rows (Some q) ++ row_waiting x ∷ []
rows_with x q = more_in q.under_way q.waiting x
