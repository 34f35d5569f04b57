-- How many of the orders on their way pass a test.
use Rattle.std.proofs.Common.{◌≡◌, ℕ, zero, suc, ◌+◌, Bool, List, [], ◌∷◌, ◌++◌}
use Rattle.std.proofs.Common.{map, Option, Some, None, option_map, refl, ap, arith}
use Rattle.std.specs.Prelude.{slice_get}
use Rattle.std.specs.Option.{option_to_list}
use Rattle.gw_model.specs.Places.{change}
use Rattle.gw_control.specs.declared.accepted.Accepted.{Accepted}
use Rattle.gw_control.specs.declared.accepted.UnderWay.{UnderWay}
use Rattle.gw_control.specs.Moves.{one_if}
use Rattle.gw_control.specs.Orders.{Outgoing, outgoing_after_taking}
use Rattle.law_fates.specs.Fates.{Named, going_from, going_to, named_at}

abbrev pub times : (Named → Bool) → List Named → ℕ
times p [] = 0
times p (x ∷ xs) = one_if (p x) + times p xs

pub times_append : (p : Named → Bool) (xs ys : List Named) → times p (xs ++ ys) ≡ times p xs + times p ys
times_append p [] ys = omega arith
times_append p (x ∷ xs) ys = omega (arith, times_append p xs ys)

-- ---- to one outstation

-- the order that is under way
abbrev pub way_of : Option UnderWay → Option Accepted
way_of u = option_map (λ (x : UnderWay). x.accepted) u

abbrev pub way_at : Option Outgoing → Option Accepted
way_at None = None
way_at (Some q) = way_of q.under_way

abbrev pub waiting_at : Option Outgoing → List Accepted
waiting_at None = []
waiting_at (Some q) = q.waiting

abbrev pub way_so : (Named → Bool) → ℕ → Option Accepted → ℕ
way_so p o None = 0
way_so p o (Some x) = one_if (p (named_at o x))

abbrev pub waiting_so : (Named → Bool) → ℕ → List Accepted → ℕ
waiting_so p o [] = 0
waiting_so p o (x ∷ xs) = one_if (p (named_at o x)) + waiting_so p o xs

abbrev pub going_so : (Named → Bool) → ℕ → Outgoing → ℕ
going_so p o q = way_so p o (way_of q.under_way) + waiting_so p o q.waiting

abbrev pub at_so : (Named → Bool) → ℕ → Option Outgoing → ℕ
at_so p o None = 0
at_so p o (Some q) = going_so p o q

way_count : (p : Named → Bool) (o : ℕ) (u : Option UnderWay)
    → times p (map (λ (x : UnderWay). named_at o x.accepted) (option_to_list u)) ≡ way_so p o (way_of u)
way_count p o None = refl
way_count p o (Some u) = omega arith

waiting_count : (p : Named → Bool) (o : ℕ) (xs : List Accepted) → times p (map (named_at o) xs) ≡ waiting_so p o xs
waiting_count p o [] = refl
waiting_count p o (x ∷ xs) = omega (arith, waiting_count p o xs)

going_count : (p : Named → Bool) (o : ℕ) (q : Outgoing) → times p (going_to o q) ≡ going_so p o q
going_count p o q =
    omega (
      arith,
      times_append p (map (λ (x : UnderWay). named_at o x.accepted) (option_to_list q.under_way)) (map (named_at o) q.waiting),
      way_count p o q.under_way,
      waiting_count p o q.waiting,
    )

-- ---- to all of them

abbrev pub all_so : (Named → Bool) → ℕ → List Outgoing → ℕ
all_so p i [] = 0
all_so p i (q ∷ qs) = going_so p i q + all_so p (suc i) qs

pub all_count : (p : Named → Bool) (i : ℕ) (qs : List Outgoing) → times p (going_from i qs) ≡ all_so p i qs
all_count p i [] = refl
all_count p i (q ∷ qs) =
    omega (arith, times_append p (going_to i q) (going_from (suc i) qs), going_count p i q, all_count p (suc i) qs)

-- one outstation changes
pub changed : (p : Named → Bool) (i n o a b : ℕ) (f : Outgoing → Outgoing) (qs : List Outgoing) → o ≡ n + i
    → at_so p o (slice_get qs n) + a ≡ at_so p o (option_map f (slice_get qs n)) + b
    → all_so p i qs + a ≡ all_so p i (change n f qs) + b
changed p i n o a b f [] at k = omega (arith, k)
changed p i zero o a b f (q ∷ qs) at k =
    let e : o ≡ i = omega (arith, at) in
    omega (arith, k, ap (λ (j : ℕ). going_so p j q) e, ap (λ (j : ℕ). going_so p j (f q)) e)
changed p i (suc n) o a b f (q ∷ qs) at k = omega (arith, changed p (suc i) n o a b f qs (omega (arith, at)) k)

-- the first that waits goes under way, where none is: it is on its way before and after
taken : (p : Named → Bool) (o : ℕ) (xs : List Accepted) (u : Option UnderWay)
    → going_so p o (record { waiting = xs; under_way = u })
    ≡ going_so p o (outgoing_after_taking (record { waiting = xs; under_way = u }))
taken p o xs (Some u) = refl
taken p o [] None = refl
taken p o (x ∷ xs) None = omega arith

taken_at : (p : Named → Bool) (o : ℕ) (q : Option Outgoing)
    → at_so p o q + 0 ≡ at_so p o (option_map outgoing_after_taking q) + 0
taken_at p o None = refl
taken_at p o (Some q) = omega (arith, taken p o q.waiting q.under_way)

pub taking : (p : Named → Bool) (o : ℕ) (qs : List Outgoing)
    → all_so p 0 qs ≡ all_so p 0 (change o outgoing_after_taking qs)
taking p o qs =
    omega (arith, changed p 0 o o 0 0 outgoing_after_taking qs (omega arith) (taken_at p o (slice_get qs o)))
