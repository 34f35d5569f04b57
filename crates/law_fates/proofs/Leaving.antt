-- Sessions end: the orders that wait of their clients are let go, and no others.
use Rattle.std.proofs.Common.{◌≡◌, ℕ, zero, suc, ◌+◌, ◌<◌, Bool, true, false, cond, not, ◌&&◌, ◌||◌, List, []}
use Rattle.std.proofs.Common.{◌∷◌, map, Option, Some, None, option_map, refl, sym, ap, subst, ◌∙◌, arith, inl, inr}
use Rattle.std.specs.Prelude.{◌==◌, replicate, slice_get}
use Rattle.std.specs.List.{filter}
use Rattle.std.proofs.lemmas.Bool.{cases_eq, eq-eqb, ne_eqb}
use Rattle.gw_model.specs.Places.{change}
use Rattle.gw_picture.proofs.Lists.{change-here, change-there, map-get}
use Rattle.gw_control.specs.declared.accepted.Accepted.{Accepted}
use Rattle.gw_control.specs.declared.accepted.UnderWay.{UnderWay}
use Rattle.gw_control.specs.Controls.{Controls, controls_after_end}
use Rattle.gw_control.specs.Moves.{one_if}
use Rattle.gw_control.specs.Orders.{Outgoing, is_of_others, left_by, outgoing_after_end}
use Rattle.dnp_master.specs.declared.fate.Fate.TheVariants as fates
use Rattle.gw_steps.specs.Controls.{controls_after_closes}
use Rattle.gw_steps.specs.Effects.{ending_of, is_of_leaving, is_so, let_go, only, order_end}
use Rattle.gw_steps.specs.State.{State, client_limit}
use Rattle.law_history.proofs.Bits.{closing, closing_at}
use Rattle.law_fates.specs.Fates.{Named, named_at, named_by}
use Rattle.law_fates.proofs.Counts.{all_so, times, waiting_so, way_at, way_of, way_so}
use Rattle.law_fates.proofs.Ended.{ends_append}

-- ---- those that wait of clients that leave

abbrev pub left_so : (Named → Bool) → (ℕ → Bool) → ℕ → List Accepted → ℕ
left_so p leaves o [] = 0
left_so p leaves o (x ∷ xs) = one_if (leaves x.client && p (named_at o x)) + left_so p leaves o xs

abbrev pub all_left : (Named → Bool) → (ℕ → Bool) → ℕ → List Outgoing → ℕ
all_left p leaves i [] = 0
all_left p leaves i (q ∷ qs) = left_so p leaves i q.waiting + all_left p leaves (suc i) qs

-- the clients of which it is told that they leave
abbrev pub told_leaving : List Bool → ℕ → Bool
told_leaving leaving c = is_so (slice_get leaving c)

-- ---- what is told

let_go_at : (p : Named → Bool) (leaving : List Bool) (o : ℕ) (xs : List Accepted)
    → times p (map named_by (map (order_end o fates.LetGo) (filter (is_of_leaving leaving) xs)))
    ≡ left_so p (told_leaving leaving) o xs
let_go_at p leaving o [] = refl
let_go_at p leaving o (x ∷ xs) = by (is_of_leaving leaving x) (let_go_at p leaving o xs)
  where
    by : (b : Bool)
        → times p (map named_by (map (order_end o fates.LetGo) (filter (is_of_leaving leaving) xs)))
        ≡ left_so p (told_leaving leaving) o xs
        → times p (map named_by (map (order_end o fates.LetGo)
        (cond b (x ∷ filter (is_of_leaving leaving) xs) (filter (is_of_leaving leaving) xs))))
        ≡ one_if (b && p (named_at o x)) + left_so p (told_leaving leaving) o xs
    by true rest = omega (arith, rest)
    by false rest = omega (arith, rest)

pub let_go_told : (p : Named → Bool) (leaving : List Bool) (i : ℕ) (qs : List Outgoing)
    → times p (map named_by (let_go leaving i qs)) ≡ all_left p (told_leaving leaving) i qs
let_go_told p leaving i [] = refl
let_go_told p leaving i (q ∷ qs) =
    omega (
      arith,
      ends_append p (map (order_end i fates.LetGo) (filter (is_of_leaving leaving) q.waiting)) (let_go leaving (suc i) qs),
      let_go_at p leaving i q.waiting,
      let_go_told p leaving (suc i) qs,
    )

-- ---- one session ends

left_here : (p : Named → Bool) (c o : ℕ) (xs : List Accepted)
    → waiting_so p o xs ≡ waiting_so p o (filter (is_of_others c) xs) + left_so p (λ d. d == c) o xs
left_here p c o [] = refl
left_here p c o (x ∷ xs) = by (x.client == c) (left_here p c o xs)
  where
    by : (own : Bool)
        → waiting_so p o xs ≡ waiting_so p o (filter (is_of_others c) xs) + left_so p (λ d. d == c) o xs
        → one_if (p (named_at o x)) + waiting_so p o xs
        ≡ waiting_so p o (cond (not own) (x ∷ filter (is_of_others c) xs) (filter (is_of_others c) xs))
        + (one_if (own && p (named_at o x)) + left_so p (λ d. d == c) o xs)
    by true rest = omega (arith, rest)
    by false rest = omega (arith, rest)

-- the one under way stays
left_way : (c : ℕ) (u : Option UnderWay) → way_of (option_map (left_by c) u) ≡ way_of u
left_way c None = refl
left_way c (Some u) = refl

pub session_ends : (p : Named → Bool) (c i : ℕ) (qs : List Outgoing)
    → all_so p i qs ≡ all_so p i (map (outgoing_after_end c) qs) + all_left p (λ d. d == c) i qs
session_ends p c i [] = refl
session_ends p c i (q ∷ qs) =
    omega (
      arith,
      left_here p c i q.waiting,
      ap (way_so p i) (left_way c q.under_way),
      session_ends p c (suc i) qs,
    )

-- ---- several end

left_alike : (p : Named → Bool) (f g : ℕ → Bool) (o : ℕ) (xs : List Accepted) → ((c : ℕ) → f c ≡ g c)
    → left_so p f o xs ≡ left_so p g o xs
left_alike p f g o [] same = refl
left_alike p f g o (x ∷ xs) same =
    omega (
      arith,
      ap (λ (b : Bool). one_if (b && p (named_at o x))) (same x.client),
      left_alike p f g o xs same,
    )

pub all_alike : (p : Named → Bool) (f g : ℕ → Bool) (i : ℕ) (qs : List Outgoing) → ((c : ℕ) → f c ≡ g c)
    → all_left p f i qs ≡ all_left p g i qs
all_alike p f g i [] same = refl
all_alike p f g i (q ∷ qs) same =
    omega (arith, left_alike p f g i q.waiting same, all_alike p f g (suc i) qs same)

left_none : (p : Named → Bool) (o : ℕ) (xs : List Accepted) → left_so p (λ _. false) o xs ≡ 0
left_none p o [] = refl
left_none p o (x ∷ xs) = omega (arith, left_none p o xs)

all_none : (p : Named → Bool) (i : ℕ) (qs : List Outgoing) → all_left p (λ _. false) i qs ≡ 0
all_none p i [] = refl
all_none p i (q ∷ qs) = omega (arith, left_none p i q.waiting, all_none p (suc i) qs)

left_both : (p : Named → Bool) (c : ℕ) (more : ℕ → Bool) (o : ℕ) (xs : List Accepted)
    → left_so p (λ d. (d == c) || more d) o xs
    ≡ left_so p (λ d. d == c) o xs + left_so p more o (filter (is_of_others c) xs)
left_both p c more o [] = refl
left_both p c more o (x ∷ xs) = by (x.client == c) (left_both p c more o xs)
  where
    by : (own : Bool)
        → left_so p (λ d. (d == c) || more d) o xs
        ≡ left_so p (λ d. d == c) o xs + left_so p more o (filter (is_of_others c) xs)
        → one_if ((own || more x.client) && p (named_at o x)) + left_so p (λ d. (d == c) || more d) o xs
        ≡ one_if (own && p (named_at o x)) + left_so p (λ d. d == c) o xs
        + left_so p more o (cond (not own) (x ∷ filter (is_of_others c) xs) (filter (is_of_others c) xs))
    by true rest = omega (arith, rest)
    by false rest = omega (arith, rest)

all_both : (p : Named → Bool) (c : ℕ) (more : ℕ → Bool) (i : ℕ) (qs : List Outgoing)
    → all_left p (λ d. (d == c) || more d) i qs
    ≡ all_left p (λ d. d == c) i qs + all_left p more i (map (outgoing_after_end c) qs)
all_both p c more i [] = refl
all_both p c more i (q ∷ qs) = omega (arith, left_both p c more i q.waiting, all_both p c more (suc i) qs)

closes : (p : Named → Bool) (i : ℕ) (bs : List Bool) (v : Controls)
    → all_so p 0 v.outgoing
    ≡ all_so p 0 (controls_after_closes i bs v).outgoing + all_left p (closing i bs) 0 v.outgoing
closes p i [] v = let none : all_left p (closing i []) 0 v.outgoing ≡ 0 = all_none p 0 v.outgoing in omega (arith, none)
closes p i (true ∷ bs) v =
    let both : all_left p (closing i (true ∷ bs)) 0 v.outgoing
    ≡ all_left p (λ d. d == i) 0 v.outgoing
    + all_left p (closing (suc i) bs) 0 (map (outgoing_after_end i) v.outgoing) =
    all_both p i (closing (suc i) bs) 0 v.outgoing in
    let rest : all_so p 0 (map (outgoing_after_end i) v.outgoing)
    ≡ all_so p 0 (controls_after_closes (suc i) bs (controls_after_end i v)).outgoing
    + all_left p (closing (suc i) bs) 0 (map (outgoing_after_end i) v.outgoing) =
    closes p (suc i) bs (controls_after_end i v) in
    omega (arith, session_ends p i 0 v.outgoing, both, rest)
closes p i (false ∷ bs) v = closes p (suc i) bs v

pub sessions_end : (p : Named → Bool) (bs : List Bool) (v : Controls)
    → all_so p 0 v.outgoing
    ≡ all_so p 0 (controls_after_closes 0 bs v).outgoing + all_left p (told_leaving bs) 0 v.outgoing
sessions_end p bs v =
    omega (
      arith,
      closes p 0 bs v,
      all_alike p (closing 0 bs) (told_leaving bs) 0 v.outgoing (closing_at bs),
    )

-- what is under way stays
way_stays : (c : ℕ) (q : Option Outgoing) → way_at (option_map (outgoing_after_end c) q) ≡ way_at q
way_stays c None = refl
way_stays c (Some q) = left_way c q.under_way

pub ways_stay : (i : ℕ) (bs : List Bool) (v : Controls) (n : ℕ)
    → way_at (slice_get (controls_after_closes i bs v).outgoing n) ≡ way_at (slice_get v.outgoing n)
ways_stay i [] v n = refl
ways_stay i (true ∷ bs) v n =
    ways_stay (suc i) bs (controls_after_end i v) n
    ∙ (ap way_at (map-get (outgoing_after_end i) v.outgoing n) ∙ way_stays i (slice_get v.outgoing n))
ways_stay i (false ∷ bs) v n = ways_stay (suc i) bs v n

-- ---- the session of one client

none_so : (n c : ℕ) → told_leaving (replicate n false) c ≡ false
none_so zero c = refl
none_so (suc n) zero = refl
none_so (suc n) (suc c) = none_so n c

there_is : (n c : ℕ) → c < n → slice_get (replicate n false) c ≡ Some false
there_is zero c lt = absurd (omega (arith, lt))
there_is (suc n) zero lt = refl
there_is (suc n) (suc c) lt = there_is n c (omega (arith, lt))

one_leaves : (n c d : ℕ) → c < n → told_leaving (change c (λ _. true) (replicate n false)) d ≡ (d == c)
one_leaves n c d lt = elim (cases_eq c d) [
  | inl e ↦ subst (λ (x : ℕ). told_leaving (change c (λ _. true) (replicate n false)) x ≡ (x == c)) e
      (ap is_so (change-here c (λ _. true) (replicate n false))
      ∙ (ap (λ (b : Option Bool). is_so (option_map (λ _. true) b)) (there_is n c lt) ∙ sym (eq-eqb c c refl)))
  | inr ne ↦ ap is_so (change-there c d (λ _. true) (replicate n false) ne)
      ∙ (none_so n d ∙ sym (ne_eqb d c (λ e. ne (sym e))))
]

-- it is told of what it changes
pub client_leaves : (p : Named → Bool) (s : State) (c : ℕ) → c < client_limit
    → all_so p 0 s.controls.outgoing
    ≡ times p (map named_by (ending_of s c).ended) + all_so p 0 (controls_after_end c s.controls).outgoing
client_leaves p s c lt =
    omega (
      arith,
      session_ends p c 0 s.controls.outgoing,
      let_go_told p (only c) 0 s.controls.outgoing,
      all_alike p (told_leaving (only c)) (λ d. d == c) 0 s.controls.outgoing (λ d. one_leaves client_limit c d lt),
    )
