-- What comes by a step, and what is told of.
use Rattle.std.proofs.Common.{◌≡◌, ℕ, zero, suc, ◌+◌, Bool, true, false, not, ◌&&◌, ◌||◌}
use Rattle.std.proofs.Common.{List, [], ◌∷◌, ◌++◌, length, Some, refl, ap, ◌∙◌, arith}
use Rattle.std.specs.Prelude.{◌==◌, slice_get}
use Rattle.std.proofs.lemmas.Bool.{eq-eqb}
use Rattle.gw_control.specs.Orders.{Outgoing}
use Rattle.dnp_master.specs.Master.{Master}
use Rattle.gw_station.specs.Client.{Client}
use Rattle.gw_steps.specs.Effects.{due_from, is_so, one_where, or_offered}
use Rattle.gw_steps.specs.Queries.{has_offer, is_poll_due_of, offers_at}
use Rattle.law_effects.specs.Rousing.{is_among}

-- ---- what comes

-- what is so now only if it was so before doesn't come
pub none_comes : (before now told : Bool) → (now ≡ true → before ≡ true) → now && not before ≡ true → told ≡ true
none_comes true true told still comes = absurd (let no : ⊥ = cc in no)
none_comes true false told still comes = absurd (let no : ⊥ = cc in no)
none_comes false true told still comes = absurd (let is : false ≡ true = still refl in let no : ⊥ = cc in no)
none_comes false false told still comes = absurd (let no : ⊥ = cc in no)

-- what comes is so now
pub is_now : (before now : Bool) → now && not before ≡ true → now ≡ true
is_now before true comes = refl
is_now before false comes = absurd (let no : ⊥ = cc in no)

-- ---- what is told

pub is_one : (so : Bool) (o p : ℕ) → o ≡ p → so ≡ true → is_among p (one_where so o) ≡ true
is_one so o p same is = rw is (rw (eq-eqb o p same) refl)

among_first : (so : Bool) (o p : ℕ) (xs : List ℕ) → o ≡ p → so ≡ true → is_among p (one_where so o ++ xs) ≡ true
among_first so o p xs same is = rw is (rw (eq-eqb o p same) refl)

among_rest : (so : Bool) (o p : ℕ) (xs : List ℕ) → is_among p xs ≡ true → is_among p (one_where so o ++ xs) ≡ true
among_rest true o p xs is = by (o == p)
  where
    by : (b : Bool) → b || is_among p xs ≡ true
    by true = refl
    by false = is
among_rest false o p xs is = is

-- each outstation to which a request is due
pub all_told : (moment p n i : ℕ) (qs : List Outgoing) (ms : List Master) → p ≡ n + i
    → is_poll_due_of moment (slice_get qs p) (slice_get ms n) ≡ true → is_among p (due_from moment qs i ms) ≡ true
all_told moment p n i qs [] at due = absurd (let no : ⊥ = cc in no)
all_told moment p zero i qs (m ∷ ms) at due =
    let same : i ≡ p = omega (arith, at) in
    among_first (is_poll_due_of moment (slice_get qs i) (Some m)) i p (due_from moment qs (suc i) ms) same
    (ap (λ (x : ℕ). is_poll_due_of moment (slice_get qs x) (Some m)) same ∙ due)
all_told moment p (suc n) i qs (m ∷ ms) at due =
    among_rest (is_poll_due_of moment (slice_get qs i) (Some m)) i p (due_from moment qs (suc i) ms)
    (all_told moment p n (suc i) qs ms (omega (arith, at)) due)

-- each client for which something may be put out
pub offer_told : (moment c : ℕ) (bs : List Bool) (ks : List Client) → length bs ≡ length ks
    → has_offer moment (slice_get ks c) ≡ true → is_so (slice_get (or_offered moment bs ks) c) ≡ true
offer_told moment c bs [] many offer = absurd (let no : ⊥ = cc in no)
offer_told moment c [] (k ∷ ks) many offer = absurd (omega (arith, many))
offer_told moment zero (b ∷ bs) (k ∷ ks) many offer = by b
  where
    by : (so : Bool) → so || offers_at moment k ≡ true
    by true = refl
    by false = offer
offer_told moment (suc c) (b ∷ bs) (k ∷ ks) many offer = offer_told moment c bs ks (omega (arith, many)) offer
