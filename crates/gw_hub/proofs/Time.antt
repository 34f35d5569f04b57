-- Time that passes for the outstations, one after the other.
use Rattle.std.specs.Prelude.{slice_get, option_and_then}
use Rattle.std.specs.Option.{option_to_list}
use Rattle.std.proofs.Common.{◌≡◌, ℕ, zero, suc, ◌+◌, ◌<◌, ◌≤◌, List, [], ◌∷◌}
use Rattle.std.proofs.Common.{◌++◌, map, take, drop, length, Option, refl, sym, ap, arith}
use Rattle.std.proofs.lemmas.List.{append-nil, drop_all, take_all}
use Rattle.gw_model.specs.Places.{change}
use Rattle.gw_model.specs.declared.control.Ended.{Ended}
use Rattle.dnp_master.specs.Master.{Master}
use Rattle.gw_control.specs.Controls.{Controls}
use Rattle.gw_steps.specs.Controls.{controls_after_all_ended, controls_with_ended, outcome_ended, outcomes_ended}

-- from a place on
abbrev pub map_from : ℕ → (Master → Master) → List Master → List Master
map_from n f ms = take n ms ++ map f (drop n ms)

masters_behind : (n : ℕ) (f : Master → Master) (ms : List Master) → n < length ms
    → map_from (suc n) f (change n f ms) ≡ map_from n f ms
masters_behind n f [] lt = absurd (omega arith)
masters_behind zero f (m ∷ ms) lt = refl
masters_behind (suc n) f (m ∷ ms) lt = ap (λ (xs : List Master). m ∷ xs) (masters_behind n f ms (omega arith))

pub masters_next : (n : ℕ) (f : Master → Master) (ms : List Master) → n < length ms
    → map_from (n + 1) f (change n f ms) ≡ map_from n f ms
masters_next n f ms lt =
    let up : n + 1 ≡ suc n = omega arith in
    rw up (masters_behind n f ms lt)

pub masters_end : (n : ℕ) (f : Master → Master) (ms : List Master) → length ms ≤ n → map_from n f ms ≡ ms
masters_end n f ms le = rw (take_all n ms le, drop_all n ms le) (append-nil ms)

-- ---- the orders that end with it

ends_behind : (n : ℕ) (f : Master → Master) (e : Master → Option Ended) (ms : List Master) (ended : Option Ended)
    → n < length ms → ended ≡ option_and_then e (slice_get ms n)
    → map e (drop n ms) ≡ ended ∷ map e (drop (suc n) (change n f ms))
ends_behind n f e [] ended lt is = absurd (omega arith)
ends_behind zero f e (m ∷ ms) ended lt is = ap (λ (x : Option Ended). x ∷ map e ms) (sym is)
ends_behind (suc n) f e (m ∷ ms) ended lt is = ends_behind n f e ms ended (omega arith) is

pub ends_next : (n : ℕ) (f : Master → Master) (e : Master → Option Ended) (ms : List Master) (ended : Option Ended)
    (v : Controls) → n < length ms → ended ≡ option_and_then e (slice_get ms n)
    → controls_after_all_ended (n + 1) (map e (drop (n + 1) (change n f ms))) (controls_with_ended n ended v)
    ≡ controls_after_all_ended n (map e (drop n ms)) v
ends_next n f e ms ended v lt is =
    let up : n + 1 ≡ suc n = omega arith in
    rw (up, ends_behind n f e ms ended lt is) refl

pub outcomes_next : (n : ℕ) (f : Master → Master) (e : Master → Option Ended) (ms : List Master)
    (ended : Option Ended) (v : Controls) → n < length ms → ended ≡ option_and_then e (slice_get ms n)
    → option_to_list (outcome_ended n ended v)
    ++ outcomes_ended (n + 1) (map e (drop (n + 1) (change n f ms))) (controls_with_ended n ended v)
    ≡ outcomes_ended n (map e (drop n ms)) v
outcomes_next n f e ms ended v lt is =
    let up : n + 1 ≡ suc n = omega arith in
    rw (up, ends_behind n f e ms ended lt is) refl

-- none is left
pub ends_past : (n : ℕ) (e : Master → Option Ended) (ms : List Master) → length ms ≤ n → map e (drop n ms) ≡ []
ends_past n e ms le = ap (map e) (drop_all n ms le)
