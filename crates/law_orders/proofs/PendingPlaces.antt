-- What a step leaves pending towards one outstation and tells of it, and what it tells in all.
use Rattle.std.proofs.Common.{◌≡◌, ℕ, zero, suc, ◌+◌, ◌≤◌, ◌<◌, Bool, false, not, List, [], ◌∷◌}
use Rattle.std.proofs.Common.{◌++◌, length, map, Option, None, refl, sym, ap, ◌∙◌, arith, inl, inr}
use Rattle.std.specs.Prelude.{slice_get}
use Rattle.std.specs.List.{filter}
use Rattle.std.specs.Option.{option_to_list}
use Rattle.std.proofs.lemmas.Bool.{cases_eq, cases_lt}
use Rattle.std.proofs.lemmas.List.{append-nil, map-append}
use Rattle.gw_model.specs.declared.control.Ended.{Ended}
use Rattle.gw_map.specs.Settings.{Setup}
use Rattle.gw_control.specs.declared.answer.Outcome.{Outcome}
use Rattle.gw_control.specs.Controls.{Controls}
use Rattle.gw_control.specs.Orders.{Outgoing}
use Rattle.gw_steps.specs.declared.step.Reply.{Reply}
use Rattle.gw_steps.specs.Controls.{controls_with_ended, outcome_ended, outcomes_ended}
use Rattle.gw_steps.specs.Runs.{Entry}
use Rattle.law_history.proofs.Ended.{ended_there}
use Rattle.law_orders.proofs.Ends.{ended_at, flat}
use Rattle.law_orders.specs.Pending.{Pending, after_sessions, is_over, kept, made_in, pending_with}
use Rattle.law_orders.specs.Outcomes.{Telling, due_at, due_from, due_with, telling_of}
use Rattle.law_orders.proofs.Rows.{none_leaves, quiet, rows}
use Rattle.law_orders.proofs.Overs.{EndsWay, SaysDone, all_told, outcome_in, outcome_there, rows_ended, rows_told}

pub record At (setup : Setup) (past : List Entry) (e : Entry) (reply : Reply) (o : ℕ) (q new : Option Outgoing)
    (xs : List Telling) : Type 0 where
  pub pending : rows new ≡ pending_with setup o past e (rows q) reply
  pub told : xs ≡ due_with setup o past e (rows q) reply

-- ---- nothing is over

all_kept : (over : Pending → Bool) (ps : List Pending) → ((p : Pending) → over p ≡ false)
    → filter (λ p. not (over p)) ps ≡ ps
all_kept over [] none = refl
all_kept over (p ∷ ps) none = rw (none p) (ap (λ (qs : List Pending). p ∷ qs) (all_kept over ps none))

nothing_told : (over : Pending → Bool) (past : List Entry) (ps : List Pending) → ((p : Pending) → over p ≡ false)
    → all_told over past ps ≡ []
nothing_told over past [] none = refl
nothing_told over past (p ∷ ps) none = rw (none p) (nothing_told over past ps none)

pub at_calm : (setup : Setup) (past : List Entry) (e : Entry) (reply : Reply) (o : ℕ) (q new : Option Outgoing)
    → rows new ≡ kept setup past e reply (rows q) ++ option_to_list (made_in setup o past e)
    → ((p : Pending) → is_over setup o past e e.step p ≡ false) → At setup past e reply o q new []
at_calm setup past e reply o q new is none = record {
  pending = is
      ∙ ap (λ (ps : List Pending). ps ++ option_to_list (made_in setup o past e))
      (sym (all_kept (is_over setup o past e e.step) (kept setup past e reply (rows q)) none));
  told = sym (nothing_told (is_over setup o past e e.step) (e ∷ past) (kept setup past e reply (rows q)) none);
}

-- no session ends
pub same_rows : (past : List Entry) (ps : List Pending) → ps ≡ after_sessions quiet past ps ++ []
same_rows past ps = sym (ap (λ (qs : List Pending). qs ++ []) (none_leaves past ps) ∙ append-nil ps)

-- ---- the order under way may be over

pub at_over : (setup : Setup) (past : List Entry) (e : Entry) (reply : Reply) (o : ℕ) (q left : Option Outgoing)
    (over : Option Ended) → rows left ≡ kept setup past e reply (rows q) → made_in setup o past e ≡ None
    → EndsWay (is_over setup o past e e.step) over left → SaysDone (e ∷ past) over left
    → At setup past e reply o q (ended_at over left) (map telling_of (option_to_list (outcome_in over left)))
at_over setup past e reply o q left over is none ends says =
    let ends_it : Pending → Bool = is_over setup o past e e.step in
    record {
      pending = rows_ended ends_it over left ends
          ∙ (ap (λ (ps : List Pending). filter (λ p. not (ends_it p)) ps) is
          ∙ (sym (append-nil (filter (λ p. not (ends_it p)) (kept setup past e reply (rows q))))
          ∙ ap (λ (x : Option Pending).
          filter (λ p. not (ends_it p)) (kept setup past e reply (rows q)) ++ option_to_list x) (sym none)));
      told = rows_told ends_it (e ∷ past) over left ends says ∙ ap (all_told ends_it (e ∷ past)) is;
    }

-- ---- what is told in all

none_from : (setup : Setup) (past : List Entry) (e : Entry) (n d : ℕ)
    → ((p : ℕ) → d ≤ p → due_at setup past e p ≡ []) → due_from setup past e d n ≡ []
none_from setup past e zero d none = refl
none_from setup past e (suc n) d none =
    rw (none d (omega arith)) (none_from setup past e n (suc d) (λ p le. none p (omega (arith, le))))

pub none_due : (setup : Setup) (past : List Entry) (e : Entry) (n : ℕ) → ((p : ℕ) → due_at setup past e p ≡ [])
    → due_from setup past e 0 n ≡ []
none_due setup past e n none = none_from setup past e n 0 (λ p le. none p)

one_from : (setup : Setup) (past : List Entry) (e : Entry) (o n d : ℕ) → d ≤ o → o < n + d
    → ((p : ℕ) → (o ≡ p → ⊥) → due_at setup past e p ≡ []) → due_from setup past e d n ≡ due_at setup past e o
one_from setup past e o zero d low high none = absurd (omega (arith, low, high))
one_from setup past e o (suc n) d low high none = elim (cases_eq d o) [
  | inl is ↦
      let rest : due_from setup past e (suc d) n ≡ [] =
      none_from setup past e n (suc d) (λ p le. none p (λ same. omega (arith, is, le, same))) in
      ap (λ (xs : List Telling). due_at setup past e d ++ xs) rest
      ∙ (append-nil (due_at setup past e d) ∙ ap (due_at setup past e) is)
  | inr ne ↦
      ap (λ (xs : List Telling). xs ++ due_from setup past e (suc d) n) (none d (λ is. ne (sym is)))
      ∙ one_from setup past e o n (suc d) (after d o low ne) (omega (arith, high)) none
]
  where
    after : (d o : ℕ) → d ≤ o → (d ≡ o → ⊥) → suc d ≤ o
    after d o low ne = elim (cases_lt d o) [
      | inl lt ↦ omega (arith, lt)
      | inr le ↦ absurd (ne (omega (arith, low, le)))
    ]

-- only one outstation tells something
pub one_due : (setup : Setup) (past : List Entry) (e : Entry) (o n : ℕ) → o < n
    → ((p : ℕ) → (o ≡ p → ⊥) → due_at setup past e p ≡ []) → due_from setup past e 0 n ≡ due_at setup past e o
one_due setup past e o n within none = one_from setup past e o n 0 (omega arith) (omega (arith, within)) none

-- each outstation may
ended_from : (setup : Setup) (past : List Entry) (e : Entry) (d : ℕ) (es : List (Option Ended)) (v : Controls)
    → ((i p : ℕ) → p ≡ i + d → due_at setup past e p
    ≡ map telling_of (option_to_list (outcome_in (flat (slice_get es i)) (slice_get v.outgoing p))))
    → map telling_of (outcomes_ended d es v) ≡ due_from setup past e d (length es)
ended_from setup past e d [] v each = refl
ended_from setup past e d (x ∷ more) v each =
    let after : Controls = controls_with_ended d x v in
    let first : map telling_of (option_to_list (outcome_ended d x v)) ≡ due_at setup past e d =
    ap (λ (y : Option Outcome). map telling_of (option_to_list y)) (outcome_there d x v)
    ∙ sym (each 0 d (omega arith)) in
    let rest : map telling_of (outcomes_ended (suc d) more after) ≡ due_from setup past e (suc d) (length more) =
    ended_from setup past e (suc d) more after
    (λ i p at. each (suc i) p (omega (arith, at))
    ∙ ap (λ (q : Option Outgoing). map telling_of (option_to_list (outcome_in (flat (slice_get more i)) q)))
    (sym (ended_there d x v p (λ is. omega (arith, at, is))))) in
    map-append telling_of (option_to_list (outcome_ended d x v)) (outcomes_ended (suc d) more after)
    ∙ (ap (λ (xs : List Telling). xs ++ map telling_of (outcomes_ended (suc d) more after)) first
    ∙ ap (λ (xs : List Telling). due_at setup past e d ++ xs) rest)

pub ended_due : (setup : Setup) (past : List Entry) (e : Entry) (es : List (Option Ended)) (v : Controls)
    → ((p : ℕ) → due_at setup past e p
    ≡ map telling_of (option_to_list (outcome_in (flat (slice_get es p)) (slice_get v.outgoing p))))
    → map telling_of (outcomes_ended 0 es v) ≡ due_from setup past e 0 (length es)
ended_due setup past e es v each =
    ended_from setup past e 0 es v
    (λ i p at. let same : p ≡ i = omega (arith, at) in
    each p
    ∙ ap (λ (j : ℕ). map telling_of (option_to_list (outcome_in (flat (slice_get es j)) (slice_get v.outgoing p))))
    same)
