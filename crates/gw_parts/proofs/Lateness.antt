-- Orders that fail as time has passed, one outstation after the other.
use Rattle.std.specs.Option.{option_to_list}
use Rattle.std.specs.Prelude.{slice_get, if◌then◌else◌}
use Rattle.std.proofs.Common.{◌≡◌, ℕ, zero, suc, ◌+◌, ◌≤◌, Bool, true, false, List, []}
use Rattle.std.proofs.Common.{◌∷◌, ◌++◌, map, take, length, Option, None, Some, refl, sym}
use Rattle.std.proofs.Common.{ap, ◌∙◌, append_assoc, append-nil, length-append, arith}
use Rattle.gw_model.specs.declared.control.Ended.{Ended}
use Rattle.gw_model.specs.First.{when}
use Rattle.dnp_master.specs.Answers.{is_unanswered}
use Rattle.dnp_master.specs.Master.{Master, ended_by_tick}
use Rattle.gw_control.specs.declared.accepted.UnderWay.{UnderWay}
use Rattle.gw_control.specs.Orders.{Outgoing, is_named}
use Rattle.dnp_master.specs.declared.fate.Fate.{Fate}
use Rattle.gw_steps.specs.declared.effects.OrderEnd.{OrderEnd}
use Rattle.gw_steps.specs.Effects.{end_at, end_of, late, order_end, where_so, Telling}
use Rattle.gw_steps.proofs.Ending.{none_at}
use Rattle.gw_parts.specs.Late.{late_at, with_late}

-- ---- one outstation more

late_behind : (moment o n : ℕ) (ms : List Master) (qs : List Outgoing) (m : Master) → slice_get ms n ≡ Some m
    → late o (take (suc n) ms) (map (ended_by_tick moment) (take (suc n) ms)) qs
    ≡ late o (take n ms) (map (ended_by_tick moment) (take n ms)) qs ++ late_at moment (o + n) m (slice_get qs n)
late_behind moment o n [] qs m e = absurd (let none : ⊥ = cc in none)
late_behind moment o zero (x ∷ ms) [] m e = sym (none_at (o + 0) _ (ended_by_tick moment m) None refl)
late_behind moment o zero (x ∷ ms) (q ∷ qs) m e =
    let same : x ≡ m = cc in
    let here : o + 0 ≡ o = omega arith in
    rw here (append-nil (late_at moment o x (Some q)) ∙ ap (λ (y : Master). late_at moment o y (Some q)) same)
late_behind moment o (suc n) (x ∷ ms) [] m e = sym (none_at (o + suc n) _ (ended_by_tick moment m) None refl)
late_behind moment o (suc n) (x ∷ ms) (q ∷ qs) m e =
    let there : o + suc n ≡ suc o + n = omega arith in
    let here : List OrderEnd = late_at moment o x (Some q) in
    let more : List OrderEnd = late (suc o) (take n ms) (map (ended_by_tick moment) (take n ms)) qs in
    rw there (ap (λ (l : List OrderEnd). here ++ l) (late_behind moment (suc o) n ms qs m e)
    ∙ sym (append_assoc here more (late_at moment (suc o + n) m (slice_get qs n))))

pub late_next : (moment n : ℕ) (ms : List Master) (qs : List Outgoing) (m : Master) → slice_get ms n ≡ Some m
    → late 0 (take (n + 1) ms) (map (ended_by_tick moment) (take (n + 1) ms)) qs
    ≡ late 0 (take n ms) (map (ended_by_tick moment) (take n ms)) qs ++ late_at moment n m (slice_get qs n)
late_next moment n ms qs m e =
    let up : n + 1 ≡ suc n = omega arith in
    let there : 0 + n ≡ n = omega arith in
    rw up (rw there at (late_behind moment 0 n ms qs m e))

where_behind : (moment o n : ℕ) (ms : List Master) (m : Master) → slice_get ms n ≡ Some m
    → where_so o (map (is_unanswered moment) (take (suc n) ms))
    ≡ where_so o (map (is_unanswered moment) (take n ms)) ++ where_so (o + n) (is_unanswered moment m ∷ [])
where_behind moment o n [] m e = absurd (let none : ⊥ = cc in none)
where_behind moment o zero (x ∷ ms) m e =
    let same : x ≡ m = cc in
    let here : o + 0 ≡ o = omega arith in
    rw here (ap (λ (y : Master). where_so o (is_unanswered moment y ∷ [])) same)
where_behind moment o (suc n) (x ∷ ms) m e =
    let there : o + suc n ≡ suc o + n = omega arith in
    rw there (behind (is_unanswered moment x) o _ _ _ (where_behind moment (suc o) n ms m e))
  where
    behind : (b : Bool) (o : ℕ) (a c r : List ℕ) → a ≡ c ++ r
        → (if b then o ∷ a else a) ≡ (if b then o ∷ c else c) ++ r
    behind true o a c r e = ap (λ (l : List ℕ). o ∷ l) e
    behind false o a c r e = e

pub where_next : (moment n : ℕ) (ms : List Master) (m : Master) → slice_get ms n ≡ Some m
    → where_so 0 (map (is_unanswered moment) (take (n + 1) ms))
    ≡ where_so 0 (map (is_unanswered moment) (take n ms)) ++ where_so n (is_unanswered moment m ∷ [])
where_next moment n ms m e =
    let up : n + 1 ≡ suc n = omega arith in
    let there : 0 + n ≡ n = omega arith in
    rw up (rw there at (where_behind moment 0 n ms m e))

-- ---- one at most

one_when : (b : Bool) (x : OrderEnd) → length (option_to_list (when b x)) ≤ 1
one_when true x = omega arith
one_when false x = omega arith

one_of : (o : ℕ) (fate : Fate) (ended : Ended) (u : Option UnderWay) → length (option_to_list (end_of o fate ended u)) ≤ 1
one_of o fate ended None = omega arith
one_of o fate ended (Some u) = one_when (is_named ended u) (order_end o fate u.accepted)

pub one_at : (o : ℕ) (fate : Option Fate) (ended : Option Ended) (q : Option Outgoing) → length (end_at o fate ended q) ≤ 1
one_at o None ended q = omega arith
one_at o (Some fate) None q = omega arith
one_at o (Some fate) (Some ended) None = omega arith
one_at o (Some fate) (Some ended) (Some q) = one_of o fate ended q.under_way

pub one_where : (o : ℕ) (b : Bool) → length (where_so o (b ∷ [])) ≤ 1
one_where o true = omega arith
one_where o false = omega arith

-- ---- what is told

-- these orders ended, and these requests were left unanswered: so many at most
pub record HasTold (t u : Telling) (ends : List OrderEnd) (silent : List ℕ) (most : ℕ) : Type 0 where
  pub told : u ≡ with_late ends silent t
  pub ended : length u.told.ended ≤ length t.told.ended + most
  pub unanswered : length u.told.unanswered ≤ length t.told.unanswered + most

pub nothing_told : (t : Telling) → HasTold t t [] [] 0
nothing_told t = record {
  told = ap (λ (l : List OrderEnd). record t { told = record t.told { ended = l } }) (sym (append-nil t.told.ended))
      ∙ ap (λ (l : List ℕ). record t { told = record t.told { ended = t.told.ended ++ []; unanswered = l } })
      (sym (append-nil t.told.unanswered));
  ended = omega arith;
  unanswered = omega arith;
}

with_both : (a b : List OrderEnd) (q r : List ℕ) (t : Telling)
    → with_late b r (with_late a q t) ≡ with_late (a ++ b) (q ++ r) t
with_both a b q r t = rw (append_assoc t.told.ended a b, append_assoc t.told.unanswered q r) refl

pub more_told : {t u : Telling} {a : List OrderEnd} {q : List ℕ} {n : ℕ} (b c : List OrderEnd) (r s : List ℕ)
    (v : Telling) → HasTold t u a q n → v ≡ with_late b r u → length b ≤ 1 → length r ≤ 1 → c ≡ a ++ b → s ≡ q ++ r
    → HasTold t v c s (n + 1)
more_told {t} {u} {a} {q} {n} b c r s v h e one silent is_c is_s =
    let ended = ap (λ (w : Telling). length w.told.ended) e ∙ length-append u.told.ended b in
    let unanswered = ap (λ (w : Telling). length w.told.unanswered) e ∙ length-append u.told.unanswered r in
    record {
      told = e ∙ (ap (with_late b r) h.told ∙ (with_both a b q r t
          ∙ (ap (λ (l : List OrderEnd). with_late l (q ++ r) t) (sym is_c) ∙ ap (λ (l : List ℕ). with_late c l t) (sym is_s))));
      ended = omega (arith, ended, h.ended);
      unanswered = omega (arith, unanswered, h.unanswered);
    }

pub same_room : {t u : Telling} {a : List OrderEnd} {q : List ℕ} {n : ℕ} → HasTold t u a q n → u.room ≡ t.room
same_room h = ap (λ (w : Telling). w.room) h.told
