-- Outstations to which a request is due, one after the other.
use Rattle.std.specs.Prelude.{slice_get}
use Rattle.std.proofs.Common.{◌≡◌, ℕ, zero, suc, ◌+◌, ◌≤◌, Bool, true, false, List, [], ◌∷◌, ◌++◌, take}
use Rattle.std.proofs.Common.{length, Some, refl, sym, ap, ◌∙◌, append_assoc, append-nil, length-append, arith}
use Rattle.dnp_master.specs.Master.{Master}
use Rattle.gw_control.specs.Orders.{Outgoing}
use Rattle.gw_steps.specs.Effects.{due_from, one_where, with_due, Telling}
use Rattle.gw_steps.specs.Queries.{is_poll_due_of}

due_behind : (moment o n : ℕ) (ms : List Master) (qs : List Outgoing) (m : Master) → slice_get ms n ≡ Some m
    → due_from moment qs o (take (suc n) ms)
    ≡ due_from moment qs o (take n ms) ++ one_where (is_poll_due_of moment (slice_get qs (o + n)) (Some m)) (o + n)
due_behind moment o n [] qs m e = absurd (let none : ⊥ = cc in none)
due_behind moment o zero (x ∷ ms) qs m e =
    let same : x ≡ m = cc in
    let here : o + 0 ≡ o = omega arith in
    rw here (append-nil (one_where (is_poll_due_of moment (slice_get qs o) (Some x)) o)
    ∙ ap (λ (y : Master). one_where (is_poll_due_of moment (slice_get qs o) (Some y)) o) same)
due_behind moment o (suc n) (x ∷ ms) qs m e =
    let there : o + suc n ≡ suc o + n = omega arith in
    let here : List ℕ = one_where (is_poll_due_of moment (slice_get qs o) (Some x)) o in
    let more : List ℕ = due_from moment qs (suc o) (take n ms) in
    rw there (ap (λ (l : List ℕ). here ++ l) (due_behind moment (suc o) n ms qs m e)
    ∙ sym (append_assoc here more
    (one_where (is_poll_due_of moment (slice_get qs (suc o + n)) (Some m)) (suc o + n))))

-- one outstation more
pub due_next : (moment n : ℕ) (ms : List Master) (qs : List Outgoing) (m : Master) → slice_get ms n ≡ Some m
    → due_from moment qs 0 (take (n + 1) ms)
    ≡ due_from moment qs 0 (take n ms) ++ one_where (is_poll_due_of moment (slice_get qs n) (Some m)) n
due_next moment n ms qs m e =
    let up : n + 1 ≡ suc n = omega arith in
    let there : 0 + n ≡ n = omega arith in
    rw up (rw there at (due_behind moment 0 n ms qs m e))

pub one_at_most : (b : Bool) (o : ℕ) → length (one_where b o) ≤ 1
one_at_most true o = omega arith
one_at_most false o = omega arith

-- the writers of these outstations were roused: so many at most
pub record HasRoused (t u : Telling) (outstations : List ℕ) (most : ℕ) : Type 0 where
  pub told : u ≡ with_due outstations t
  pub few : length u.told.due_outstations ≤ length t.told.due_outstations + most

pub none_roused : (t : Telling) → HasRoused t t [] 0
none_roused t = record {
  told = ap (λ (l : List ℕ). record t { told = record t.told { due_outstations = l } })
      (sym (append-nil t.told.due_outstations));
  few = omega arith;
}

with_both : (a b : List ℕ) (t : Telling) → with_due b (with_due a t) ≡ with_due (a ++ b) t
with_both a b t = rw (append_assoc t.told.due_outstations a b) refl

pub more_roused : {t u : Telling} {a : List ℕ} {n : ℕ} (b c : List ℕ) (v : Telling) → HasRoused t u a n
    → v ≡ with_due b u → length b ≤ 1 → c ≡ a ++ b → HasRoused t v c (n + 1)
more_roused {t} {u} {a} {n} b c v h e one is_c =
    let longer = ap (λ (w : Telling). length w.told.due_outstations) e ∙ length-append u.told.due_outstations b in
    record {
      told = e ∙ (ap (with_due b) h.told ∙ (with_both a b t ∙ ap (λ (l : List ℕ). with_due l t) (sym is_c)));
      few = omega (arith, longer, h.few);
    }

pub same_room : {t u : Telling} {a : List ℕ} {n : ℕ} → HasRoused t u a n → u.room ≡ t.room
same_room h = ap (λ (w : Telling). w.room) h.told
