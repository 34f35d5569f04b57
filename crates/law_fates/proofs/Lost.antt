-- An outstation is lost: the order that was given to it ends, and so do all that wait for it.
use Rattle.std.proofs.Common.{◌≡◌, ℕ, zero, suc, ◌+◌, ◌≤◌, Bool, List, [], ◌∷◌, drop, length}
use Rattle.std.proofs.Common.{map, Option, Some, None, option_map, refl, sym, ap, subst, ◌∙◌, arith}
use Rattle.std.specs.Prelude.{slice_get}
use Rattle.gw_model.specs.declared.control.Ended.{Ended}
use Rattle.gw_map.specs.Settings.{Setup}
use Rattle.gw_picture.proofs.Lists.{change-here}
use Rattle.gw_control.specs.declared.accepted.Accepted.{Accepted}
use Rattle.gw_control.specs.Controls.{Controls, controls_after_lost, AreInOrder}
use Rattle.gw_control.specs.Held.{controls_after_losses}
use Rattle.gw_control.specs.Moves.{one_if}
use Rattle.gw_control.specs.Orders.{Outgoing, outgoing_after_ended, outgoing_after_lost, places}
use Rattle.dnp_master.specs.declared.fate.Fate.TheVariants as fates
use Rattle.gw_steps.specs.Controls.{controls_with_ended, ended_lost}
use Rattle.gw_steps.specs.Effects.{end_at, lost, lost_waiting}
use Rattle.gw_steps.specs.Sound.{IsSoundState}
use Rattle.gw_steps.specs.State.{State}
use Rattle.law_fates.specs.Fates.{Named, named_at, named_by}
use Rattle.law_fates.proofs.Counts.{all_so, at_so, changed, times, waiting_at, waiting_so, way_at}
use Rattle.law_fates.proofs.Ended.{end_told, ended_here, ended_so, ends_append, ends_count, with_ended}
use Rattle.law_fates.proofs.Says.{loss_says}

-- ---- one order after the other

abbrev first_so : (Named → Bool) → ℕ → List Accepted → ℕ
first_so p o [] = 0
first_so p o (x ∷ xs) = one_if (p (named_at o x))

fewer : (p : Named → Bool) (o : ℕ) (xs : List Accepted) → waiting_so p o xs ≡ first_so p o xs + waiting_so p o (drop 1 xs)
fewer p o [] = omega arith
fewer p o (x ∷ xs) = omega arith

one_lost : (p : Named → Bool) (o : ℕ) (q : Option Outgoing)
    → at_so p o q + 0 ≡ at_so p o (option_map outgoing_after_lost q) + first_so p o (waiting_at q)
one_lost p o None = refl
one_lost p o (Some q) = omega (arith, fewer p o q.waiting)

pub left_waiting : (q : Option Outgoing) → waiting_at (option_map outgoing_after_lost q) ≡ drop 1 (waiting_at q)
left_waiting None = refl
left_waiting (Some q) = refl

pub shorter : (n : ℕ) (xs : List Accepted) → length xs ≤ suc n → length (drop 1 xs) ≤ n
shorter n [] few = omega arith
shorter n (x ∷ xs) few = omega (arith, few)

none_waits : (p : Named → Bool) (o : ℕ) (xs : List Accepted) → length xs ≤ 0 → waiting_so p o xs ≡ 0
none_waits p o [] few = refl
none_waits p o (x ∷ xs) few = absurd (omega (arith, few))

-- where as many end as wait, all of these do
losses : (p : Named → Bool) (n o : ℕ) (v : Controls) → length (waiting_at (slice_get v.outgoing o)) ≤ n
    → all_so p 0 v.outgoing
    ≡ all_so p 0 (controls_after_losses n o v).outgoing + waiting_so p o (waiting_at (slice_get v.outgoing o))
losses p zero o v few = omega (arith, none_waits p o (waiting_at (slice_get v.outgoing o)) few)
losses p (suc n) o v few =
    let q : Option Outgoing = slice_get v.outgoing o in
    let next : Controls = controls_after_lost o v in
    let here : waiting_at (slice_get next.outgoing o) ≡ drop 1 (waiting_at q) =
    ap waiting_at (change-here o outgoing_after_lost v.outgoing) ∙ left_waiting q in
    let one : all_so p 0 v.outgoing + 0 ≡ all_so p 0 next.outgoing + first_so p o (waiting_at q) =
    changed p 0 o o 0 (first_so p o (waiting_at q)) outgoing_after_lost v.outgoing (omega arith) (one_lost p o q) in
    let rest : all_so p 0 next.outgoing
    ≡ all_so p 0 (controls_after_losses n o next).outgoing + waiting_so p o (waiting_at (slice_get next.outgoing o)) =
    losses p n o next
    (subst (λ (xs : List Accepted). length xs ≤ n) (sym here) (shorter n (waiting_at q) few)) in
    omega (arith, one, rest, ap (waiting_so p o) here, fewer p o (waiting_at q))

-- ---- all of them

pub few_wait : (count o : ℕ) (qs : List Outgoing) → AreInOrder count qs → length (waiting_at (slice_get qs o)) ≤ places
few_wait count o [] all = omega arith
few_wait count zero (q ∷ qs) all = all.0.few
few_wait count (suc o) (q ∷ qs) all = few_wait count o qs all.1

-- those that wait go on waiting when the order under way ends
same_waiting : (e : Ended) (q : Option Outgoing) → waiting_at (option_map (outgoing_after_ended e) q) ≡ waiting_at q
same_waiting e None = refl
same_waiting e (Some q) = refl

pub still_waiting : (o : ℕ) (e : Option Ended) (v : Controls)
    → waiting_at (slice_get (controls_with_ended o e v).outgoing o) ≡ waiting_at (slice_get v.outgoing o)
still_waiting o None v = refl
still_waiting o (Some e) v = ap waiting_at (ended_here o e v) ∙ same_waiting e (slice_get v.outgoing o)

waiting_told : (p : Named → Bool) (o : ℕ) (q : Option Outgoing)
    → times p (map named_by (lost_waiting o q)) ≡ waiting_so p o (waiting_at q)
waiting_told p o None = refl
waiting_told p o (Some q) = ends_count p o fates.Lost q.waiting

-- they are told of
pub outstation_lost : (p : Named → Bool) (setup : Setup) (s : State) (o : ℕ) → IsSoundState setup s
    → all_so p 0 s.controls.outgoing
    ≡ times p (map named_by (lost s o))
    + all_so p 0 (controls_after_losses places o
    (controls_with_ended o (ended_lost (slice_get s.outstations o)) s.controls)).outgoing
outstation_lost p setup s o sound =
    let e : Option Ended = ended_lost (slice_get s.outstations o) in
    let q : Option Outgoing = slice_get s.controls.outgoing o in
    let v : Controls = controls_with_ended o e s.controls in
    let same : waiting_at (slice_get v.outgoing o) ≡ waiting_at q = still_waiting o e s.controls in
    let few : length (waiting_at (slice_get v.outgoing o)) ≤ places =
    subst (λ (xs : List Accepted). length xs ≤ places) (sym same)
    (few_wait s.controls.ordered o s.controls.outgoing sound.controls.orders) in
    let given : times p (map named_by (end_at o (Some fates.Lost) e q)) ≡ ended_so p o e (way_at q) =
    end_told p o (Some fates.Lost) e q (loss_says (slice_get s.outstations o)) in
    let told : times p (map named_by (lost s o))
    ≡ times p (map named_by (end_at o (Some fates.Lost) e q)) + times p (map named_by (lost_waiting o q)) =
    ends_append p (end_at o (Some fates.Lost) e q) (lost_waiting o q) in
    omega (
      arith,
      with_ended p o e s.controls,
      losses p places o v few,
      ap (waiting_so p o) same,
      told,
      given,
      waiting_told p o q,
    )
