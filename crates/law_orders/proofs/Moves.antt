-- What changes at one outstation.
use Rattle.std.proofs.Common.{◌≡◌, ℕ, zero, suc, List, [], ◌∷◌, length, Option, Some, None, subst, inl, inr}
use Rattle.std.specs.Prelude.{slice_get}
use Rattle.std.specs.List.{AllByRecursion}
use Rattle.std.proofs.lemmas.Bool.{cases_eq}
use Rattle.dnp_master.specs.Master.{Master}
use Rattle.gw_control.specs.declared.accepted.Accepted.{Accepted}
use Rattle.gw_control.specs.Controls.{Controls, AreInOrder}
use Rattle.gw_control.specs.Orders.{Outgoing, IsInOrder}
use Rattle.law_orders.specs.Executes.{numbered}
use Rattle.law_orders.proofs.Held.{held_at}
use Rattle.law_orders.proofs.Story.{Alike, Holds, Keeps, OfOrder, Story, Tied, Waits, holds_kept, waits_kept}

-- where there were these orders before
pub record Moves (t new : Story) (o : ℕ) (before : Option Outgoing) (m : Option Master) (q : Option Outgoing)
    : Type 0 where
  pub here : Holds new o m q
  pub others : (p : ℕ) → (o ≡ p → ⊥) → Alike t new p
  pub bonded : (n : ℕ) → OfOrder (numbered n t.executes) (t.marks n) → OfOrder (numbered n new.executes) (new.marks n)
  -- nothing becomes of an order that isn't there
  pub kept : (n : ℕ) → held_at n before ≡ 0 → new.marks n ≡ t.marks n

-- lists that are alike but at one place
abbrev pub AlikeBut : {A : Type 0} → ℕ → List A → List A → Type 0
AlikeBut o xs ys = (p : ℕ) → (o ≡ p → ⊥) → slice_get ys p ≡ slice_get xs p

pub moved : (t new : Story) (masters more : List Master) (v after : Controls) (o : ℕ)
    → after.ordered ≡ length new.executes → AlikeBut o masters more → AlikeBut o v.outgoing after.outgoing
    → Moves t new o (slice_get v.outgoing o) (slice_get more o) (slice_get after.outgoing o)
    → Tied t masters v → Tied new more after
moved t new masters more v after o count same alike k tied = record {
  count = count;
  places = λ p. elim (cases_eq o p) [
    | inl e ↦ subst (λ (x : ℕ). Holds new x (slice_get more x) (slice_get after.outgoing x)) e k.here
    | inr ne ↦ rw (same p ne, alike p ne)
        (holds_kept t new p (slice_get masters p) (slice_get v.outgoing p) (k.others p ne) (tied.places p))
  ];
  bonded = λ n. k.bonded n (tied.bonded n);
}

-- orders wait as before, where no order has a further mark
pub waits_same : (t new : Story) (o : ℕ) (xs : List Accepted) → Keeps t.executes new.executes
    → ((n : ℕ) → new.marks n ≡ t.marks n) → AllByRecursion (Waits t o) xs → AllByRecursion (Waits new o) xs
waits_same t new o [] keeps same all = tt
waits_same t new o (x ∷ xs) keeps same all =
    (waits_kept t new o x keeps (same x.order.number) all.0, waits_same t new o xs keeps same all.1)

-- ---- the orders of one outstation are in order

abbrev pub InOrderAt : ℕ → Option Outgoing → Type 0
InOrderAt count None = Unit {0}
InOrderAt count (Some q) = IsInOrder count q

pub in_order_at : (count : ℕ) (qs : List Outgoing) (o : ℕ) → AreInOrder count qs → InOrderAt count (slice_get qs o)
in_order_at count [] o all = tt
in_order_at count (q ∷ qs) zero all = all.0
in_order_at count (q ∷ qs) (suc o) all = in_order_at count qs o all.1
