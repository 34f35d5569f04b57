-- What the law says of commands in words of its own, apart from those of the code, is the same.
use Rattle.std.proofs.Common.{◌≡◌, ℕ, zero, suc, ◌<◌, ℤ, pos, Bool, true, false, cond, ◌&&◌, ◌||◌}
use Rattle.std.proofs.Common.{Option, Some, None, option_map, is_some, refl, sym, ap, ◌∙◌, arith}
use Rattle.std.proofs.Math.Bool.{beq}
use Rattle.std.specs.Prelude.{◌==◌, nat_le}
use Rattle.std.specs.Ordering.{int_eq}
use Rattle.std.proofs.lemmas.Bool.{lt-leb, ne_eqb}
use Rattle.std.proofs.lemmas.Bool.Decides.{Decides-eqb, Decides-int_eq, same_from_decides}
use Rattle.gw_model.specs.Optional.{◌>>=◌}
use Rattle.gw_model.specs.declared.control.Act.TheVariants.{Set, Switch}
use Rattle.gw_model.specs.declared.control.Shape.{Shape}
use Rattle.gw_model.specs.declared.control.Shape.TheVariants.{Latch, Pulse}
use Rattle.gw_entries.specs.declared.control.Operates.{Operates}
use Rattle.gw_entries.specs.declared.control.Operates.TheVariants as operated
use Rattle.gw_entries.specs.declared.control.Pulses.{Pulses}
use Rattle.iec_command.specs.declared.command.Action.{Action}
use Rattle.iec_command.specs.declared.command.Action.TheVariants.{Single, Double, Setpoint}
use Rattle.gw_entries.specs.Scaling.{scaled_by}
use Rattle.gw_control.specs.Intents.{act_of, shape_at_rest, shape_of, switched}
use Rattle.gw_control.specs.Selections.{asks_same}
use Rattle.law_orders.specs.Selections.{has_16_bits, is_same, permits}

-- ---- two commands that ask for the same

same_pos : (a b : ℕ) → int_eq (pos a) (pos b) ≡ (a == b)
same_pos a b = same_from_decides {P = a ≡ b} (int_eq (pos a) (pos b)) (a == b) (
  (λ e. let is : pos a ≡ pos b = (Decides-int_eq (pos a) (pos b)).0 e in cc),
  λ e. (Decides-int_eq (pos a) (pos b)).1 (ap pos e),
)
    (Decides-eqb a b)

same_bit : (a b : Bool) → beq a b ≡ int_eq (cond a (pos 1) (pos 0)) (cond b (pos 1) (pos 0))
same_bit true true = refl
same_bit true false = refl
same_bit false true = refl
same_bit false false = refl

pub same_is : (x y : Action) → asks_same x y ≡ is_same x y
same_is (Single a) (Single b) = ap (λ (is : Bool). is && (a.qualifier == b.qualifier)) (same_bit a.on b.on)
same_is (Double a) (Double b) =
    ap (λ (is : Bool). is && (a.qualifier == b.qualifier)) (sym (same_pos a.state b.state))
same_is (Setpoint a) (Setpoint b) = refl
same_is (Single a) _ = refl
same_is (Double a) _ = refl
same_is (Setpoint a) _ = refl
same_is _ _ = refl

-- ---- QU

above_three : (q : ℕ) → 3 < q → ((q == 0) || ((q == 1) || ((q == 2) || (q == 3)))) ≡ nat_le q 3
above_three q lt =
    rw (
      ne_eqb q 0 (λ e. omega (arith, e, lt)),
      ne_eqb q 1 (λ e. omega (arith, e, lt)),
      ne_eqb q 2 (λ e. omega (arith, e, lt)),
      ne_eqb q 3 (λ e. omega (arith, e, lt)),
      lt-leb q 3 lt,
    ) refl

up_to_three : (q : ℕ) → ((q == 0) || ((q == 1) || ((q == 2) || (q == 3)))) ≡ nat_le q 3
up_to_three zero = refl
up_to_three (suc zero) = refl
up_to_three (suc (suc zero)) = refl
up_to_three (suc (suc (suc zero))) = refl
up_to_three (suc (suc (suc (suc n)))) = above_three (suc (suc (suc (suc n)))) (omega arith)

one_of : (a b c d : Bool) (w x y z : Shape)
    → is_some (cond a (Some w) (cond b (Some x) (cond c (Some y) (cond d (Some z) None)))) ≡ (a || (b || (c || d)))
one_of true b c d w x y z = refl
one_of false true c d w x y z = refl
one_of false false true d w x y z = refl
one_of false false false true w x y z = refl
one_of false false false false w x y z = refl

mapped : {A B : Type 0} (f : A → B) (x : Option A) → is_some (option_map f x) ≡ is_some x
mapped f None = refl
mapped f (Some y) = refl

switched_is : (on : Bool) (q : ℕ) (pulses : Pulses) → is_some (switched on q pulses) ≡ nat_le q 3
switched_is on q pulses =
    mapped (Switch on) (shape_of q pulses)
    ∙ (one_of (q == 0) (q == 1) (q == 2) (q == 3) (shape_at_rest pulses.rest pulses.short_ms) (Pulse pulses.short_ms)
    (Pulse pulses.long_ms) Latch
    ∙ up_to_three q)

-- ---- DCS, and a set point

by_state : (off on : Bool) (q : ℕ) (pulses : Pulses)
    → is_some (cond off (Some false) (cond on (Some true) None) >>= λ to. switched to q pulses)
    ≡ ((off || on) && nat_le q 3)
by_state true on q pulses = switched_is false q pulses
by_state false true q pulses = switched_is true q pulses
by_state false false q pulses = refl

by_value : (free fits : Bool) (z : ℤ)
    → is_some (cond free (option_map Set (cond fits (Some z) None)) None) ≡ (free && fits)
by_value true true z = refl
by_value true false z = refl
by_value false fits z = refl

-- ---- what is permitted

pub permitted_is : (operates : Operates) (action : Action) → is_some (act_of action operates) ≡ permits operates action
permitted_is (operated.Single pulses) (Single command) = switched_is command.on command.qualifier pulses
permitted_is (operated.Double pulses) (Double command) =
    by_state (command.state == 1) (command.state == 2) command.qualifier pulses
permitted_is (operated.Setpoint scale) (Setpoint command) =
    let z : ℤ = scaled_by scale command.value in by_value (command.qualifier == 0) (has_16_bits z) z
permitted_is (operated.Single pulses) _ = refl
permitted_is (operated.Double pulses) _ = refl
permitted_is (operated.Setpoint scale) _ = refl
