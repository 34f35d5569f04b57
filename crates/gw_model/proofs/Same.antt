-- The tests of specs/Keys answer true exactly for equal arguments.
use Rattle.std.proofs.Common.{◌≡◌, ℕ, ℤ, Bool, true, false, ◌&&◌, ◌==◌, refl, sym, ap, ap₂, ◌∙◌, arith, inl, inr}
use Rattle.std.proofs.Math.Bool.{beq}
use Rattle.std.specs.Ordering.{int_eq}
use Rattle.std.proofs.lemmas.Bool.Decides.{Decides-int_eq}
use Rattle.std.proofs.lemmas.Bool.{cases_Bool, eq-eqb, eqb-true, and_from, and_parts, true≢false}
use Rattle.gw_model.specs.declared.observation.Value.{Value}
use Rattle.gw_model.specs.declared.observation.Value.TheVariants.{Single, Double, Scaled, Word, Total}
use Rattle.gw_model.specs.declared.observation.Quality.{Quality}
use Rattle.gw_model.specs.declared.point.ObjectKey.{ObjectKey}
use Rattle.gw_model.specs.Keys.{same_value, same_quality, same_object}

beq-true : (a b : Bool) → beq a b ≡ true → a ≡ b
beq-true true true e = refl
beq-true false false e = refl
beq-true true false e = absurd cc
beq-true false true e = absurd cc

int_eq-true : (a b : ℤ) → int_eq a b ≡ true → a ≡ b
int_eq-true a b e = grind (arith, Decides-int_eq a b)

pub same_value-true : (a b : Value) → same_value a b ≡ true → a ≡ b
same_value-true (Single a) (Single b) e = ap Single (beq-true a b e)
same_value-true (Double a) (Double b) e = ap Double (eqb-true a b e)
same_value-true (Scaled a) (Scaled b) e = ap Scaled (int_eq-true a b e)
same_value-true (Word a) (Word b) e = ap Word (eqb-true a b e)
same_value-true (Total a) (Total b) e = ap Total (eqb-true a b e)
same_value-true _ _ e = absurd cc

abbrev quality_of : Bool → Bool → Bool → Bool → Bool → Bool → Bool → Quality
quality_of iv nt sb bl ov cy ca = record { iv = iv; nt = nt; sb = sb; bl = bl; ov = ov; cy = cy; ca = ca }

qualities_equal : (a0 a1 a2 a3 a4 a5 a6 b0 b1 b2 b3 b4 b5 b6 : Bool)
    → a0 ≡ b0 → a1 ≡ b1 → a2 ≡ b2 → a3 ≡ b3 → a4 ≡ b4 → a5 ≡ b5 → a6 ≡ b6
    → quality_of a0 a1 a2 a3 a4 a5 a6 ≡ quality_of b0 b1 b2 b3 b4 b5 b6
qualities_equal a0 a1 a2 a3 a4 a5 a6 b0 b1 b2 b3 b4 b5 b6 e0 e1 e2 e3 e4 e5 e6 = cc

pub same_quality-true : (a b : Quality) → same_quality a b ≡ true → a ≡ b
same_quality-true a b e =
    let to_sb = beq a.iv b.iv && beq a.nt b.nt && beq a.sb b.sb in
    let to_ov = to_sb && beq a.bl b.bl && beq a.ov b.ov in
    let p6 = and_parts (to_ov && beq a.cy b.cy) (beq a.ca b.ca) e in
    let p5 = and_parts to_ov (beq a.cy b.cy) p6.0 in
    let p4 = and_parts (to_sb && beq a.bl b.bl) (beq a.ov b.ov) p5.0 in
    let p3 = and_parts to_sb (beq a.bl b.bl) p4.0 in
    let p2 = and_parts (beq a.iv b.iv && beq a.nt b.nt) (beq a.sb b.sb) p3.0 in
    let p1 = and_parts (beq a.iv b.iv) (beq a.nt b.nt) p2.0 in
    qualities_equal a.iv a.nt a.sb a.bl a.ov a.cy a.ca b.iv b.nt b.sb b.bl b.ov b.cy b.ca
    (beq-true _ _ p1.0) (beq-true _ _ p1.1) (beq-true _ _ p2.1) (beq-true _ _ p3.1)
    (beq-true _ _ p4.1) (beq-true _ _ p5.1) (beq-true _ _ p6.1)

abbrev object : ℕ → ℕ → ObjectKey
object common address = record { common_address = common; address = address }

pub same_object-true : (a b : ObjectKey) → same_object a b ≡ true → a ≡ b
same_object-true a b e =
    let parts = and_parts (a.common_address == b.common_address) (a.address == b.address) e in
    ap₂ object (eqb-true a.common_address b.common_address parts.0) (eqb-true a.address b.address parts.1)

pub eq-same_object : (a b : ObjectKey) → a ≡ b → same_object a b ≡ true
eq-same_object a b e =
    and_from (a.common_address == b.common_address) (a.address == b.address)
    (eq-eqb a.common_address b.common_address (ap (λ (o : ObjectKey). o.common_address) e))
    (eq-eqb a.address b.address (ap (λ (o : ObjectKey). o.address) e))

-- it doesn't matter which one is asked
pub other_object : (a b : ObjectKey) → same_object a b ≡ false → same_object b a ≡ false
other_object a b e = elim (cases_Bool (same_object b a)) [
  | inl same ↦ absurd (true≢false (sym (eq-same_object a b (sym (same_object-true b a same))) ∙ e))
  | inr other ↦ other
]
