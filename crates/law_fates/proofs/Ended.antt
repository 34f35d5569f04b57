-- The order under way to an outstation ends, and that is told.
use Rattle.std.proofs.Common.{◌≡◌, ℕ, ◌+◌, Bool, true, false, cond, ◌&&◌, List, [], ◌∷◌}
use Rattle.std.proofs.Common.{◌++◌, map, Option, Some, None, option_map, refl, arith}
use Rattle.std.specs.Prelude.{slice_get}
use Rattle.std.specs.Option.{option_to_list}
use Rattle.gw_model.specs.First.{when}
use Rattle.gw_model.specs.declared.control.Ended.{Ended}
use Rattle.gw_picture.proofs.Lists.{change-here}
use Rattle.gw_control.specs.declared.accepted.Accepted.{Accepted}
use Rattle.gw_control.specs.declared.accepted.UnderWay.{UnderWay}
use Rattle.gw_control.specs.Controls.{Controls}
use Rattle.gw_control.specs.Moves.{one_if}
use Rattle.gw_control.specs.Orders.{Outgoing, is_named, is_numbered, outgoing_after_ended}
use Rattle.dnp_master.specs.declared.fate.Fate.{Fate}
use Rattle.gw_steps.specs.declared.effects.OrderEnd.{OrderEnd}
use Rattle.gw_steps.specs.Controls.{controls_with_ended}
use Rattle.gw_steps.specs.Effects.{end_at, end_of, order_end}
use Rattle.law_fates.specs.Fates.{Named, named_at, named_by}
use Rattle.law_fates.proofs.Counts.{all_so, at_so, changed, going_so, times, waiting_so, way_at, way_of, way_so}
use Rattle.law_fates.proofs.Says.{Says}

-- ---- what is told

pub ends_append : (p : Named → Bool) (xs ys : List OrderEnd)
    → times p (map named_by (xs ++ ys)) ≡ times p (map named_by xs) + times p (map named_by ys)
ends_append p [] ys = omega arith
ends_append p (x ∷ xs) ys = omega (arith, ends_append p xs ys)

-- all of these ended so
pub ends_count : (p : Named → Bool) (o : ℕ) (fate : Fate) (xs : List Accepted)
    → times p (map named_by (map (order_end o fate) xs)) ≡ waiting_so p o xs
ends_count p o fate [] = refl
ends_count p o fate (x ∷ xs) = omega (arith, ends_count p o fate xs)

-- ---- the one under way

-- 1 where it is the one that ended, and passes
abbrev pub ended_so : (Named → Bool) → ℕ → Option Ended → Option Accepted → ℕ
ended_so p o None x = 0
ended_so p o (Some e) None = 0
ended_so p o (Some e) (Some x) = one_if (is_numbered e.number x && p (named_at o x))

ending : (p : Named → Bool) (o : ℕ) (e : Ended) (xs : List Accepted) (u : Option UnderWay)
    → going_so p o (record { waiting = xs; under_way = u })
    ≡ going_so p o (outgoing_after_ended e (record { waiting = xs; under_way = u }))
    + ended_so p o (Some e) (way_of u)
ending p o e xs None = omega arith
ending p o e xs (Some u) = by (is_named e u)
  where
    by : (named : Bool)
        → one_if (p (named_at o u.accepted)) + waiting_so p o xs
        ≡ way_so p o (way_of (cond named None (Some u))) + waiting_so p o xs
        + one_if (named && p (named_at o u.accepted))
    by true = omega arith
    by false = omega arith

ending_at : (p : Named → Bool) (o : ℕ) (e : Ended) (q : Option Outgoing)
    → at_so p o q + 0 ≡ at_so p o (option_map (outgoing_after_ended e) q) + ended_so p o (Some e) (way_at q)
ending_at p o e None = refl
ending_at p o e (Some q) = omega (arith, ending p o e q.waiting q.under_way)

pub with_ended : (p : Named → Bool) (o : ℕ) (e : Option Ended) (v : Controls)
    → all_so p 0 v.outgoing
    ≡ all_so p 0 (controls_with_ended o e v).outgoing + ended_so p o e (way_at (slice_get v.outgoing o))
with_ended p o None v = omega arith
with_ended p o (Some e) v =
    omega (
      arith,
      changed p 0 o o 0 (ended_so p o (Some e) (way_at (slice_get v.outgoing o))) (outgoing_after_ended e) v.outgoing
          (omega arith) (ending_at p o e (slice_get v.outgoing o)),
    )

pub ended_here : (o : ℕ) (e : Ended) (v : Controls)
    → slice_get (controls_with_ended o (Some e) v).outgoing o
    ≡ option_map (outgoing_after_ended e) (slice_get v.outgoing o)
ended_here o e v = change-here o (outgoing_after_ended e) v.outgoing

-- ---- its fate

told_way : (p : Named → Bool) (o : ℕ) (fate : Fate) (e : Ended) (u : Option UnderWay)
    → times p (map named_by (option_to_list (end_of o fate e u))) ≡ ended_so p o (Some e) (way_of u)
told_way p o fate e None = refl
told_way p o fate e (Some u) = by (is_named e u)
  where
    by : (named : Bool)
        → times p (map named_by (option_to_list (when named (order_end o fate u.accepted))))
        ≡ one_if (named && p (named_at o u.accepted))
    by true = omega arith
    by false = refl

pub end_told : (p : Named → Bool) (o : ℕ) (fate : Option Fate) (e : Option Ended) (q : Option Outgoing) → Says fate e
    → times p (map named_by (end_at o fate e q)) ≡ ended_so p o e (way_at q)
end_told p o None None q says = refl
end_told p o None (Some e) q says = absurd says
end_told p o (Some fate) None q says = refl
end_told p o (Some fate) (Some e) None says = refl
end_told p o (Some fate) (Some e) (Some q) says = told_way p o fate e q.under_way
