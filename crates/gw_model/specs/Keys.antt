-- When two keys, and what two observations show, are the same.
use Rattle.std.specs.Prelude.{Bool, true, false, ◌&&◌, ◌==◌}
use Rattle.std.proofs.Math.Bool.{beq}
use Rattle.std.specs.Ordering.{int_eq}
use Rattle.gw_model.specs.declared.point.Kind.{Kind}
use Rattle.gw_model.specs.declared.point.Kind.TheVariants as kinds
use Rattle.gw_model.specs.declared.point.PointKey.{PointKey}
use Rattle.gw_model.specs.declared.point.ObjectKey.{ObjectKey}
use Rattle.gw_model.specs.declared.observation.Value.{Value}
use Rattle.gw_model.specs.declared.observation.Value.TheVariants.{Single, Double, Scaled, Word, Total}
use Rattle.gw_model.specs.declared.observation.Quality.{Quality}
use Rattle.gw_model.specs.declared.observation.Observation.{Observation}

abbrev pub same_kind : Kind → Kind → Bool
same_kind kinds.Binary kinds.Binary = true
same_kind kinds.Output kinds.Output = true
same_kind kinds.Double kinds.Double = true
same_kind kinds.Counter kinds.Counter = true
same_kind kinds.Analog kinds.Analog = true
same_kind _ _ = false

abbrev pub same_key : PointKey → PointKey → Bool
same_key a b = (a.outstation == b.outstation) && same_kind a.kind b.kind && (a.index == b.index)

abbrev pub same_object : ObjectKey → ObjectKey → Bool
same_object a b = (a.common_address == b.common_address) && (a.address == b.address)

-- the information object that an observation is of
abbrev pub object_of : Observation → ObjectKey
object_of x = record { common_address = x.common; address = x.address }

abbrev pub same_value : Value → Value → Bool
same_value (Single a) (Single b) = beq a b
same_value (Double a) (Double b) = a == b
same_value (Scaled a) (Scaled b) = int_eq a b
same_value (Word a) (Word b) = a == b
same_value (Total a) (Total b) = a == b
same_value _ _ = false

abbrev pub same_quality : Quality → Quality → Bool
same_quality a b =
    beq a.iv b.iv && beq a.nt b.nt && beq a.sb b.sb && beq a.bl b.bl && beq a.ov b.ov && beq a.cy b.cy && beq a.ca b.ca

-- value and quality are the same
abbrev pub same_shown : Observation → Observation → Bool
same_shown a b = same_value a.value b.value && same_quality a.quality b.quality
