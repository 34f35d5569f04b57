-- What a report keeps (IEEE Std 1815, object library).
use Rattle.std.specs.Prelude.{Bool, true, false, nat_lt}
use Rattle.gw_model.specs.declared.point.Kind.{Kind}
use Rattle.gw_model.specs.declared.point.Kind.TheVariants.{Binary, Output, Double, Counter, Analog}
use Rattle.gw_model.specs.declared.point.Raw.{Raw}
use Rattle.gw_model.specs.declared.point.Raw.TheVariants.{Bit, Two, Count, Number}
use Rattle.gw_model.specs.declared.point.Stamp.{Stamp}
use Rattle.gw_model.specs.declared.point.Stamp.TheVariants.{Untimed, At, Doubtful}

-- a raw value is one of the kind's; a double-bit state is at most 3
abbrev pub is_of_kind : Kind → Raw → Bool
is_of_kind Binary (Bit on) = true
is_of_kind Output (Bit on) = true
is_of_kind Double (Two state) = nat_lt state 4
is_of_kind Counter (Count n) = true
is_of_kind Analog (Number z) = true
is_of_kind _ _ = false

-- only an event may have a time
abbrev pub is_stamped : Bool → Stamp → Bool
is_stamped true stamp = true
is_stamped false Untimed = true
is_stamped false (At t) = false
is_stamped false (Doubtful t) = false
