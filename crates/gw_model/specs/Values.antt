-- Types of values (IEC 60870-5-101, 7.2.6).
use Rattle.std.specs.Prelude.{Bool, true, false}
use Rattle.gw_model.specs.declared.observation.Value.{Value}
use Rattle.gw_model.specs.declared.observation.Value.TheVariants.{Total}

-- an integrated total, which is sent as a binary counter reading
abbrev pub is_total : Value → Bool
is_total (Total count) = true
is_total _ = false
