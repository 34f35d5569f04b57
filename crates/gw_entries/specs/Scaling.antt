-- What a scale makes of a value.
use Rattle.std.specs.Prelude.{ℤ, pos, ◌*ℤ◌, int_div}
use Rattle.gw_entries.specs.declared.row.Scale.{Scale}

-- a value multiplied by a scale, truncated toward zero
abbrev pub scaled_by : Scale → ℤ → ℤ
scaled_by scale z = int_div (z *ℤ pos scale.num) (pos scale.den)
