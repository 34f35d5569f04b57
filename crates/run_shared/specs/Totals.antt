-- What the passes have counted together.
use Rattle.std.specs.Prelude.{ℕ, List}
use Rattle.std.specs.List.{sum_by}
use Rattle.run_shared.specs.Turn.{Pass}

-- the calls that all these passes have made
abbrev pub total_of : List Pass → ℕ
total_of passes = sum_by (λ (p : Pass). p.made) passes
