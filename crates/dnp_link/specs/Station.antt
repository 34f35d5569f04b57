-- A secondary station as a client sees it.
use Rattle.std.specs.Prelude.{ℕ, Bool, Option}

-- its own address, that of the primary station, and the frame count bit that it expects, if it was reset
pub record Station : Type 0 where
  pub own : ℕ
  pub peer : ℕ
  pub expected : Option Bool
