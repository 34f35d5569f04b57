-- A queue of octets as a client sees it.
use Rattle.std.specs.Prelude.{ℕ, List}

-- the octets that are left, and how many octets are kept, used up or not
pub record Queue : Type 0 where
  pub left : List ℕ
  pub kept : ℕ
