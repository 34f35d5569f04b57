-- The front of the line that is being read.
use Rattle.std.specs.Prelude.{ℕ, List, [], ◌++◌, take}

-- how many octets of a line are kept, the line's number, and what is kept of it
pub record Front : Type 0 where
  pub most : ℕ
  pub number : ℕ
  pub octets : List ℕ

-- the first line, before anything of it came
abbrev pub first_front : ℕ → Front
first_front most = record { most = most; number = 1; octets = [] }

-- what is kept of a line that goes on
abbrev pub with_more : Front → List ℕ → Front
with_more line piece = record line { octets = take line.most (line.octets ++ piece) }
