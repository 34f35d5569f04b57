-- What a buffer has after octets were written into it.
use Rattle.std.specs.Prelude.{◌≡◌, ℕ, ◌+◌, List, ◌++◌, length, take, drop}

-- these octets stand behind the first so many up to an end, and what lies before and behind them stays
pub record Writes (start end : ℕ) (old new octets : List ℕ) : Type 0 where
  pub ends : end ≡ start + length octets
  pub front : take end new ≡ take start old ++ octets
  pub rest : drop end new ≡ drop end old
