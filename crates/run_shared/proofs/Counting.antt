-- What is counted by actor, together.
use Rattle.std.proofs.Common.{◌≡◌, ℕ, ◌+◌, ◌<◌, List, length, arith}
use Rattle.std.specs.Prelude.{slice_index, slice_set, sum}
use Rattle.std.proofs.lemmas.List.{length-set}
use Rattle.std.proofs.lemmas.List.Sums.{sum_by-set}

-- one more call of an actor is one more call
pub sum-raised : (counts : List ℕ) (actor : ℕ) → actor < length counts
    → sum (slice_set counts actor (slice_index counts actor + 1)) ≡ sum counts + 1
sum-raised counts actor within =
    omega (arith, sum_by-set (λ (n : ℕ). n) counts actor (slice_index counts actor + 1) 0 within)

-- as many actors as before
pub length-raised : (counts : List ℕ) (actor : ℕ)
    → length (slice_set counts actor (slice_index counts actor + 1)) ≡ length counts
length-raised counts actor = length-set counts actor (slice_index counts actor + 1)
