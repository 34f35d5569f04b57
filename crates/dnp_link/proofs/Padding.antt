-- An array that is filled in part.
use Rattle.std.proofs.Common.{◌≡◌, ℕ, ◌-◌, List, ◌++◌, length, drop, refl, sym, ◌∙◌}
use Rattle.std.specs.Prelude.{replicate}
use Rattle.std.proofs.lemmas.List.{drop_at, drop-replicate}

-- what is behind the octets that were written over zeros
pub zeros_behind : (new zeros : List ℕ) (n len : ℕ) → length new ≡ len → n ≡ len → zeros ≡ replicate 250 0
    → drop len (new ++ drop n zeros) ≡ replicate (250 - len) 0
zeros_behind new zeros n len long e z =
    rw (e, sym long, z)
    (drop_at new (drop (length new) (replicate 250 0)) (length new) refl ∙ drop-replicate (length new) 250 0)
