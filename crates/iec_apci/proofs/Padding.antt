-- An array that is filled in part.
use Rattle.std.proofs.Common.{◌≡◌, ℕ, ◌-◌, List, ◌++◌, length, drop, refl, ◌∙◌}
use Rattle.std.specs.Prelude.{replicate}
use Rattle.std.proofs.lemmas.List.{drop_at, drop-replicate}
use Rattle.std.proofs.lemmas.Slice.{overwrites}

-- the lemmas on parts of a slice that was written in part
pub ruleset written = (overwrites)

-- what is behind the octets that were written over zeros
pub zeros_behind : (new octets zeros : List ℕ) → new ≡ octets → zeros ≡ replicate 249 0
    → drop (length octets) (new ++ drop (length octets) zeros) ≡ replicate (249 - length octets) 0
zeros_behind new octets zeros e z =
    rw (e, z) (drop_at octets (drop (length octets) (replicate 249 0)) (length octets) refl
    ∙ drop-replicate (length octets) 249 0)
