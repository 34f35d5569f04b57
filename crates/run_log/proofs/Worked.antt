-- The worked log.
use Rattle.std.proofs.Common.{◌≡◌, ℕ, List, [], ◌∷◌, ◌++◌, refl}
use Rattle.run_log.specs.Follows.{Follows, of_lane}
use Rattle.run_log.specs.Example.{early, late}

pub follows_other : Follows 1 early late
follows_other = record { newer = (0, 30) ∷ []; is = refl; apart = refl }

pub not_own : Follows 0 early late → ⊥
not_own p = by p.newer p.is p.apart
  where
    by : (newer : List (ℕ × ℕ)) → late ≡ newer ++ early → of_lane 0 newer ≡ [] → ⊥
    by [] is apart = cc is
    by (e ∷ newer) is apart = cc (is, apart)
