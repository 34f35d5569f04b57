-- Passes, one for each actor.
use Rattle.std.proofs.Common.{◌≡◌, ◌∙◌, ℕ, ◌+◌, List, [], ◌∷◌, ◌++◌, map, sym, ap, arith}
use Rattle.std.specs.List.{range_with_len}
use Rattle.std.proofs.lemmas.List.FromFn.{map-range_with_len_more}
use Rattle.run_shared.specs.Reached.{Deed}
use Rattle.run_shared.specs.Turn.{Pass, unused}

-- the next actor's pass behind those so far, which are of as many actors as come to this number
pub one-more : (so_far next : List Pass) (actor made number all : ℕ) (seen : List Deed)
    → so_far ≡ map unused (range_with_len 0 actor)
    → next ≡ so_far ++ record { actor = number; made = made; seen = seen } ∷ [] → made ≡ 0 → seen ≡ [] → number ≡ actor
    → all ≡ actor + 1
    → next ≡ map unused (range_with_len 0 all)
one-more so_far next actor made number all seen before push none nothing is count =
    push
    ∙ (ap (λ (ps : List Pass). ps ++ record { actor = number; made = made; seen = seen } ∷ []) before
    ∙ (ap (λ (m : ℕ). map unused (range_with_len 0 actor) ++ record { actor = number; made = m; seen = seen } ∷ []) none
    ∙ (ap (λ (s : List Deed). map unused (range_with_len 0 actor) ++ record { actor = number; made = 0; seen = s } ∷ []) nothing
    ∙ (ap (λ (a : ℕ). map unused (range_with_len 0 actor) ++ unused a ∷ []) is
    ∙ (sym (map-range_with_len_more unused 0 actor actor (omega arith))
    ∙ ap (λ (n : ℕ). map unused (range_with_len 0 n)) (sym count))))))
