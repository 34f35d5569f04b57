-- The passes of the first actors, and the last of them.
use Rattle.std.proofs.Common.{◌≡◌, ◌∙◌, ℕ, ◌+◌, List, [], ◌∷◌, ◌++◌, map, length, refl, sym, ap, subst, arith}
use Rattle.std.specs.List.{range_with_len}
use Rattle.std.proofs.lemmas.List.{length_push, same_from_push}
use Rattle.std.proofs.lemmas.List.FromFn.{length-map-range_with_len, map-range_with_len_more}
use Rattle.run_shared.specs.Turn.{Pass, unused}
use Rattle.run_server.specs.Roles.{AreFirst}

-- so many are those of the first actors
pub are_first : (passes : List Pass) (count : ℕ) → passes ≡ map unused (range_with_len 0 count) → AreFirst passes
are_first passes count are =
    let long : count ≡ length passes =
    sym (ap (λ (l : List Pass). length l) are ∙ length-map-range_with_len unused 0 count) in
    subst (λ (n : ℕ). passes ≡ map unused (range_with_len 0 n)) long are

-- the last one goes: it is the last actor's, and the others are again those of the first
pub one_less : (old new : List Pass) (last : Pass) → AreFirst old → old ≡ new ++ last ∷ []
    → AreFirst new × (last.actor ≡ length new)
one_less old new last first is =
    let n = length new in
    let long : length old ≡ n + 1 = ap (λ (l : List Pass). length l) is ∙ length_push new last in
    let both =
    same_from_push new (map unused (range_with_len 0 n)) last (unused n)
    (sym is ∙ (first ∙ (ap (λ (k : ℕ). map unused (range_with_len 0 k)) long
    ∙ map-range_with_len_more unused 0 n n (omega arith)))) in
    (both.0, ap (λ (p : Pass). p.actor) both.1)
