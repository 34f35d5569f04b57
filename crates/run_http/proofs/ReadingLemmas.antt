-- What a reader gave, piece by piece.
use Rattle.std.proofs.Common.{◌≡◌, ◌∙◌, ◌≤◌, ◌+◌, ℕ, List, ◌++◌, ap, sym, length, take}
use Rattle.std.proofs.Math.Seq.{take-append-add}
use Rattle.std.proofs.lemmas.List.{length-take-le, take-append-le}

-- the front of octets, of which those behind a place were replaced
pub front-replaced : {X : Type 0} (a n : ℕ) (xs ys zs : List X) → a ≤ length xs → n ≤ length ys
    → take (a + n) (take a xs ++ (ys ++ zs)) ≡ take a xs ++ take n ys
front-replaced a n xs ys zs within short =
    ap (λ m. take (m + n) (take a xs ++ (ys ++ zs))) (sym (length-take-le a xs within))
    ∙ (take-append-add (take a xs) (ys ++ zs) n ∙ ap (λ t. take a xs ++ t) (take-append-le n ys zs short))
