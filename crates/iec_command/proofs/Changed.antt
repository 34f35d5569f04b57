-- An element of one octet, written into a buffer.
use Rattle.std.proofs.Common.{◌≡◌, ℕ, ◌<◌, List, [], ◌∷◌, length, take, drop, set, ap, sym, ◌∙◌}
use Rattle.std.proofs.lemmas.List.{drop-set}

pub octet_put : (element out : List ℕ) (v : ℕ) → 9 < length out → element ≡ v ∷ []
    → take (length element) (drop 9 (set out 9 v)) ≡ element
octet_put element out v room one =
    ap (λ (e : List ℕ). take (length e) (drop 9 (set out 9 v))) one
    ∙ (ap (λ (o : List ℕ). take 1 o) (drop-set out 9 v room) ∙ sym one)
