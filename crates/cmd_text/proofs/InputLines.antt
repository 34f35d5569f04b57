-- The lines of octets before others.
use Rattle.std.proofs.Common.{◌≡◌, ◌≢◌, ℕ, cond, eqb, Bool, true, false, List, [], ◌∷◌}
use Rattle.std.proofs.Common.{◌++◌, All, refl, sym, ap, ◌∙◌, append_assoc, append-nil}
use Rattle.std.proofs.lemmas.Bool.{ne_eqb}
use Rattle.std.proofs.lemmas.List.Elements.{All-head, All-tail}
use Rattle.cmd_text.specs.Lines.{lines_of, onto_first}

-- ---- the lines of octets before others

pub onto_first-append : (front back : List ℕ) (lines : List (List ℕ))
    → onto_first front (onto_first back lines) ≡ onto_first (front ++ back) lines
unfolding onto_first
onto_first-append front back [] = refl
onto_first-append front back (line ∷ lines) = ap (λ (l : List ℕ). l ∷ lines) (sym (append_assoc front back line))

pub onto_first-nil : (octets : List ℕ) → onto_first [] (lines_of octets) ≡ lines_of octets
unfolding onto_first lines_of
onto_first-nil [] = refl
onto_first-nil (x ∷ xs) = go (eqb x 10)
  where
    go : (b : Bool) → onto_first [] (cond b ([] ∷ lines_of xs) (onto_first (x ∷ []) (lines_of xs)))
        ≡ cond b ([] ∷ lines_of xs) (onto_first (x ∷ []) (lines_of xs))
    go true = refl
    go false = onto_first-append [] (x ∷ []) (lines_of xs)

-- octets without a line feed
pub lines_of-front : (front rest : List ℕ) → All (λ x. x ≢ 10) front
    → lines_of (front ++ rest) ≡ onto_first front (lines_of rest)
unfolding lines_of
lines_of-front [] rest none = sym (onto_first-nil rest)
lines_of-front (x ∷ xs) rest none =
    ap (λ (b : Bool). cond b ([] ∷ lines_of (xs ++ rest)) (onto_first (x ∷ []) (lines_of (xs ++ rest))))
    (ne_eqb x 10 (All-head (λ y. y ≢ 10) x xs none))
    ∙ ap (onto_first (x ∷ [])) (lines_of-front xs rest (All-tail (λ y. y ≢ 10) x xs none))
    ∙ onto_first-append (x ∷ []) xs (lines_of rest)

at_feed : (rest : List ℕ) → lines_of (10 ∷ rest) ≡ [] ∷ lines_of rest
unfolding lines_of
at_feed rest = refl

onto_first-cons : (front line : List ℕ) (lines : List (List ℕ))
    → onto_first front (line ∷ lines) ≡ (front ++ line) ∷ lines
unfolding onto_first
onto_first-cons front line lines = refl

onto_first-whole : (front : List ℕ) (lines : List (List ℕ)) → onto_first front ([] ∷ lines) ≡ front ∷ lines
onto_first-whole front lines = onto_first-cons front [] lines ∙ ap (λ (l : List ℕ). l ∷ lines) (append-nil front)

-- octets that end a line
pub lines_of-line : (front rest : List ℕ) → All (λ x. x ≢ 10) front
    → lines_of ((front ++ 10 ∷ []) ++ rest) ≡ front ∷ lines_of rest
lines_of-line front rest none =
    ap lines_of (append_assoc front (10 ∷ []) rest) ∙ lines_of-front front (10 ∷ rest) none
    ∙ ap (onto_first front) (at_feed rest) ∙ onto_first-whole front (lines_of rest)

end_of : (line : List ℕ) → onto_first line (lines_of []) ≡ line ∷ []
unfolding lines_of
end_of line = onto_first-whole line []

-- octets that no line feed follows
pub lines_of-end : (line : List ℕ) → All (λ x. x ≢ 10) line → lines_of (line ++ []) ≡ line ∷ []
lines_of-end line none = lines_of-front line [] none ∙ end_of line
