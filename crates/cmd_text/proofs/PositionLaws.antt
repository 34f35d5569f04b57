-- Where the first line feed is.
use Rattle.std.proofs.Common.{◌≡◌, ◌≢◌, ℕ, ◌+◌, ◌<◌, Bool, true, not, eqb, eqb-true}
use Rattle.std.proofs.Common.{List, [], ◌∷◌, ◌++◌, All, get_or, length, take, Some}
use Rattle.std.proofs.Common.{None, sym, ap, ◌∙◌, arith, position, inl, inr, true≢false}
use Rattle.std.proofs.lemmas.Bool.{eq-eqb, cases_lt, cond_below}
use Rattle.std.proofs.lemmas.List.{get_or-take, take_more, length-take}
use Rattle.std.proofs.lemmas.List.Quantifiers.{position-Some}
use Rattle.std.proofs.lemmas.List.Sums.{prefix_len_passes}
use Rattle.std.specs.List.{prefix_len}

abbrev is_feed : ℕ → Bool
is_feed x = eqb x 10

-- no line feed comes
pub all_in_line : (octets : List ℕ) → position is_feed octets ≡ None → All (λ x. x ≢ 10) octets
all_in_line octets none k d within is =
    let n = prefix_len (λ (x : ℕ). not (eqb x 10)) octets in
    elim (cases_lt n (length octets)) [
      | inl below ↦
          let some : Some n ≡ position is_feed octets = cond_below n (length octets) (Some n) None below in
          let both : Some n ≡ None = some ∙ none in
          absurd cc
      | inr past ↦
          let passes : not (eqb (get_or octets k d) 10) ≡ true =
          prefix_len_passes (λ (x : ℕ). not (eqb x 10)) octets k d (omega arith) in
          absurd (true≢false (sym passes ∙ ap not (eq-eqb (get_or octets k d) 10 is)))
    ]

-- up to the line feed, and with it
pub line_before : (octets : List ℕ) (i : ℕ) → position is_feed octets ≡ Some i
    → (i < length octets) × (take (i + 1) octets ≡ take i octets ++ 10 ∷ []) × All (λ x. x ≢ 10) (take i octets)
line_before octets i is =
    let at = position-Some is_feed octets i 0 is in (
      at.0,
      take_more octets i 0 at.0 ∙ ap (λ (x : ℕ). take i octets ++ x ∷ []) (eqb-true _ _ at.1),
      λ k d within feed.
          let before : k < i = omega (arith, length-take i octets) in
          let found = position-Some is_feed octets i d is in
          let same : get_or octets k d ≡ 10 = sym (get_or-take i octets k d before) ∙ feed in
          true≢false (sym (eq-eqb (get_or octets k d) 10 same) ∙ found.2 k before),
    )
