use Rattle.std.proofs.Common.{◌≡◌, ℕ, zero, suc, ◌-◌, ◌≤◌, List, []}
use Rattle.std.proofs.Common.{◌∷◌, ◌++◌, length, drop, take, ap, ◌∙◌, arith}
use Rattle.std.proofs.lemmas.List.{append-nil, length-drop, take_all}
use Rattle.gw_model.specs.declared.observation.Observation.{Observation}
use Rattle.gw_station.specs.Ring.{Ring}
use Rattle.gw_station.proofs.ring.NewsRing.slices_from.Goals as goal

-- what lies behind the first slice is of the second
behind : (n : ℕ) (front back : List Observation) → length front ≤ n
    → drop (n - length front) back ≡ drop n (front ++ back)
behind n [] back le = let same : n - 0 ≡ n = omega arith in ap (λ (i : ℕ). drop i back) same
behind zero (x ∷ front) back le = absurd (omega (arith, le))
behind (suc n) (x ∷ front) back le =
    let same : suc n - length (x ∷ front) ≡ n - length front = omega arith in
    ap (λ (i : ℕ). drop i back) same ∙ behind n front back (omega (arith, le))

whole : (n : ℕ) (back : List Observation) → take (length back - n) (drop n back) ++ [] ≡ drop n back
whole n back =
    append-nil (take (length back - n) (drop n back))
    ∙ take_all (length back - n) (drop n back) (omega (arith, length-drop n back))

pub returns-then-place-back : goal.returns-then-place-back
returns-then-place-back c =
    let front = c.as_slices.result.0.now in
    let back = c.as_slices.result.1.now in
    let place = c.place_of-place.result in
    whole (place - length front) back
    ∙ (behind place front back c.if-place-front.false
    ∙ (ap (drop place) (c.as_slices.ensures ∙ ap (λ (r : Ring). r.items) c.self.view_is)
    ∙ ap (λ (i : ℕ). drop i c.args.self.now.items) c.place_of-place.ensures))
