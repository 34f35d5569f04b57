-- News that stand in two slices, copied one behind the other.
use Rattle.std.proofs.Common.{◌≡◌, ℕ, zero, suc, ◌+◌, ◌-◌, ◌<◌, ◌≤◌, List, []}
use Rattle.std.proofs.Common.{◌∷◌, ◌++◌, length, take, sym, ap, ◌∙◌, arith, length-append}
use Rattle.std.proofs.lemmas.List.{length-take-le}
use Rattle.std.proofs.lemmas.Slice.{take-put_mid}
use borrow.Rule.Slice.PartMut.{put_mid, post_of}
use Rattle.gw_model.specs.declared.observation.Observation.{Observation}

take_over : (front back : List Observation) (count : ℕ) → length front ≤ count
    → take count (front ++ back) ≡ front ++ take (count - length front) back
take_over [] back count long = let same : count - 0 ≡ count = omega arith in
    ap (λ (n : ℕ). take n back) (sym same)
take_over (x ∷ front) back zero long = absurd (omega (arith, long))
take_over (x ∷ front) back (suc count) long =
    let same : count - length front ≡ suc count - length (x ∷ front) = omega arith in
    ap (λ (xs : List Observation). x ∷ xs)
    (take_over front back count (omega (arith, long)) ∙ ap (λ (n : ℕ). front ++ take n back) same)

pub over_seam : (count : ℕ) (both front back one two : List Observation) → one ≡ front
    → two ≡ take (count - length front) back → length front < count → count ≤ length front + length back
    → take count (put_mid (length front) (count - length front) (put_mid 0 (length front) both one) two)
    ≡ take count (front ++ back)
over_seam count both front back one two is then over within =
    let first : List Observation = put_mid 0 (length front) both one in
    let long : length two ≡ count - length front =
    ap length then ∙ length-take-le (count - length front) back (omega (arith, within)) in
    let room : length front ≤ length first =
    omega (arith, length-append one (post_of 0 (length front) both), ap length is) in
    take-put_mid (length front) (count - length front) first two count (omega (arith, long, over)) room
    ∙ (ap (λ (xs : List Observation). xs ++ two)
    (take-put_mid 0 (length front) both one (length front) (omega (arith, ap length is)) (omega arith) ∙ is)
    ∙ (ap (λ (xs : List Observation). front ++ xs) then
    ∙ sym (take_over front back count (omega (arith, over)))))
