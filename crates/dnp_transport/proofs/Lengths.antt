-- How long the fragments are that a step gives.
use Rattle.std.proofs.Common.{◌≡◌, ℕ, ◌<◌, true, not, eqb, ltb, List, [], ◌∷◌}
use Rattle.std.proofs.Common.{◌++◌, length, Option, Some, None, arith, length-append}
use Rattle.std.proofs.lemmas.Bool.{cond_both, ltb-true, ltb-false, not-false}
use Rattle.dnp_transport.specs.declared.answer.DropCause.TheVariants.{Gap, TooLong, Empty}
use Rattle.dnp_transport.specs.Segment.{is_final, is_first, sequence, carried_octets, is_whole}
use Rattle.dnp_transport.specs.Series.{Series, Answer, Fragment, Dropped, HasLength, step_joining, step_without_first, step}

carried_octets-length : (s : List ℕ) → is_whole s ≡ true → 0 < length (carried_octets s)
carried_octets-length [] whole = absurd cc
carried_octets-length (header ∷ octets) whole =
    let some : 1 < length (header ∷ octets) = ltb-true _ _ whole in
    omega arith

-- the answer gives no fragment, or one of a right length
abbrev pub Gives : Answer × Option Series → Type 0
Gives taken = HasLength taken.0

pub joined_length : (octets s : List ℕ) → 0 < length octets → Gives (step_joining octets s)
joined_length octets s some =
    cond_both (ltb 2048 (length octets)) (Dropped TooLong, None) _ Gives (λ long. tt)
    (λ short. cond_both (is_final s) (Fragment octets, None) _ Gives (λ last. (some, ltb-false _ _ short)) (λ more. tt))

pub continued_length : (series : Option Series) (s : List ℕ) → is_whole s ≡ true → Gives (step_without_first series s)
continued_length None s whole = tt
continued_length (Some series) s whole =
    let some : 0 < length (series.octets ++ carried_octets s) =
    omega (arith, length-append series.octets (carried_octets s), carried_octets-length s whole) in
    cond_both (eqb (sequence s) series.next) (step_joining (series.octets ++ carried_octets s) s)
    (Dropped Gap, None) Gives
    (λ next. joined_length (series.octets ++ carried_octets s) s some)
    (λ other. tt)

pub step_length : (series : Option Series) (s : List ℕ) → HasLength (step series s).0
step_length series s =
    cond_both (not (is_whole s)) (Dropped Empty, series) _ Gives (λ empty. tt)
    (λ held. let whole = not-false _ held in
    cond_both (is_first s) (step_joining (carried_octets s) s) (step_without_first series s) Gives
    (λ first. joined_length (carried_octets s) s (carried_octets-length s whole))
    (λ later. continued_length series s whole))
