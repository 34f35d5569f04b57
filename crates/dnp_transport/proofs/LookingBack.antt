-- The series that an assembler keeps is the run of segments back to the last FIR, while that run may
-- still become a fragment. So its answers give the fragments that looking back finds.
use Rattle.std.proofs.Common.{◌≡◌, ℕ, ◌+◌, ◌%◌, ◌<◌, Bool, true, false, not, ◌&&◌, cond, eqb, ltb, leb, List}
use Rattle.std.proofs.Common.{[], ◌∷◌, ◌++◌, length, Option, Some, None, refl, sym, inl, inr, arith, length-append}
use Rattle.std.specs.Prelude.{option_map, option_and_then}
use Rattle.std.specs.List.{list_any}
use Rattle.std.proofs.lemmas.Bool.{cases_Bool, cases_lt, lt-ltb, le-ltb, le-leb, lt-leb, and_cases, and_parts, and_from}
use Rattle.std.proofs.lemmas.Bool.{and_left, and_right, cond-true, cond-false, not-true, not-false, leb-false}
use Rattle.dnp_transport.specs.declared.answer.DropCause.TheVariants.{Gap, Empty}
use Rattle.dnp_transport.specs.Segment.{is_final, is_first, sequence, carried_octets, is_whole}
use Rattle.dnp_transport.specs.Fragment.{back_to_first, are_consecutive, octets_of, is_fragment, fragment_ended_by_newest}
use Rattle.dnp_transport.specs.Series.{Series, Answer, Dropped, step_joining, step_without_first, step}
use Rattle.dnp_transport.specs.Runs.{fragment_in}

-- the run may still become a fragment
abbrev pub is_open : List (List ℕ) → Bool
is_open run = not (list_any is_final run) && are_consecutive run && leb (length (octets_of run)) 2048

-- what an assembler keeps of a run
abbrev pub series_of : List (List ℕ) → Option Series
series_of [] = None
series_of (newest ∷ older) = cond (is_open (newest ∷ older))
    (Some (record { next = (sequence newest + 1) % 64; octets = octets_of (newest ∷ older) })) None

-- the fragment that a run is
abbrev pub fragment_at : List (List ℕ) → Option (List ℕ)
fragment_at run = cond (is_fragment run) (Some (octets_of run)) None

-- The answer to the segment gives the fragment that the run is with it, and leaves what is kept of that run.
abbrev pub Agrees : Answer × Option Series → List (List ℕ) → Type 0
Agrees taken run = (taken.1 ≡ series_of run) × (fragment_in taken.0 ≡ fragment_at run)

-- a segment that goes on with a run
join_agrees : (s : List ℕ) (older : List (List ℕ)) → list_any is_final older ≡ false
    → are_consecutive (s ∷ older) ≡ true
    → Agrees (step_joining (octets_of (s ∷ older)) s) (s ∷ older)
join_agrees s older unended consecutive =
    let octets = octets_of (s ∷ older) in
    elim (cases_lt 2048 (length octets)) [
      | inl h ↦
          let long : ltb 2048 (length octets) ≡ true = lt-ltb 2048 (length octets) h in
          let over : leb (length octets) 2048 ≡ false = lt-leb (length octets) 2048 h in
          elim (cases_Bool (is_final s)) [
            | inl e ↦ simp (unended, consecutive, long, over, e) (refl, refl)
            | inr e ↦ simp (unended, consecutive, long, over, e) (refl, refl)
          ]
      | inr h ↦
          let short : ltb 2048 (length octets) ≡ false = le-ltb 2048 (length octets) h in
          let within : leb (length octets) 2048 ≡ true = le-leb (length octets) 2048 h in
          elim (cases_Bool (is_final s)) [
            | inl e ↦ simp (unended, consecutive, short, within, e) (refl, refl)
            | inr e ↦ simp (unended, consecutive, short, within, e) (refl, refl)
          ]
    ]

-- a run that can't become a fragment keeps nothing and gives nothing
gone : (s : List ℕ) (older : List (List ℕ)) → is_open (s ∷ older) ≡ false → is_fragment (s ∷ older) ≡ false
    → (None ≡ series_of (s ∷ older)) × (None ≡ fragment_at (s ∷ older))
gone s older closed unfit = (sym (cond-false _ _ _ closed), sym (cond-false _ _ _ unfit))

-- another segment has FIN
gone_ended : (s : List ℕ) (older : List (List ℕ)) → list_any is_final older ≡ true
    → (None ≡ series_of (s ∷ older)) × (None ≡ fragment_at (s ∷ older))
gone_ended s older ended = elim (cases_Bool (is_final s)) [
  | inl e ↦ gone s older (simp (ended, e) refl) (simp (ended, e) refl)
  | inr e ↦ gone s older (simp (ended, e) refl) (simp (ended, e) refl)
]

-- the sequence numbers break off
gone_broken : (s : List ℕ) (older : List (List ℕ)) → are_consecutive (s ∷ older) ≡ false
    → (None ≡ series_of (s ∷ older)) × (None ≡ fragment_at (s ∷ older))
gone_broken s older breaks = gone s older (and_left _ _ (and_right _ _ breaks)) (and_left _ _ (and_right _ _ breaks))

-- there are too many octets already
gone_long : (s : List ℕ) (older : List (List ℕ)) → leb (length (octets_of older)) 2048 ≡ false
    → (None ≡ series_of (s ∷ older)) × (None ≡ fragment_at (s ∷ older))
gone_long s older long =
    let above : 2048 < length (octets_of older) = leb-false _ _ long in
    let over : leb (length (octets_of older ++ carried_octets s)) 2048 ≡ false =
    lt-leb _ _ (omega (arith, length-append (octets_of older) (carried_octets s))) in
    gone s older (and_right _ _ over) (and_right _ _ over)

-- where the run before can't become a fragment, the run with the segment can't either
gone_after : (s before : List ℕ) (older : List (List ℕ)) → is_open (before ∷ older) ≡ false
    → (None ≡ series_of (s ∷ before ∷ older)) × (None ≡ fragment_at (s ∷ before ∷ older))
gone_after s before older closed = elim (and_cases _ _ closed) [
  | inl rest ↦ elim (and_cases _ _ rest) [
    | inl ended ↦ gone_ended s (before ∷ older) (not-false _ ended)
    | inr breaks ↦ gone_broken s (before ∷ older) (and_right _ _ breaks)
  ]
  | inr long ↦ gone_long s (before ∷ older) long
]

-- what is kept of a run that may still become a fragment
abbrev kept : List ℕ → List (List ℕ) → Series
kept newest older = record { next = (sequence newest + 1) % 64; octets = octets_of (newest ∷ older) }

continued_open : (s before : List ℕ) (older : List (List ℕ)) → is_open (before ∷ older) ≡ true
    → Agrees (step_without_first (Some (kept before older)) s) (s ∷ before ∷ older)
continued_open s before older fit =
    let outer = and_parts (not (list_any is_final (before ∷ older)) && are_consecutive (before ∷ older))
    (leb (length (octets_of (before ∷ older))) 2048) fit in
    let inner = and_parts (not (list_any is_final (before ∷ older))) (are_consecutive (before ∷ older)) outer.0 in
    let unended = not-true _ inner.0 in
    elim (cases_Bool (eqb (sequence s) ((sequence before + 1) % 64))) [
      | inl next ↦
          let goes_on : step_without_first (Some (kept before older)) s
          ≡ step_joining (octets_of (s ∷ before ∷ older)) s =
          cond-true _ _ _ next in
          rw goes_on (join_agrees s (before ∷ older) unended (and_from _ _ next inner.1))
      | inr other ↦
          let ends : step_without_first (Some (kept before older)) s ≡ (Dropped Gap, None) = cond-false _ _ _ other in
          rw ends (gone_broken s (before ∷ older) (and_left _ _ other))
    ]

-- the answer to a segment without FIR
continued_agrees : (s before : List ℕ) (older : List (List ℕ))
    → Agrees (step_without_first (series_of (before ∷ older)) s) (s ∷ before ∷ older)
continued_agrees s before older = elim (cases_Bool (is_open (before ∷ older))) [
  | inl fit ↦ let kept_is : series_of (before ∷ older) ≡ Some (kept before older) = cond-true _ _ _ fit in
      rw kept_is (continued_open s before older fit)
  | inr closed ↦ let none : series_of (before ∷ older) ≡ None = cond-false _ _ _ closed in
      rw none (gone_after s before older closed)
]

-- a run is never empty
begun : (first : Bool) (s : List ℕ) (before : Option (List (List ℕ)))
    → cond first (Some (s ∷ [])) (option_map (λ run. s ∷ run) before) ≡ Some [] → ⊥
begun true s before e = cc
begun false s None e = cc
begun false s (Some run) e = cc

back_to_first-some : (history : List (List ℕ)) → back_to_first history ≡ Some [] → ⊥
back_to_first-some [] e = cc
back_to_first-some (newest ∷ older) e = begun (is_first newest) newest (back_to_first older) e

pub step-empty : (series : Option Series) (s : List ℕ) → is_whole s ≡ false → step series s ≡ (Dropped Empty, series)
step-empty series s empty = rw empty refl

pub step-first : (series : Option Series) (s : List ℕ) → is_whole s ≡ true → is_first s ≡ true
    → step series s ≡ step_joining (carried_octets s) s
step-first series s whole first = rw (whole, first) refl

pub step-later : (series : Option Series) (s : List ℕ) → is_whole s ≡ true → is_first s ≡ false
    → step series s ≡ step_without_first series s
step-later series s whole later = rw (whole, later) refl

-- the same after whatever looking back finds
later_agrees : (s : List ℕ) (before : Option (List (List ℕ))) → (before ≡ Some [] → ⊥)
    → ((step_without_first (option_and_then series_of before) s).1
    ≡ option_and_then series_of (option_map (λ run. s ∷ run) before))
    × (fragment_in (step_without_first (option_and_then series_of before) s).0
    ≡ option_and_then fragment_at (option_map (λ run. s ∷ run) before))
later_agrees s None some = (refl, refl)
later_agrees s (Some []) some = absurd (some refl)
later_agrees s (Some (before ∷ older)) some = continued_agrees s before older

-- what an assembler keeps after a history of segments with a header and an octet after it
abbrev pub kept_after : List (List ℕ) → Option Series
kept_after history = option_and_then series_of (back_to_first history)

-- After a history, the answer to the next segment gives the fragment that ends with it, and keeps the run that goes on.
pub step_agrees : (s : List ℕ) (older : List (List ℕ)) → is_whole s ≡ true
    → ((step (kept_after older) s).1 ≡ kept_after (s ∷ older))
    × (fragment_in (step (kept_after older) s).0 ≡ fragment_ended_by_newest (s ∷ older))
step_agrees s older whole = elim (cases_Bool (is_first s)) [
  | inl first ↦ let taken = step-first (kept_after older) s whole first in
      rw (taken, first) (join_agrees s [] refl refl)
  | inr later ↦ let taken = step-later (kept_after older) s whole later in
      rw (taken, later) (later_agrees s (back_to_first older) (back_to_first-some older))
]
