-- An assembler takes the segments of a fragment as that fragment, whatever came before and comes after.
use Rattle.std.proofs.Common.{◌≡◌, ℕ, ◌+◌, ◌-◌, ◌%◌, ◌<◌, ◌≤◌, Bool, true, false, eqb, ltb, List, []}
use Rattle.std.proofs.Common.{◌∷◌, ◌++◌, length, take, drop, replicate, zero, suc, Option, Some, None, refl, sym, ◌∙◌}
use Rattle.std.proofs.Common.{ap, arith, append_assoc, length-append, length-take, length-drop, take-append-drop}
use Rattle.std.proofs.lemmas.Bool.{cond-true, eq-eqb, ne_eqb, lt-ltb, le-ltb}
use Rattle.std.proofs.lemmas.List.{nil_from_length, take_all}
use Rattle.std.proofs.lemmas.List.Elements.{filter_map-append}
use Rattle.dnp_transport.specs.Segment.{is_final, is_first, sequence, carried_octets, is_whole}
use Rattle.dnp_transport.specs.Fragment.{fragments_of}
use Rattle.dnp_transport.specs.Series.{Series, Answer, Fragment, More, step_joining, step}
use Rattle.dnp_transport.specs.Runs.{answers_from, series_after, fragment_in, fragments_in}
use Rattle.dnp_transport.specs.Cut.{segment_count, header_of, segments_from, segments_of}
use Rattle.dnp_transport.proofs.Cutting.{segments_from-nil, segments_from-cons}
use Rattle.dnp_transport.proofs.LookingBack.{step-first, step-later}
use Rattle.dnp_transport.proofs.WholeRuns.{whole, answers_from-append}

-- a header tells what it was made of
final_again : (last first : Bool) (number : ℕ) (part : List ℕ) → is_final (header_of last first number ∷ part) ≡ last
final_again true true number part = eq-eqb _ _ (omega arith)
final_again true false number part = eq-eqb _ _ (omega arith)
final_again false true number part = ne_eqb _ _ (λ e. omega arith)
final_again false false number part = ne_eqb _ _ (λ e. omega arith)

first_again : (last first : Bool) (number : ℕ) (part : List ℕ) → is_first (header_of last first number ∷ part) ≡ first
first_again true true number part = eq-eqb _ _ (omega arith)
first_again true false number part = ne_eqb _ _ (λ e. omega arith)
first_again false true number part = eq-eqb _ _ (omega arith)
first_again false false number part = ne_eqb _ _ (λ e. omega arith)

sequence_again : (last first : Bool) (number : ℕ) (part : List ℕ)
    → sequence (header_of last first number ∷ part) ≡ number % 64
sequence_again true true number part = omega arith
sequence_again true false number part = omega arith
sequence_again false true number part = omega arith
sequence_again false false number part = omega arith

-- A segment that begins, or not, and has the number, joins the octets at front.
abbrev Joins : Option Series → Bool → ℕ → List ℕ → Type 0
Joins series begins number front =
    (s : List ℕ) → is_whole s ≡ true → is_first s ≡ begins → sequence s ≡ number % 64
    → step series s ≡ step_joining (front ++ carried_octets s) s

Joins-first : (series : Option Series) (number : ℕ) → Joins series true number []
Joins-first series number s held first same = step-first series s held first

Joins-later : (front : List ℕ) (next number : ℕ) → next ≡ number % 64
    → Joins (Some (record { next = next; octets = front })) false number front
Joins-later front next number e s held later same =
    let fits : eqb (sequence s) next ≡ true = eq-eqb _ _ (same ∙ sym e) in
    step-later _ s held later ∙ cond-true _ _ _ fits

step_joining-last : (octets s : List ℕ) → length octets ≤ 2048 → is_final s ≡ true
    → step_joining octets s ≡ (Fragment octets, None)
step_joining-last octets s short last =
    let within : ltb 2048 (length octets) ≡ false = le-ltb _ _ short in
    rw (within, last) refl

step_joining-more : (octets s : List ℕ) → length octets ≤ 2048 → is_final s ≡ false
    → step_joining octets s ≡ (More, Some (record { next = (sequence s + 1) % 64; octets = octets }))
step_joining-more octets s short more =
    let within : ltb 2048 (length octets) ≡ false = le-ltb _ _ short in
    rw (within, more) refl

ahead : (series : Option Series) (s : List ℕ) (rest more : List (List ℕ)) (taken : Answer × Option Series)
    → step series s ≡ taken
    → answers_from series ((s ∷ rest) ++ more) ≡ taken.0 ∷ answers_from taken.1 (rest ++ more)
ahead series s rest more taken e = ap (λ (t : Answer × Option Series). t.0 ∷ answers_from t.1 (rest ++ more)) e

-- the answer that gives a fragment
abbrev given : List ℕ → Answer × Option Series
given octets = (Fragment octets, None)

-- the first segment of octets
abbrev first_of : Bool → ℕ → List ℕ → List ℕ
first_of begins number octets = header_of (eqb (length (drop 249 octets)) 0) begins number ∷ take 249 octets

first_joins : (series : Option Series) (begins : Bool) (number : ℕ) (front octets : List ℕ)
    → Joins series begins number front → 0 < length octets
    → step series (first_of begins number octets)
    ≡ step_joining (front ++ take 249 octets) (first_of begins number octets)
first_joins series begins number front octets joins some =
    joins (first_of begins number octets) (lt-ltb _ _ (omega (arith, length-take 249 octets)))
    (first_again (eqb (length (drop 249 octets)) 0) begins number (take 249 octets))
    (sequence_again (eqb (length (drop 249 octets)) 0) begins number (take 249 octets))

next_again : (a b n : ℕ) → a ≡ n % 64 → b ≡ (n + 1) % 64 → (a + 1) % 64 ≡ b % 64
next_again a b n ea eb = omega arith

taken_on : (count : ℕ) (series : Option Series) (begins : Bool) (number : ℕ) (front octets : List ℕ)
    (more : List (List ℕ))
    → Joins series begins number front → segment_count (length octets) ≡ suc count → length front + length octets ≤ 2048
    → answers_from series (segments_from begins number octets ++ more)
    ≡ replicate count More ++ Fragment (front ++ octets) ∷ answers_from None more
taken_on zero series begins number front octets more joins one short =
    let all : take 249 octets ≡ octets = take_all 249 octets (omega arith) in
    let none : drop 249 octets ≡ [] = nil_from_length _ (omega (arith, length-drop 249 octets)) in
    let last : is_final (first_of begins number octets) ≡ true =
    final_again (eqb (length (drop 249 octets)) 0) begins number (take 249 octets) ∙ eq-eqb _ _ (ap length none) in
    let taken : step series (first_of begins number octets) ≡ (Fragment (front ++ octets), None) =
    first_joins series begins number front octets joins (omega arith)
    ∙ (step_joining-last (front ++ take 249 octets) (first_of begins number octets)
    (omega (arith, length-append front (take 249 octets), ap length all)) last
    ∙ ap (λ (o : List ℕ). given (front ++ o)) all) in
    ap (λ (ss : List (List ℕ)). answers_from series (ss ++ more))
    (segments_from-cons begins number octets (omega arith))
    ∙ (ahead series (first_of begins number octets) (segments_from false ((number + 1) % 64) (drop 249 octets)) more
    (Fragment (front ++ octets), None) taken
    ∙ ap (λ (o : List ℕ).
    Fragment (front ++ octets) ∷ answers_from None (segments_from false ((number + 1) % 64) o ++ more)) none
    ∙ ap (λ (ss : List (List ℕ)). Fragment (front ++ octets) ∷ answers_from None (ss ++ more))
    (segments_from-nil false ((number + 1) % 64)))
taken_on (suc count) series begins number front octets more joins many short =
    let some : 0 < length (drop 249 octets) = omega (arith, length-drop 249 octets) in
    let goes_on : is_final (first_of begins number octets) ≡ false =
    final_again (eqb (length (drop 249 octets)) 0) begins number (take 249 octets) ∙ ne_eqb _ _ (λ e. omega arith) in
    let next = (sequence (first_of begins number octets) + 1) % 64 in
    let taken : step series (first_of begins number octets)
    ≡ (More, Some (record { next = next; octets = front ++ take 249 octets })) =
    first_joins series begins number front octets joins (omega arith)
    ∙ step_joining-more (front ++ take 249 octets) (first_of begins number octets)
    (omega (arith, length-append front (take 249 octets), length-take 249 octets)) goes_on in
    let rest = taken_on count (Some (record { next = next; octets = front ++ take 249 octets })) false
    ((number + 1) % 64) (front ++ take 249 octets) (drop 249 octets) more
    (Joins-later (front ++ take 249 octets) next ((number + 1) % 64)
    (next_again _ _ number (sequence_again (eqb (length (drop 249 octets)) 0) begins number (take 249 octets)) refl))
    (omega (arith, length-drop 249 octets))
    (omega (arith, length-append front (take 249 octets), length-take 249 octets, length-drop 249 octets)) in
    ap (λ (ss : List (List ℕ)). answers_from series (ss ++ more))
    (segments_from-cons begins number octets (omega arith))
    ∙ (ahead series (first_of begins number octets)
    (segments_from false ((number + 1) % 64) (drop 249 octets)) more _ taken
    ∙ ap (λ (given : List Answer). More ∷ given) rest
    ∙ ap (λ (o : List ℕ). More ∷ (replicate count More ++ Fragment o ∷ answers_from None more)) (append_assoc front
    (take 249 octets) (drop 249 octets) ∙ ap (λ (o : List ℕ). front ++ o) (take-append-drop 249 octets)))

pub answers_again : (series : Option Series) (fragment : List ℕ) (first : ℕ) (more : List (List ℕ))
    → 0 < length fragment → length fragment ≤ 2048
    → answers_from series (segments_of fragment first ++ more)
    ≡ replicate (segment_count (length fragment) - 1) More ++ Fragment fragment ∷ answers_from None more
answers_again series fragment first more some short =
    taken_on (segment_count (length fragment) - 1) series true first [] fragment more (Joins-first series first)
    (omega arith) (omega arith)

no_fragments : (count : ℕ) (answers : List Answer)
    → fragments_in (replicate count More ++ answers) ≡ fragments_in answers
no_fragments zero answers = refl
no_fragments (suc count) answers = no_fragments count answers

pub fragments_again : (before more : List (List ℕ)) (fragment : List ℕ) (first : ℕ) → 0 < length fragment
    → length fragment ≤ 2048
    → fragments_of (before ++ segments_of fragment first ++ more) ≡ fragments_of before ++ fragment ∷ fragments_of more
fragments_again before more fragment first some short =
    let count = segment_count (length fragment) - 1 in
    let series = series_after None before in
    sym (whole (before ++ segments_of fragment first ++ more))
    ∙ (ap (λ (ss : List (List ℕ)). fragments_in (answers_from None ss))
    (append_assoc before (segments_of fragment first) more)
    ∙ (ap fragments_in (answers_from-append None before (segments_of fragment first ++ more))
    ∙ (filter_map-append fragment_in (answers_from None before)
    (answers_from series (segments_of fragment first ++ more))
    ∙ (ap (λ (given : List Answer). fragments_in (answers_from None before) ++ fragments_in given)
    (answers_again series fragment first more some short)
    ∙ (ap (λ (fs : List (List ℕ)). fragments_in (answers_from None before) ++ fs)
    (no_fragments count (Fragment fragment ∷ answers_from None more))
    ∙ (ap (λ (fs : List (List ℕ)). fs ++ fragment ∷ fragments_in (answers_from None more)) (whole before)
    ∙ ap (λ (fs : List (List ℕ)). fragments_of before ++ fragment ∷ fs) (whole more)))))))
